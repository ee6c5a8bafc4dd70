-- `suis::finding::too_many` meets its contract. In the needs, `start` is the function's entry. Assumes nothing.
use mathlib.Core.Path.{◌≡◌}
use native.Mathlib.Omega.{arith}
use mir.Facts.{to_z-of_z}
use Prim.Native.Nat.{ℕ}
use Rattle.series.specs.declared.Body.TheVariants.{Moon}
use Rattle.series.specs.Series.{Series, series}
use Rattle.turns.specs.Listed.{turns_by, turns_of}
use Rattle.turns.specs.Searched.{count_is}
use Rattle.suis.specs.theory.Window.{crowded_eight, crowded_nine}
use Rattle.suis.proofs.finding.too_many.Goals as goal
use Rattle.suis.proofs.finding.too_many.Goals.{After-turns_by-by, Start}

abbrev series_of : Start → Series
series_of start = series Moon start.args.start.0 start.args.coefs.now

abbrev counted : Start → ℕ
counted start = turns_by start.args.leap.now (series_of start) start.args.zone start.args.last

at_by : (c : After-turns_by-by) → c.turns_by-by.result ≡ counted c.before
at_by c = rw (to_z-of_z c.ranges.zone, to_z-of_z c.ranges.last) at c.turns_by-by.ensures

pub returns-then-listed-by : goal.returns-then-listed-by
returns-then-listed-by c =
    let listed = count_is c.requires in
    (crowded_eight (turns_of (series_of (goal.at.returns-then-listed-by c).Start)) (counted (goal.at.returns-then-listed-by c).Start) (omega (arith, at_by (goal.at.returns-then-listed-by c).After-turns_by-by, listed, c.if-listed-by.true)))

pub returns : goal.returns
returns c =
    let listed = count_is c.requires in
    (crowded_nine (turns_of (series_of (goal.at.returns c).Start)) (counted (goal.at.returns c).Start) (omega (arith, at_by (goal.at.returns c).After-turns_by-by, listed, c.if-listed-by.false)))
