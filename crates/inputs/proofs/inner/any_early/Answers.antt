-- `inputs::inner::any_early` meets its contract: the first mark tells. Assumes nothing.
use mathlib.Core.Path.{◌≡◌, sym, ap, ◌∙◌}
use Prim.Native.Nat.{◌<◌}
use native.Mathlib.Omega.{arith}
use lib.ListN.{length, get_or}
use Rattle.clock.specs.Clock.{early}
use Rattle.series.specs.Series.{Series, series}
use Rattle.marks.specs.Answers.{no_mark}
use Rattle.marks.specs.Listed.{listed_marks}
use Rattle.inputs.specs.Inputs.{second}
use Rattle.inputs.specs.theory.Early.{no_marks}
use Rattle.inputs.specs.theory.First.{first_converts, first_tells}
use Rattle.inputs.proofs.inner.any_early.Goals as goal
use Rattle.inputs.proofs.inner.any_early.Goals.{After-second-1}

abbrev Found : Type 0
Found = After-second-1

abbrev series_of : Found → Series
series_of c = let a = c.args in series a.body a.start.0 a.coefs.now

is_first : (c : Found) → c.nth_mark-first.result.second ≡ second (get_or (listed_marks (series_of c)) 0 no_mark)
is_first c = ap second c.nth_mark-first.ensures

pub returns-then-count-eq0 : goal.returns-then-count-eq0
returns-then-count-eq0 c =
    let a = c.args in
    sym (no_marks a.leap.now (listed_marks (series a.body a.start.0 a.coefs.now)) (omega (arith, c.count.ensures, c.if-count-eq0.true)))

pub early-requires : goal.early-requires
early-requires c = record { leap_value = c.requires.leap_value; second_value = rw (is_first c) (first_converts (series_of c) c.requires.accepted (omega (arith, c.count.ensures, c.if-count-eq0.false))) }

pub returns : goal.returns
returns c =
    let some : 0 < length (listed_marks (series_of c.before)) = omega (arith, c.count.ensures, c.if-count-eq0.false) in
    c.early.ensures ∙ ap (early c.args.leap.now) (is_first c.before) ∙ first_tells (series_of c.before) c.requires.accepted some c.args.leap.now
