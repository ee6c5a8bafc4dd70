-- `suis::inner::days_ahead` meets its contract. Assumes nothing.
use mathlib.Core.Path.{ap, ap₂, ◌∙◌}
use mathlib.Core.List.{List}
use borrow.Author.Rules.{rules}
use lib.IntN.{ℤ}
use lib.ListN.{set, take}
use mir.Syntax.{w64}
use mir.Val.{SFits, of_z, to_z}
use mir.Facts.{to_z-of_z}
use Rattle.whole.specs.Tabulated.{tabulate_turn}
use Rattle.series.specs.Series.{series}
use Rattle.times.specs.declared.Day.{Day}
use Rattle.suis.proofs.inner.days_ahead.Goals as goal
use Rattle.suis.proofs.inner.days_ahead.Invariants.{day_at}

pub loop-i-preserved : goal.loop-i-preserved
loop-i-preserved c =
    let a = c.args in
    let i = c.loop-i.i in
    let day = day_at a.leap.now (series a.body a.start.0 a.coefs.now) (to_z w64 (of_z w64 a.zone)) a.from in
    let f : SFits w64 c.day_of_turn.result.0 = search rules in
    ap₂ (λ (days : List ℤ) (d : ℤ). set days i d) c.loop-i.invariant (to_z-of_z f ∙ ap (λ (d : Day). d.0) c.day_of_turn.ensures)
    ∙ tabulate_turn day (take a.n a.out.now) i c.loop-i-test.true
