-- `kept_days::inner::days_again` meets its contract. Assumes nothing.
use mathlib.Core.Path.{ap₂, ◌∙◌}
use mathlib.Core.List.{List}
use lib.IntN.{ℤ}
use lib.ListN.{set, take}
use mir.Syntax.{w64}
use mir.Val.{of_z, to_z}
use Rattle.whole.specs.Ranges.{back}
use Rattle.whole.specs.Tabulated.{tabulate_turn}
use Rattle.series.specs.Series.{series}
use Rattle.kept_days.proofs.inner.days_again.Goals as goal
use Rattle.kept_days.proofs.inner.days_again.Invariants.{day_at}

pub loop-i-preserved : goal.loop-i-preserved
loop-i-preserved c =
    let a = c.args in
    let i = c.loop-i.i in
    let day = day_at a.leap.now (series a.body a.start.0 a.coefs.now) (to_z w64 (of_z w64 a.zone)) a.from in
    ap₂ (λ (days : List ℤ) (d : ℤ). set days i d) c.loop-i.invariant (back c.day_again.result c.day_again.type_inv ∙ c.day_again.ensures)
    ∙ tabulate_turn day (take a.n a.out.now) i c.loop-i-test.true
