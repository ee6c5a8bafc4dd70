-- `suis::inner::zhongqi::zhongqi_days` meets its contract. Assumes nothing.
use mathlib.Core.Path.{ap₂, ◌∙◌}
use mathlib.Core.List.{List}
use native.Mathlib.Omega.{arith}
use lib.IntN.{ℤ, pos}
use lib.ListN.{set, replicate}
use mir.Syntax.{w64}
use mir.Val.{of_z, to_z}
use Rattle.whole.specs.Ranges.{back}
use Rattle.whole.specs.Tabulated.{tabulate_turn}
use Rattle.series.specs.declared.Body.TheVariants.{Sun}
use Rattle.series.specs.Series.{series}
use Rattle.suis.proofs.inner.zhongqi.zhongqi_days.Goals as goal
use Rattle.suis.proofs.inner.zhongqi.zhongqi_days.Invariants.{day_at}

pub loop-i-preserved : goal.loop-i-preserved
loop-i-preserved c =
    let a = c.args in
    let i = c.loop-i.i in
    let day = day_at a.leap.now (series Sun a.start.0 a.coefs.now) (to_z w64 (of_z w64 a.zone)) (to_z w64 (of_z w64 a.index)) in
    ap₂ (λ (days : List ℤ) (d : ℤ). set days i d) c.loop-i.invariant (back c.zhongqi_between.result c.zhongqi_between.type_inv ∙ c.zhongqi_between.ensures)
    ∙ tabulate_turn day (replicate 13 (pos 0)) i (omega arith)
