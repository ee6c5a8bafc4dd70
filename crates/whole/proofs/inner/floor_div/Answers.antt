-- `whole::inner::floor_div` meets its contract. Assumes nothing.
use mathlib.Core.Path.{ap, ◌∙◌}
use lib.IntN.{ℤ}
use mir.Syntax.{w64}
use mir.Val.{to_z, of_z}
use mir.Facts.{to_z-of_z}
use Rattle.whole.specs.Solver.{lt_yes, lt_no}
use Rattle.whole.proofs.Floor.{floor_div_fits}
use Rattle.whole.proofs.Division.{quot_fits, rem_fits, floor_neg, floor_pos}
use Rattle.whole.proofs.inner.floor_div.Goals as goal

pub returns-then-r-lt0 : goal.returns-then-r-lt0
returns-then-r-lt0 c =
    let fa = c.before.ranges.a in
    let fm = c.before.ranges.m in
    let fq = quot_fits fa c.before.requires in
    let fr = rem_fits c.before.args.m fa in
    let down = floor_neg c.before.args.a c.before.args.m c.before.requires (lt_yes (simp to_z-of_z at c.if-r-lt0.true)) in
    simp to_z-of_z (ap (λ (z : ℤ). to_z w64 (of_z w64 z)) down ∙ to_z-of_z (floor_div_fits _ fa))

pub returns-else-r-lt0 : goal.returns-else-r-lt0
returns-else-r-lt0 c =
    let fa = c.before.ranges.a in
    let fm = c.before.ranges.m in
    let fq = quot_fits fa c.before.requires in
    let fr = rem_fits c.before.args.m fa in
    simp to_z-of_z (floor_pos _ _ c.before.requires (lt_no (simp to_z-of_z at c.if-r-lt0.false)))
