-- `whole::inner::floor_mod` meets its contract. Assumes nothing.
use mir.Facts.{to_z-of_z}
use Rattle.whole.specs.Solver.{lt_yes, lt_no}
use Rattle.whole.proofs.Division.{rem_fits, mod_neg, mod_pos, mod_fits}
use Rattle.whole.proofs.inner.floor_mod.Goals as goal

pub returns-then-r-lt0 : goal.returns-then-r-lt0
returns-then-r-lt0 c =
    let fa = c.before.ranges.a in
    let fm = c.before.ranges.m in
    let fr = rem_fits c.before.args.m fa in
    let below = lt_yes (simp to_z-of_z at c.if-r-lt0.true) in
    let fs = mod_fits c.before.args.a c.before.args.m fm c.before.requires below in
    simp to_z-of_z (mod_neg c.before.args.a c.before.args.m c.before.requires below)

pub returns-else-r-lt0 : goal.returns-else-r-lt0
returns-else-r-lt0 c =
    let fa = c.before.ranges.a in
    let fm = c.before.ranges.m in
    let fr = rem_fits c.before.args.m fa in
    simp to_z-of_z (mod_pos c.before.args.a c.before.args.m c.before.requires (lt_no (simp to_z-of_z at c.if-r-lt0.false)))
