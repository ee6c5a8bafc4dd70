-- `whole::worked::total` meets its contract: the loop's invariant is that `sum` is the sum so far. Assumes nothing.
use mathlib.Core.Path.{refl, ◌∙◌}
use native.Mathlib.Omega.{arith}
use native.Mathlib.Numerals.{add-one}
use mir.Syntax.{w64}
use mir.Facts.{to_z-of_z}
use Rattle.whole.specs.Ranges.{fits<, bounds, fit_hyp}
use Rattle.whole.specs.Worked.{sum_to, sum_within}
use Rattle.whole.proofs.worked.total.Goals as goal

pub loop-x-init : goal.loop-x-init
unfolding sum_to
loop-x-init c = refl

pub overflow_add-sum : goal.overflow_add-sum
overflow_add-sum c =
    let so_far = sum_within c.requires.all c.loop-x.x-index in
    let one = c.requires.all.each c.loop-x.x-index in
    rw c.loop-x.invariant (fits< (search bounds) (omega arith))

pub loop-x-preserved : goal.loop-x-preserved
unfolding sum_to
loop-x-preserved c =
    let one = fit_hyp {w = w64} (c.requires.all.each c.loop-x.x-index) tt in
    to_z-of_z (overflow_add-sum c) ∙ simp (to_z-of_z, add-one, c.loop-x.invariant)
