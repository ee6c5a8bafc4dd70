-- `whole::worked::total_by_index` meets its contract: the index stays inside, and `sum` is the sum so far. Assumes nothing.
use mathlib.Core.Path.{refl, ap, ◌∙◌}
use native.Mathlib.Omega.{arith}
use native.Mathlib.Numerals.{add-one}
use mir.Syntax.{w64}
use mir.Facts.{to_z-of_z}
use Rattle.whole.specs.Ranges.{fits<, bounds, fit_hyp}
use Rattle.whole.specs.Worked.{sum_to, sum_within}
use Rattle.whole.proofs.worked.total_by_index.Goals as goal

pub loop-i-init : goal.loop-i-init
unfolding sum_to
loop-i-init c = record { inside = omega arith; kept = refl }

pub bounds-xs-i : goal.bounds-xs-i
bounds-xs-i c = omega arith

pub overflow_add-sum : goal.overflow_add-sum
overflow_add-sum c =
    let so_far = sum_within c.requires.all c.loop-i.i in
    let one = c.requires.all.each c.loop-i.i in
    rw c.loop-i.invariant.kept (fits< (search bounds) (omega arith))

pub loop-i-preserved : goal.loop-i-preserved
unfolding sum_to
loop-i-preserved c =
    let one = fit_hyp {w = w64} (c.requires.all.each c.loop-i.i) tt in
    record { inside = omega arith; kept = to_z-of_z (overflow_add-sum c) ∙ simp (to_z-of_z, add-one, c.loop-i.invariant.kept) }

pub returns : goal.returns
returns c = c.loop-i.invariant.kept ∙ ap (sum_to _) (omega arith)
