-- `dates::inner::months_over` meets its contract. The loop's invariant: the months over are those passed, and those over in the rest of the list
-- when the days left are. Assumes nothing.
use Prim.Native.Nat.{ℕ, suc, ◌+◌, ◌-◌}
use mathlib.Core.Path.{◌≡◌, ap}
use native.Mathlib.Omega.{arith}
use native.Mathlib.Numerals.{add-one}
use lib.ListN.{get_or, drop}
use Rattle.dates.specs.Calendar.{months_over}
use Rattle.dates.proofs.theory.Months.{over_stops, over_goes_on, over_ends}
use Rattle.dates.proofs.inner.months_over.Goals as goal

pub returns-then-left-month : goal.returns-then-left-month
returns-then-left-month c = omega (arith, over_stops c.args.lengths.now c.loop-over.over c.loop-over.left (omega arith) (omega arith))

pub loop-over-preserved : goal.loop-over-preserved
loop-over-preserved c =
    let ls = c.args.lengths.now in
    let over = c.loop-over.over in
    let left = c.loop-over.left in
    let e : months_over (drop (over + 1) ls) (left - get_or ls over 0) ≡ months_over (drop (suc over) ls) (left - get_or ls over 0) = ap (λ (k : ℕ). months_over (drop k ls) (left - get_or ls over 0)) (add-one over) in
    omega (arith, over_goes_on ls over left (omega arith) (omega arith))

pub returns : goal.returns
returns c = omega (arith, over_ends c.args.lengths.now c.loop-over.over c.loop-over.left (omega arith))
