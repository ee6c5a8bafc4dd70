-- `evaluator::inner::odd_sum` meets its contract. Assumes nothing.
use mathlib.Core.List.{List}
use Prim.Native.Nat.{ℕ, ◌+◌, ◌*◌, ◌≤◌, ◌<◌}
use native.Mathlib.Omega.{arith}
use lib.IntN.{ℤ, nat_abs}
use mir.Facts.{to_z-of_z}
use Rattle.chebyshev.specs.Segment.{InRange}
use Rattle.chebyshev.specs.EndValues.{odd_sum}
use Rattle.evaluator.proofs.Read.{coefficient_back}
use Rattle.evaluator.proofs.Running.{running_start, running_turn, running_end, running_fits}
use Rattle.evaluator.proofs.inner.odd_sum.Goals as goal
use Rattle.evaluator.proofs.inner.odd_sum.Invariants.{term}

each : {coefs : List ℤ} → InRange coefs → (i : ℕ) → 1 ≤ i → i < 7 → nat_abs (term coefs i) ≤ 1000000000000
each r i l h = omega (arith, (r.others (2 * i + 1) (omega arith)).within)

pub loop-i-init : goal.loop-i-init
loop-i-init c = rw (coefficient_back c.before.requires.in_range 1 (omega arith)) (running_start (omega arith))

pub overflow_add-sum-in-loop-i : goal.overflow_add-sum-in-loop-i
overflow_add-sum-in-loop-i c =
    let l = c.before.before in
    let r = l.before.before.requires.in_range in
    let low = l.loop-i.invariant.low in
    rw (coefficient_back r (2 * l.loop-i.i + 1) (omega arith)) (running_fits l.loop-i.invariant (omega arith) (omega arith) (record { within = omega (arith, (r.others 1 (omega arith)).within) }) (each r))

pub loop-i-preserved : goal.loop-i-preserved
loop-i-preserved c =
    let l = c.before.before in
    let r = l.before.before.requires.in_range in
    let low = l.loop-i.invariant.low in
    rw (to_z-of_z (overflow_add-sum-in-loop-i c), coefficient_back r (2 * l.loop-i.i + 1) (omega arith)) (running_turn l.loop-i.invariant (omega arith))

pub returns : goal.returns
unfolding odd_sum
returns c = running_end c.before.loop-i.invariant (omega arith)
