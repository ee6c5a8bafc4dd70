-- `evaluator::inner::even_sum` meets its contract. Assumes nothing.
use mathlib.Core.List.{List}
use Prim.Native.Nat.{ℕ, ◌*◌, ◌≤◌, ◌<◌}
use native.Mathlib.Omega.{arith}
use lib.IntN.{ℤ, nat_abs}
use mir.Facts.{to_z-of_z}
use Rattle.chebyshev.specs.Segment.{InRange}
use Rattle.chebyshev.specs.EndValues.{even_sum}
use Rattle.evaluator.proofs.Read.{coefficient_back, constant_back}
use Rattle.evaluator.proofs.Running.{running_start, running_turn, running_end, running_fits}
use Rattle.evaluator.proofs.inner.even_sum.Goals as goal
use Rattle.evaluator.proofs.inner.even_sum.Invariants.{term}

each : {coefs : List ℤ} → InRange coefs → (i : ℕ) → 1 ≤ i → i < 7 → nat_abs (term coefs i) ≤ 1000000000000
each r i l h = omega (arith, (r.others (2 * i) (omega arith)).within)

pub loop-i-init : goal.loop-i-init
loop-i-init c = rw (constant_back c.before.requires.in_range) (running_start (omega arith))

pub overflow_add-sum : goal.overflow_add-sum
overflow_add-sum c =
    let l = c.before.before in
    let r = l.before.before.requires.in_range in
    let low = l.loop-i.invariant.low in
    rw (coefficient_back r (2 * l.loop-i.i) (omega arith)) (running_fits l.loop-i.invariant (omega arith) (omega arith) r.constant (each r))

pub loop-i-preserved : goal.loop-i-preserved
loop-i-preserved c =
    let l = c.before.before in
    let r = l.before.before.requires.in_range in
    let low = l.loop-i.invariant.low in
    rw (to_z-of_z (overflow_add-sum c), coefficient_back r (2 * l.loop-i.i) (omega arith)) (running_turn l.loop-i.invariant (omega arith))

pub returns : goal.returns
unfolding even_sum
returns c = running_end c.before.loop-i.invariant (omega arith)
