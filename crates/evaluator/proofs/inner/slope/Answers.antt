-- `evaluator::inner::slope` meets its contract. The invariant: what is left is c1 less the weights below n. Assumes nothing.
use mathlib.Core.Path.{◌≡◌, ap, ◌∙◌}
use Prim.Native.Nat.{◌*◌}
use native.Mathlib.Omega.{arith}
use lib.IntN.{ℤ, pos, nat_abs}
use mir.Syntax.{w64}
use mir.Val.{to_z, of_z}
use mir.Facts.{to_z-of_z}
use Rattle.chebyshev.specs.Segment.{coefficient}
use Rattle.evaluator.proofs.Read.{coefficient_back}
use Rattle.evaluator.proofs.Fall.{left_start, left_turn, left_end, difference_fits}
use Rattle.evaluator.proofs.inner.slope.Goals as goal
use Rattle.evaluator.proofs.inner.slope.Goals.{After-weight-left}

pub loop-n-init : goal.loop-n-init
loop-n-init c = let r = c.before.requires.in_range in rw (coefficient_back r 1 (omega arith)) (left_start r)

pub weight-left-requires : goal.weight-left-requires
weight-left-requires c =
    let l = c.before.before in
    let r = l.before.before.requires.in_range in
    let low = l.loop-n.invariant.low in record { within = rw (coefficient_back r l.loop-n.n (omega arith)) (r.others l.loop-n.n (omega arith)); n_bound = omega arith }

-- what the call gives
weighed : (c : After-weight-left) → to_z w64 (of_z w64 c.weight-left.result) ≡ pos (c.before.before.before.loop-n.n * c.before.before.before.loop-n.n * nat_abs (coefficient c.before.before.before.before.before.args.coefs.now c.before.before.before.loop-n.n))
weighed c =
    let l = c.before.before.before in
    let low = l.loop-n.invariant.low in
    to_z-of_z {w = w64} (record { sfits = c.weight-left.type_inv }) ∙ c.weight-left.ensures ∙ ap (λ (z : ℤ). pos (l.loop-n.n * l.loop-n.n * nat_abs z)) (coefficient_back l.before.before.requires.in_range l.loop-n.n (omega arith))

pub overflow_sub-left : goal.overflow_sub-left
overflow_sub-left c =
    let l = c.before.before.before in
    rw (weighed c) (difference_fits l.before.before.requires.in_range l.loop-n.invariant (omega arith))

pub loop-n-preserved : goal.loop-n-preserved
loop-n-preserved c =
    let l = c.before.before.before in
    rw (to_z-of_z (overflow_sub-left c), weighed c) (left_turn l.before.before.requires.in_range l.loop-n.invariant (omega arith))

pub returns : goal.returns
returns c =
    let l = c.before in
    left_end l.before.before.requires.in_range l.loop-n.invariant (omega arith)
