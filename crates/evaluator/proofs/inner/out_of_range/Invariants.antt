-- `evaluator::inner::out_of_range` meets its contract: the loop's invariant is that what is left to search decides. In the needs, `tested` is the place where a
-- coefficient and its limit are known. Assumes nothing.
use mathlib.Core.Path.{◌≡◌}
use Prim.Native.Nat.{◌-◌}
use Rattle.chebyshev.specs.Segment.{larger, out_of_range}
use Rattle.evaluator.proofs.inner.out_of_range.Given as goal

abbrev pub invariant-loop-n : goal.invariant-loop-n
invariant-loop-n l = (out_of_range l.coefs ≡ larger l.coefs l.n (14 - l.n))
