-- `evaluator::inner::square_sum` meets its contract. Assumes nothing.
use mathlib.Core.List.{List}
use Prim.Native.Nat.{ℕ, ◌*◌}
use lib.IntN.{ℤ, pos, ◌*ℤ◌}
use Rattle.chebyshev.specs.Segment.{coefficient}
use Rattle.evaluator.proofs.Running.{Running}
use Rattle.evaluator.proofs.inner.square_sum.Given as goal

abbrev pub term : List ℤ → ℕ → ℤ
term coefs n = coefficient coefs n *ℤ pos (n * n)

abbrev pub invariant-loop-n : goal.invariant-loop-n
invariant-loop-n l = Running 14 (pos 0) (term l.coefs) (l.sum) l.n
