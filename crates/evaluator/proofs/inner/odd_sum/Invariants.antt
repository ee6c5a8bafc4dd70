-- `evaluator::inner::odd_sum` meets its contract. Assumes nothing.
use mathlib.Core.List.{List}
use Prim.Native.Nat.{ℕ, ◌+◌, ◌*◌}
use lib.IntN.{ℤ}
use Rattle.chebyshev.specs.Segment.{coefficient}
use Rattle.evaluator.proofs.Running.{Running}
use Rattle.evaluator.proofs.inner.odd_sum.Given as goal

abbrev pub term : List ℤ → ℕ → ℤ
term coefs i = coefficient coefs (2 * i + 1)

abbrev pub invariant-loop-i : goal.invariant-loop-i
invariant-loop-i l = Running 7 (coefficient l.coefs 1) (term l.coefs) (l.sum) l.i
