-- `evaluator::inner::value` meets its contract. The invariant: the two polynomials held are P(n-2) and P(n-1), and the sum runs to n - 1.
-- Assumes nothing.
use Rattle.evaluator.proofs.Turn.{Held}
use Rattle.evaluator.proofs.inner.value.Given as goal

abbrev pub invariant-loop-n : goal.invariant-loop-n
invariant-loop-n l = Held l.coefs (l.x) (l.before) (l.here) (l.sum) l.n
