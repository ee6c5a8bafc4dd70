-- `evaluator::inner::slope` meets its contract. The invariant: what is left is c1 less the weights below n. Assumes nothing.
use Rattle.evaluator.proofs.Fall.{Left}
use Rattle.evaluator.proofs.inner.slope.Given as goal

abbrev pub invariant-loop-n : goal.invariant-loop-n
invariant-loop-n l = Left l.coefs (l.left) l.n
