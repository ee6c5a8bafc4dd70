-- `acceptance::inner::judging::each_segment` meets its contract: `Passed` before each segment. Assumes nothing.
use Rattle.acceptance.proofs.Pass.{Passed}
use Rattle.acceptance.proofs.inner.judging.each_segment.Given as goal

abbrev pub invariant-loop-k : goal.invariant-loop-k
invariant-loop-k l = Passed l.body l.coefs l.slow l.joint (l.last) l.k
