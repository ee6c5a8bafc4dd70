-- `guess::inner::halve_next` meets its contract. Assumes nothing.
use Rattle.guess.proofs.inner.halve_next.Goals as goal

pub returns : goal.returns
returns c = rw c.if-halved.false
