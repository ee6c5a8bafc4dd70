-- `conversion::inner::second_said` meets its contract. Assumes nothing.
use Rattle.clock.specs.Clock.{second_said}
use Rattle.conversion.proofs.inner.second_said.Goals as goal

pub returns-then-inserted : goal.returns-then-inserted
unfolding second_said
returns-then-inserted c = rw c.if-inserted.true

pub returns : goal.returns
unfolding second_said
returns c = rw c.if-inserted.false
