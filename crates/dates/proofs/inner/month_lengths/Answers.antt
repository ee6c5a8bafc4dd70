-- `dates::inner::month_lengths` meets its contract. Assumes nothing.
use Rattle.dates.specs.Calendar.{month_lengths}
use Rattle.dates.proofs.inner.month_lengths.Goals as goal

pub returns-then-leap : goal.returns-then-leap
unfolding month_lengths
returns-then-leap c = rw c.if-leap.true

pub returns-else-leap : goal.returns-else-leap
unfolding month_lengths
returns-else-leap c = rw c.if-leap.false
