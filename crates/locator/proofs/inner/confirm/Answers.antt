-- `locator::inner::confirm` meets its contract. Assumes nothing.
use mir.Facts.{to_z-of_z}
use Rattle.whole.specs.Ranges.{fits, bounds}
use Rattle.locator.proofs.inner.confirm.Goals as goal

pub overflow_sub-mark : goal.overflow_sub-mark
overflow_sub-mark c = fits (search bounds) tt

pub returns : goal.returns
returns c = rw (to_z-of_z c.ranges.index) at c.settle.ensures
