-- `locator::inner::nth_mark` meets its contract. Assumes nothing.
use mathlib.Core.Path.{◌∙◌}
use Rattle.whole.specs.Ranges.{back}
use Rattle.locator.proofs.inner.nth_mark.Goals as goal

pub nth_after-requires : goal.nth_after-requires
nth_after-requires c = record { accepted = c.requires.accepted; lowest_value = back c.first_reached-lowest.result c.first_reached-lowest.type_inv ∙ c.first_reached-lowest.ensures; k_in_bounds = c.requires.k_in_bounds }

pub returns : goal.returns
returns c = c.nth_after.ensures
