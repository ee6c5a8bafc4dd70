-- `conversion::inner::is_zone` meets its contract. Assumes nothing.
use mir.Facts.{to_z-of_z}
use Rattle.clock.specs.Clock.{is_zone}
use Rattle.conversion.proofs.inner.is_zone.Goals as goal

pub returns : goal.returns
unfolding is_zone
returns c = rw (to_z-of_z c.ranges.zone) at c.in_range.ensures
