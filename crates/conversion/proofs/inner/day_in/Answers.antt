-- `conversion::inner::day_in` meets its contract. Assumes nothing.
use mathlib.Core.Path.{ap, ◌∙◌}
use mir.Facts.{to_z-of_z}
use Rattle.clock.specs.Clock.{day_of_milli, day_in}
use Rattle.conversion.proofs.inner.day_in.Goals as goal

pub returns : goal.returns
unfolding day_in
returns c = c.day_of_milli.ensures ∙ ap day_of_milli (rw (to_z-of_z c.ranges.zone) at c.count_in.ensures)
