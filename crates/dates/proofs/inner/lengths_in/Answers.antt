-- `dates::inner::lengths_in` meets its contract. Assumes nothing.
use mathlib.Core.Path.{ap, ◌∙◌}
use mir.Facts.{to_z-of_z}
use Rattle.dates.specs.Calendar.{month_lengths}
use Rattle.dates.proofs.inner.lengths_in.Goals as goal

pub returns : goal.returns
returns c = c.month_lengths.ensures ∙ ap month_lengths (rw (to_z-of_z c.before.before.ranges.y) at c.before.leap_year.ensures)
