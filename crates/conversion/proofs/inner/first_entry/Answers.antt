-- `conversion::inner::first_entry` meets its contract. Assumes nothing.
use mathlib.Core.Path.{◌≡◌, sym, ◌∙◌}
use mir.Facts.{to_z-of_z}
use Rattle.clock.specs.Leap.{utc_day, first_entry}
use Rattle.conversion.proofs.inner.first_entry.Goals as goal
use Rattle.conversion.proofs.inner.first_entry.Goals.{After-utc_day}

at_day : (c : After-utc_day) → utc_day c.args.day.0 ≡ c.utc_day.result
at_day c = sym c.utc_day.ensures

pub returns-then-utc_day : goal.returns-then-utc_day
unfolding first_entry
returns-then-utc_day c =
    rw (at_day (goal.at.returns-then-utc_day c).After-utc_day ∙ c.if-utc_day.true) (rw (to_z-of_z c.ranges.offset) at c.in_range.ensures)

pub returns : goal.returns
unfolding first_entry
returns c = rw (at_day (goal.at.returns c).After-utc_day ∙ c.if-utc_day.false)
