-- `conversion::inner::shown_in` meets its contract. Assumes nothing.
use mathlib.Core.Path.{◌≡◌, ap, ◌∙◌}
use mir.Facts.{to_z-of_z}
use Rattle.clock.specs.Clock.{reading, count_in, day_in, shown_by, shown_in}
use Rattle.clock.proofs.theory.Sizes.{reading_small, reading_has_date}
use Rattle.conversion.proofs.inner.shown_in.Goals as goal
use Rattle.conversion.proofs.inner.shown_in.Goals.{After-reading}

at_reading : (c : After-reading) → (c.reading.result ≡ reading c.args.leap.now c.args.second c.args.zone)
at_reading c = rw (to_z-of_z c.ranges.zone) at c.reading.ensures

pub shown_by-requires : goal.shown_by-requires
unfolding day_in count_in
shown_by-requires c =
    let leap = c.args.leap.now in
    let second = c.args.second in
    let zone = c.args.zone in
    rw (at_reading (goal.at.shown_by-requires c).After-reading) (record { within = reading_small leap second zone c.requires.lawful_table c.requires.in_range c.requires.zone_small; read_value = reading_has_date leap second zone c.requires.lawful_table c.requires.in_range c.requires.zone_small })

pub returns : goal.returns
unfolding shown_in
returns c = c.shown_by.ensures ∙ ap shown_by (at_reading (goal.at.returns c).After-reading)
