-- `conversion::inner::count_in` meets its contract. Assumes nothing.
use mathlib.Core.Path.{◌≡◌, ap, ◌∙◌}
use mir.Facts.{to_z-of_z}
use Rattle.clock.specs.Clock.{reading, read_off, count_in}
use Rattle.clock.proofs.theory.Sizes.{reading_small}
use Rattle.conversion.proofs.inner.count_in.Goals as goal
use Rattle.conversion.proofs.inner.count_in.Goals.{After-reading}

at_reading : (c : After-reading) → (c.reading.result ≡ reading c.args.leap.now c.args.second c.args.zone)
at_reading c = rw (to_z-of_z c.ranges.zone) at c.reading.ensures

pub read_off-requires : goal.read_off-requires
read_off-requires c =
    rw (at_reading (goal.at.read_off-requires c).After-reading) (reading_small c.args.leap.now c.args.second c.args.zone c.requires.lawful_table c.requires.in_range c.requires.zone_small)

pub returns : goal.returns
unfolding count_in
returns c = c.read_off.ensures ∙ ap read_off (at_reading (goal.at.returns c).After-reading)
