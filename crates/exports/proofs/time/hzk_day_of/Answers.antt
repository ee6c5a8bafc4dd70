-- `exports::time::hzk_day_of` meets its contract. Assumes nothing.
use mir.Facts.{to_z-of_z}
use Rattle.exports.specs.theory.Time.{day_fits}
use Rattle.exports.proofs.time.hzk_day_of.Goals as goal

pub record-requires : goal.record-requires
record-requires c = let a = c.args in rw (rw (to_z-of_z c.ranges.year, to_z-of_z c.ranges.month, to_z-of_z c.ranges.day) at c.day_of.ensures) (day_fits (record { year = a.year; month = a.month; day = a.day }))
