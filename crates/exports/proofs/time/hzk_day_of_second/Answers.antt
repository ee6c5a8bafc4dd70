-- `exports::time::hzk_day_of_second` meets its contract. Assumes nothing.
use mir.Facts.{to_z-of_z}
use Rattle.exports.specs.theory.Time.{day_of_second_fits}
use Rattle.exports.proofs.time.hzk_day_of_second.Goals as goal

pub record-requires : goal.record-requires
record-requires c = let a = c.args in rw (rw (to_z-of_z c.ranges.second, to_z-of_z c.ranges.zone) at c.day_of_second.ensures) (day_of_second_fits a.leap.now (record { 0 = a.second }) a.zone)
