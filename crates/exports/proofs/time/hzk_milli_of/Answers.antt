-- `exports::time::hzk_milli_of` meets its contract. Assumes nothing.
use mir.Facts.{to_z-of_z}
use Rattle.exports.specs.theory.Time.{milli_fits}
use Rattle.exports.proofs.time.hzk_milli_of.Goals as goal

pub record-requires : goal.record-requires
record-requires c = let a = c.args in rw (rw (to_z-of_z c.ranges.second, to_z-of_z c.ranges.zone) at c.milli_of.ensures) (milli_fits a.leap.now (record { 0 = a.second }) a.zone)
