-- `exports::time::hzk_shown` meets its contract. Assumes nothing.
use mir.Facts.{to_z-of_z}
use Rattle.exports.specs.theory.Time.{shown_fits}
use Rattle.exports.proofs.time.hzk_shown.Goals as goal

pub record-requires : goal.record-requires
record-requires c = let a = c.args in rw (rw (to_z-of_z c.ranges.second, to_z-of_z c.ranges.zone) at c.shown.ensures) (shown_fits a.leap.now (record { 0 = a.second }) a.zone)
