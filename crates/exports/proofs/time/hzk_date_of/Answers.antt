-- `exports::time::hzk_date_of` meets its contract. Assumes nothing.
use mir.Facts.{to_z-of_z}
use Rattle.exports.specs.theory.Time.{date_fits}
use Rattle.exports.proofs.time.hzk_date_of.Goals as goal

pub record-requires : goal.record-requires
record-requires c = let a = c.args in rw (rw (to_z-of_z c.ranges.day) at c.date_of.ensures) (date_fits (record { 0 = a.day }))
