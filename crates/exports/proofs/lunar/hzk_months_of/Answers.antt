-- `exports::lunar::hzk_months_of` meets its contract. Assumes nothing.
use Rattle.std.proofs.Common.{length}
use mir.Facts.{to_z-of_z}
use Rattle.exports.specs.theory.Suis.{months_storable, stored_fits}
use Rattle.exports.proofs.lunar.hzk_months_of.Goals as goal

pub store-stored-requires : goal.store-stored-requires
store-stored-requires c =
    let a = c.args in
    rw (rw (to_z-of_z c.ranges.year) at c.months_of.ensures) (months_storable a.year a.moons.now a.zhongqi.now)

pub record-requires : goal.record-requires
record-requires c =
    let a = c.args in
    rw (c.store-stored.ensures.value, rw (to_z-of_z c.ranges.year) at c.months_of.ensures) (stored_fits (months_storable a.year a.moons.now a.zhongqi.now) (length a.months.now))
