-- `exports::lunar::hzk_sui` meets its contract. Assumes nothing.
use Rattle.std.proofs.Common.{length, arith}
use mir.Facts.{to_z-of_z}
use Rattle.inputs.specs.Inputs.{inputs}
use Rattle.exports.specs.theory.Suis.{sui_storable, stored_fits}
use Rattle.exports.proofs.lunar.hzk_sui.Goals as goal

pub store-stored-requires : goal.store-stored-requires
store-stored-requires c =
    let a = c.args in
    let i = inputs a.leap.now a.sunstart a.sun.now a.moonstart a.moon.now in
    rw (rw (to_z-of_z c.ranges.sunstart, to_z-of_z c.ranges.moonstart, to_z-of_z c.ranges.zone, to_z-of_z c.ranges.year) at c.sui-found.ensures) (sui_storable i (omega arith) (omega arith) a.zone a.year)

pub record-requires : goal.record-requires
record-requires c =
    let a = c.args in
    let i = inputs a.leap.now a.sunstart a.sun.now a.moonstart a.moon.now in
    rw (c.store-stored.ensures.value, rw (to_z-of_z c.ranges.sunstart, to_z-of_z c.ranges.moonstart, to_z-of_z c.ranges.zone, to_z-of_z c.ranges.year) at c.sui-found.ensures) (stored_fits (sui_storable i (omega arith) (omega arith) a.zone a.year) (length a.months.now))
