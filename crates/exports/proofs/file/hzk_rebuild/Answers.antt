-- `exports::file::hzk_rebuild` meets its contract. Assumes nothing.
use Rattle.std.proofs.Common.{length, arith}
use mir.Facts.{to_z-of_z}
use Rattle.inputs.specs.Inputs.{inputs}
use Rattle.exports.specs.theory.File.{rebuild_fits}
use Rattle.exports.proofs.file.hzk_rebuild.Goals as goal

pub record-requires : goal.record-requires
record-requires c =
    let a = c.args in
    let old = inputs a.oldleap.now a.oldsunstart a.oldsun.now a.oldmoonstart a.oldmoon.now in
    let new = inputs a.leap.now a.sunstart a.sun.now a.moonstart a.moon.now in
    rw (rw (to_z-of_z c.ranges.oldsunstart, to_z-of_z c.ranges.oldmoonstart, to_z-of_z c.ranges.sunstart, to_z-of_z c.ranges.moonstart, to_z-of_z c.ranges.zone) at c.rebuild-rebuilt.ensures.result_value) (rebuild_fits old new a.zone a.old.now (length a.file.now) (length a.years.now) (omega arith) (omega arith))
