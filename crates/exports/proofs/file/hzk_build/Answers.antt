-- `exports::file::hzk_build` meets its contract. Assumes nothing.
use Rattle.std.proofs.Common.{length, arith}
use mir.Facts.{to_z-of_z}
use Rattle.inputs.specs.Inputs.{inputs}
use Rattle.exports.specs.theory.File.{build_fits}
use Rattle.exports.proofs.file.hzk_build.Goals as goal

pub record-requires : goal.record-requires
record-requires c =
    let a = c.args in
    let i = inputs a.leap.now a.sunstart a.sun.now a.moonstart a.moon.now in
    rw (rw (to_z-of_z c.ranges.sunstart, to_z-of_z c.ranges.moonstart, to_z-of_z c.ranges.zone, to_z-of_z c.ranges.first, to_z-of_z c.ranges.count) at c.build-built.ensures.result_value) (build_fits i a.zone a.first a.count (length a.file.now) (omega arith) (omega arith) (omega arith))
