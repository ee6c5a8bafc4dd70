-- `exports::sky::hzk_judge_inputs` meets its contract. Assumes nothing.
use Rattle.std.proofs.Common.{arith}
use Rattle.inputs.specs.Inputs.{inputs}
use mir.Facts.{to_z-of_z}
use Rattle.exports.specs.theory.Sky.{inputs_fit}
use Rattle.exports.proofs.sky.hzk_judge_inputs.Goals as goal

pub record-requires : goal.record-requires
record-requires c = let a = c.args in rw (rw (to_z-of_z c.ranges.sunstart, to_z-of_z c.ranges.moonstart) at c.judge-judged.ensures) (inputs_fit (inputs a.leap.now a.sunstart a.sun.now a.moonstart a.moon.now) (omega arith) (omega arith))
