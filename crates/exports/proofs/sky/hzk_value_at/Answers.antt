-- `exports::sky::hzk_value_at` meets its contract. Assumes nothing.
use Rattle.std.proofs.Common.{arith}
use mir.Facts.{to_z-of_z}
use Rattle.series.specs.Series.{series}
use Rattle.answers.specs.Record.{body_of}
use Rattle.exports.specs.theory.Sky.{value_fits}
use Rattle.exports.proofs.sky.hzk_value_at.Goals as goal

pub record-requires : goal.record-requires
record-requires c = let a = c.args in rw (rw (c.body_of.ensures, to_z-of_z c.ranges.start, to_z-of_z c.ranges.second) at c.value_at.ensures) (value_fits (series (body_of a.moon) a.start a.coefs.now) (omega arith) a.second)
