-- `exports::sky::hzk_serves` meets its contract. Assumes nothing.
use Rattle.std.proofs.Common.{arith}
use mir.Facts.{to_z-of_z}
use Rattle.series.specs.Series.{series}
use Rattle.answers.specs.Record.{body_of}
use Rattle.exports.specs.theory.Sky.{serves_fits}
use Rattle.exports.proofs.sky.hzk_serves.Goals as goal

pub record-requires : goal.record-requires
record-requires c = let a = c.args in rw (rw (c.body_of.ensures, to_z-of_z c.ranges.nearstart, to_z-of_z c.ranges.longstart, to_z-of_z c.ranges.second) at c.serves-served.ensures) (serves_fits (series (body_of a.moon) a.nearstart a.near.now) (series (body_of a.moon) a.longstart a.long.now) a.second (omega arith) (omega arith))
