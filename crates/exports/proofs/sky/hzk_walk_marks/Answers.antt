-- `exports::sky::hzk_walk_marks` meets its contract. Assumes nothing.
use Rattle.std.proofs.Common.{length, arith}
use mir.Facts.{to_z-of_z}
use Rattle.series.specs.Series.{series}
use Rattle.answers.specs.Record.{body_of}
use Rattle.exports.specs.theory.Sky.{list_fits}
use Rattle.exports.proofs.sky.hzk_walk_marks.Goals as goal

pub record-requires : goal.record-requires
record-requires c = let a = c.args in rw (rw (c.body_of.ensures, to_z-of_z c.ranges.start) at c.list_marks-listed.ensures.result_value) (list_fits (series (body_of a.moon) a.start a.coefs.now) (omega arith) (length a.marks.now))
