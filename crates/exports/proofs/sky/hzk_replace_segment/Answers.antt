-- `exports::sky::hzk_replace_segment` meets its contract. Assumes nothing.
use Rattle.std.proofs.Common.{◌≡◌, length, arith, rules}
use mir.Facts.{to_z-of_z}
use Rattle.series.specs.Series.{series}
use Rattle.answers.specs.Record.{body_of}
use Rattle.exports.specs.theory.Sky.{replaced_fits}
use Rattle.exports.proofs.sky.hzk_replace_segment.Goals as goal

pub record-requires : goal.record-requires
record-requires c =
    let a = c.args in
    let fourteen : length a.part.now ≡ 14 = search rules in
    rw (rw (c.body_of.ensures, c.words_of-words.ensures, to_z-of_z c.ranges.start) at c.replace_segment-replaced.ensures.result_value) (replaced_fits (series (body_of a.moon) a.start a.coefs.now) a.number a.part.now (omega arith))
