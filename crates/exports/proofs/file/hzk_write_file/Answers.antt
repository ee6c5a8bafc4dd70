-- `exports::file::hzk_write_file` meets its contract. Assumes nothing.
use Rattle.std.proofs.Common.{length, arith}
use Rattle.content.specs.Content.{content}
use Rattle.exports.specs.theory.File.{write_fits}
use Rattle.exports.proofs.file.hzk_write_file.Goals as goal

pub record-requires : goal.record-requires
record-requires c = let a = c.args in rw c.write_file-written.ensures.result_value (write_fits (content a.leap.now a.suis.now a.months.now) (length a.file.now) (omega arith))
