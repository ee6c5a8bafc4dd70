-- `exports::file::hzk_read_file` meets its contract. Assumes nothing.
use Rattle.std.proofs.Common.{length}
use Rattle.exports.specs.theory.File.{read_fits}
use Rattle.exports.proofs.file.hzk_read_file.Goals as goal

pub record-requires : goal.record-requires
record-requires c = let a = c.args in rw c.read_file-read.ensures.result_value (read_fits a.file.now (length a.leap.now) (length a.suis.now) (length a.months.now))
