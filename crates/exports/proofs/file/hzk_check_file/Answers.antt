-- `exports::file::hzk_check_file` meets its contract. Assumes nothing.
use Rattle.exports.specs.theory.File.{check_fits}
use Rattle.exports.proofs.file.hzk_check_file.Goals as goal

pub record-requires : goal.record-requires
record-requires c = rw c.check_file.ensures (check_fits c.args.file.now)
