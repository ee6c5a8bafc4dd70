-- `exports::time::hzk_judge_leap_table` meets its contract. Assumes nothing.
use Rattle.exports.specs.theory.Time.{leap_fits}
use Rattle.exports.proofs.time.hzk_judge_leap_table.Goals as goal

pub record-requires : goal.record-requires
record-requires c = let a = c.args in rw c.judge_leap_table.ensures (leap_fits a.leap.now)
