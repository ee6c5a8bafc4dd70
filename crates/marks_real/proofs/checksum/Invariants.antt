-- The sum stays below its modulus. Assumes nothing.
use Rattle.std.proofs.Common.{◌<◌}
use Rattle.marks_real.proofs.checksum.Given as goal

abbrev pub invariant-loop-mark : goal.invariant-loop-mark
invariant-loop-mark l = l.sum < 1000000007

abbrev pub invariant-loop-word : goal.invariant-loop-word
invariant-loop-word l = l.sum < 1000000007
