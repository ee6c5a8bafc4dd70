-- Where the lines begin that are still to be printed. Assumes nothing.
use Rattle.std.proofs.Common.{◌-◌, ◌≤◌}
use Rattle.list_run.proofs.print_all.Given as goal

abbrev pub invariant-loop-from : goal.invariant-loop-from
invariant-loop-from g l = l.from ≤ 2000000

abbrev pub decreases-loop-from : goal.decreases-loop-from
decreases-loop-from g l = 1000000 - l.from
