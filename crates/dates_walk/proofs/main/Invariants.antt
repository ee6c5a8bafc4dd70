-- No count is above the days walked. Assumes nothing.
use Rattle.std.proofs.Common.{◌≤◌}
use Rattle.dates_walk.proofs.main.Given as goal

abbrev pub invariant-loop-k : goal.invariant-loop-k
invariant-loop-k l = record { back : l.back ≤ l.k; firsts : l.firsts ≤ l.k; lasts : l.lasts ≤ l.k }
