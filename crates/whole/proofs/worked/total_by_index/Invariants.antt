-- `whole::worked::total_by_index` meets its contract: the index stays inside, and `sum` is the sum so far. Assumes nothing.
use Prim.Native.Nat.{◌≤◌, ◌-◌}
use mathlib.Core.Path.{◌≡◌}
use lib.ListN.{length}
use Rattle.whole.specs.Worked.{sum_to}
use Rattle.whole.proofs.worked.total_by_index.Given as goal

abbrev pub invariant-loop-i : goal.invariant-loop-i
invariant-loop-i l = record { inside : l.i ≤ length l.xs; kept : l.sum ≡ sum_to l.xs l.i }

abbrev pub decreases-loop-i : goal.decreases-loop-i
decreases-loop-i l = length l.xs - l.i
