-- `corrected::comparing::same_down_to` meets its contract: all segments from k on are the same. Assumes nothing.
use Prim.Native.Nat.{◌≤◌}
use Rattle.corrected.specs.theory.Compared.{SameFrom}
use Rattle.corrected.proofs.comparing.same_down_to.Given as goal

abbrev pub invariant-loop-k : goal.invariant-loop-k
invariant-loop-k l = (l.first ≤ l.k) × ((l.k ≤ l.end) × SameFrom l.old l.coefs l.k)

abbrev pub decreases-loop-k : goal.decreases-loop-k
decreases-loop-k l = l.k
