-- `corrected::comparing::same_up_to` meets its contract: all segments before k are the same. Assumes nothing.
use Prim.Native.Nat.{◌-◌, ◌≤◌}
use Rattle.corrected.specs.theory.Compared.{SameBefore}
use Rattle.corrected.proofs.comparing.same_up_to.Given as goal

abbrev pub invariant-loop-k : goal.invariant-loop-k
invariant-loop-k l = (l.k ≤ l.count) × SameBefore l.old l.coefs l.k

abbrev pub decreases-loop-k : goal.decreases-loop-k
decreases-loop-k l = l.count - l.k
