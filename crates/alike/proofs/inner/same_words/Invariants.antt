-- `alike::inner::same_words` meets its contract: first the runs that are the same, then the bits in which the first k words differ are gathered. Assumes nothing.
use mathlib.Core.Path.{◌≡◌}
use Prim.Native.Nat.{ℕ, ◌-◌, ◌≤◌, ◌<◌}
use lib.IntN.{pos}
use lib.ListN.{length, get_or}
use Rattle.alike.specs.Runs.{AllBefore}
use Rattle.alike.proofs.inner.same_words.Given as goal

abbrev pub invariant-loop-i : goal.invariant-loop-i
invariant-loop-i l = (l.n ≡ length l.a) × ((l.n ≡ length l.b) × ((l.i ≤ l.n) × AllBefore l.a l.b l.i))

abbrev pub decreases-loop-i : goal.decreases-loop-i
decreases-loop-i l = l.n - l.i

abbrev pub invariant-loop-k : goal.invariant-loop-k
invariant-loop-k l = (l.n ≡ length l.a) × ((l.n ≡ length l.b) × ((l.k ≤ l.n) × ((l.differing ≡ pos 0 → (i : ℕ) → i < l.k → get_or l.a i (pos 0) ≡ get_or l.b i (pos 0)) × (l.a ≡ l.b → l.differing ≡ pos 0))))
