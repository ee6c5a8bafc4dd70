-- `alike::runs::same_half` meets its contract: as long as no bit is gathered, the words of the turns before the j-th are the same. Assumes nothing.
use mathlib.Core.Path.{◌≡◌}
use Prim.Native.Nat.{ℕ, ◌+◌, ◌*◌, ◌<◌}
use lib.IntN.{pos}
use Rattle.alike.specs.Runs.{SixteenAt}
use Rattle.alike.proofs.runs.same_half.Given as goal

abbrev pub invariant-loop-j : goal.invariant-loop-j
invariant-loop-j l = l.differing ≡ pos 0 → (i : ℕ) → i < l.j → SixteenAt l.a l.b (l.k + 32 * i)
