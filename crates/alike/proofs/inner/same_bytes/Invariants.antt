-- `alike::inner::same_bytes` meets its contract: the bits in which the bytes so far differ are gathered. Assumes nothing.
use lib.ListN.{length}
use Rattle.alike.specs.theory.Bits.{Gathered}
use Rattle.alike.proofs.inner.same_bytes.Given as goal

abbrev pub invariant-loop-x : goal.invariant-loop-x
invariant-loop-x l = Gathered (λ x. x) 0 l.a l.b (length l.yielded) l.differing
