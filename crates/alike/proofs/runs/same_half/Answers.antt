-- `alike::runs::same_half` meets its contract: as long as no bit is gathered, the words of the turns before the j-th are the same. Assumes nothing.
use mathlib.Core.Path.{◌≡◌, ap}
use native.Mathlib.Omega.{arith}
use mir.Syntax.{w64}
use mir.Val.{to_z}
use Rattle.whole.specs.Below.{below}
use Rattle.whole.specs.Ranges.{fits_of}
use Rattle.alike.specs.theory.Bits.{or_none, no_word, bits_of_zero}
use Rattle.alike.proofs.runs.same_half.Goals as goal

pub loop-j-preserved : goal.loop-j-preserved
loop-j-preserved c =
    λ e i h.
    let none = or_none c.loop-j.differing-bits _ (bits_of_zero _ e) in
    below i c.loop-j.j (omega arith) (c.loop-j.invariant (ap (to_z w64) none.0) i) (λ (q : i ≡ c.loop-j.j). rw q (c.sixteen_differ-differing.ensures (no_word (fits_of _ c.sixteen_differ-differing.type_inv) none.1)))
