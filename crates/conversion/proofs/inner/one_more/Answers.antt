-- `conversion::inner::one_more` meets its contract. Assumes nothing.
use mathlib.Core.Path.{◌≡◌, refl, sym, ◌∙◌}
use mathlib.Core.Bool.{Bool, true, false}
use lib.IntN.{ℤ, pos, ◌+ℤ◌, ◌-ℤ◌}
use lib.Signed.{le_z}
use mir.Syntax.{w64}
use mir.Val.{SFits}
use mir.Facts.{to_z-of_z}
use Rattle.whole.specs.Tests.{is_exactly}
use Rattle.conversion.proofs.Tests.{not_more, one_less_fits, one_more, too_much}
use Rattle.conversion.proofs.inner.one_more.Goals as goal

pub returns-then-offset-o : goal.returns-then-offset-o
returns-then-offset-o c =
    sym (not_more c.args.o c.args.offset (rw (to_z-of_z c.ranges.offset, to_z-of_z c.ranges.o) at c.if-offset-o.true))

pub overflow_sub-result : goal.overflow_sub-result
overflow_sub-result c =
    rw (to_z-of_z c.ranges.offset) (one_less_fits c.args.o c.args.offset (rw (to_z-of_z c.ranges.offset, to_z-of_z c.ranges.o) at c.if-offset-o.false) c.ranges.o c.ranges.offset)

-- the second test decides
decided : (o offset : ℤ) → le_z offset o ≡ false → le_z (offset -ℤ pos 1) o ≡ is_exactly (o +ℤ pos 1) offset
decided o offset h = go (le_z (offset -ℤ pos 1) o) refl
  where
    go : (b : Bool) → le_z (offset -ℤ pos 1) o ≡ b → le_z (offset -ℤ pos 1) o ≡ is_exactly (o +ℤ pos 1) offset
    go true e = e ∙ sym (one_more o offset h e)
    go false e = e ∙ sym (too_much o offset h e)

pub returns : goal.returns
returns c =
    let fits : SFits w64 (c.args.offset -ℤ pos 1) = rw (to_z-of_z c.ranges.offset) at (overflow_sub-result c) in
    rw (to_z-of_z c.ranges.offset, to_z-of_z fits, to_z-of_z c.ranges.o) (decided c.args.o c.args.offset (rw (to_z-of_z c.ranges.offset, to_z-of_z c.ranges.o) at c.if-offset-o.false))
