-- `conversion::inner::good_entry` meets its contract. Assumes nothing.
use borrow.Author.Rules.{rules}
use Prim.Native.Nat.{suc, ◌-◌}
use mathlib.Core.Path.{◌≡◌, ap, ◌∙◌}
use native.Mathlib.Omega.{arith}
use mir.Syntax.{w64}
use mir.Val.{SFits}
use mir.Facts.{to_z-of_z}
use Rattle.clock.specs.Leap.{day, offset, good_entry}
use Rattle.conversion.proofs.inner.good_entry.Goals as goal

pub returns-then-i-eq0 : goal.returns-then-i-eq0
unfolding good_entry
returns-then-i-eq0 c =
    let w = c.args.leap.now in
    let d : SFits w64 (day w 0) = search rules in
    let o : SFits w64 (offset w 0) = search rules in
    rw c.if-i-eq0.true (rw (to_z-of_z d, to_z-of_z o) at c.first_entry.ensures)

pub returns : goal.returns
returns c =
    let i = c.args.i in
    let later : suc (i - 1) ≡ i = omega arith in
    c.good_after.ensures ∙ ap (good_entry c.args.leap.now) later
