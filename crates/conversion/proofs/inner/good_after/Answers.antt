-- `conversion::inner::good_after` meets its contract. Assumes nothing.
use borrow.Author.Rules.{rules}
use Prim.Native.Nat.{suc, ◌+◌, ◌*◌}
use lib.ListN.{get_or}
use native.Mathlib.Omega.{arith}
use Rattle.clock.specs.Leap.{good_entry}
use mathlib.Core.Path.{◌≡◌}
use lib.IntN.{pos}
use mir.Syntax.{w64}
use mir.Val.{SFits}
use mir.Facts.{to_z-of_z}
use Rattle.conversion.proofs.inner.good_after.Goals as goal

pub returns : goal.returns
unfolding good_entry
returns c =
    let w = c.args.leap.now in
    let i = c.args.i in
    let f0 : SFits w64 (get_or w (2 * i) (pos 0)) = search rules in
    let f1 : SFits w64 (get_or w (2 * i + 1) (pos 0)) = search rules in
    let f2 : SFits w64 (get_or w (2 * i + 2) (pos 0)) = search rules in
    let f3 : SFits w64 (get_or w (2 * i + 3) (pos 0)) = search rules in
    let e2 : 2 * i + 2 ≡ 2 * suc i = omega arith in
    let e3 : 2 * i + 3 ≡ 2 * suc i + 1 = omega arith in
    rw (to_z-of_z f0, to_z-of_z f1, to_z-of_z f2, to_z-of_z f3, e2, e3) at c.next_entry.ensures
