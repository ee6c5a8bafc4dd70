-- `reader::inner::read_months` meets its contract. Assumes nothing.
use mathlib.Core.Path.{◌≡◌, refl, ◌∙◌}
use Prim.Native.Nat.{◌+◌, ◌*◌, ◌≤◌}
use native.Mathlib.Omega.{arith}
use lib.ListN.{length, length-set}
use Rattle.whole.specs.Ranges.{back}
use Rattle.almanac.specs.Fields.{times, widths, numbers_in}
use Rattle.almanac.specs.Layout.{month_fields}
use Rattle.almanac.specs.theory.Sections.{read_turn, three_stored}
use Rattle.reader.proofs.inner.read_months.Goals as goal

pub loop-i-init : goal.loop-i-init
unfolding times numbers_in
loop-i-init c = refl

pub bounds-out-i-in-loop-i : goal.bounds-out-i-in-loop-i
bounds-out-i-in-loop-i c = simp length-set (omega arith)

pub bounds-out-i-in-loop-i-2 : goal.bounds-out-i-in-loop-i-2
bounds-out-i-in-loop-i-2 c = simp length-set (omega arith)

pub loop-i-preserved : goal.loop-i-preserved
unfolding numbers_in widths
loop-i-preserved c =
    let i = c.loop-i.i in
    let first = c.unsigned4_at in
    let second = c.signed4_at in
    let third = c.byte_at in
    let room : 3 * i + 3 ≤ length c.loop-i.out = omega (arith, c.loop-i-test.true, c.requires.n_in_bounds_2) in
    let eight : c.args.at + 9 * i + 4 + 4 ≡ c.args.at + 9 * i + 8 = omega arith in
    rw (back first.result first.type_inv, back second.result second.type_inv, back third.result third.type_inv, first.ensures, second.ensures, third.ensures, ← eight)
    (three_stored c.loop-i.out (3 * i) _ _ _ room
    ∙ read_turn month_fields 3 refl c.args.file.now c.args.at c.args.out.now i c.loop-i.invariant _ refl)

pub returns : goal.returns
returns c =
    let all : c.loop-i.i ≡ c.args.n = omega (arith, c.loop-i-test.false) in
    rw all at c.loop-i.invariant
