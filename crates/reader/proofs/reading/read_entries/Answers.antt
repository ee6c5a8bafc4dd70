-- `reader::reading::read_entries` meets its contract. Assumes nothing.
use mathlib.Core.Path.{◌≡◌, refl, ◌∙◌}
use Prim.Native.Nat.{◌+◌, ◌*◌, ◌≤◌}
use native.Mathlib.Omega.{arith}
use lib.ListN.{length, length-set}
use Rattle.whole.specs.Ranges.{back}
use Rattle.almanac.specs.Fields.{times, widths, numbers_in}
use Rattle.almanac.specs.Layout.{entry_fields}
use Rattle.almanac.specs.theory.Sections.{read_turn, two_stored}
use Rattle.reader.proofs.reading.read_entries.Goals as goal

pub loop-i-init : goal.loop-i-init
unfolding times numbers_in
loop-i-init c = refl

pub bounds-out-i-in-loop-i : goal.bounds-out-i-in-loop-i
bounds-out-i-in-loop-i c = simp length-set (omega arith)

pub loop-i-preserved : goal.loop-i-preserved
unfolding numbers_in widths
loop-i-preserved c =
    let i = c.loop-i.i in
    let first = c.signed4_at in
    let second = c.unsigned4_at in
    let room : 2 * i + 2 ≤ length c.loop-i.out = omega (arith, c.loop-i-test.true, c.requires.n_in_bounds_2) in
    rw (back first.result first.type_inv, back second.result second.type_inv, first.ensures, second.ensures)
    (two_stored c.loop-i.out (2 * i) _ _ room
    ∙ read_turn entry_fields 2 refl c.args.file.now c.args.at c.args.out.now i c.loop-i.invariant _ refl)

pub returns : goal.returns
returns c =
    let all : c.loop-i.i ≡ c.args.n = omega (arith, c.loop-i-test.false) in
    rw all at c.loop-i.invariant
