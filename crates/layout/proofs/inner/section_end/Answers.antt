-- `layout::inner::section_end` meets its contract. Assumes nothing.
use Prim.Native.Nat.{ℕ, ◌+◌, ◌*◌, ◌<◌, ◌≤◌}
use borrow.Author.Tests.{le-leb, lt-leb, lt-ltb, le-ltb}
use lib.IntN.{pos, nat_abs}
use mathlib.Core.Bool.{true}
use lib.Dec.{ltb}
use lib.ListN.{length, get_or}
use mathlib.Core.Path.{◌≡◌, sym, ap, ◌∙◌}
use mir.Facts.{to_z-of_z}
use mir.Syntax.{w64}
use mir.Val.{SFits}
use native.Mathlib.Nat.{mul-le-mul, le_refl}
use native.Mathlib.Omega.{arith}
use Rattle.layout.specs.Layout.{section_end}
use Rattle.refusals.specs.Verdict.{test_refuses, test_passes}
use Rattle.whole.specs.Solver.{lt_no}
use Rattle.layout.proofs.inner.section_end.Goals as goal

-- a count that is larger than all the words needs more of them
too_many : (n at e w k : ℕ) → n < k → 1 ≤ w → n < at + 1 + e + w * k
too_many n at e w k h l = omega (arith, mul-le-mul l (le_refl k))

pub returns-then-words-at : goal.returns-then-words-at
unfolding section_end
returns-then-words-at c = test_refuses 13 _ (le-leb _ _ c.if-words-at.true)

pub returns-then-counted-lt0 : goal.returns-then-counted-lt0
unfolding section_end
returns-then-counted-lt0 c =
    let z = get_or c.args.words.now c.args.at (pos 0) in
    let fz : SFits w64 z = record { sfits = (omega arith) } in
    test_refuses 13 _ (rw (to_z-of_z fz) at c.if-counted-lt0.true) ∙ test_passes 13 _ (lt-leb _ _ c.if-words-at.false)

pub count-k-requires : goal.count-k-requires
count-k-requires c =
    let z = get_or c.args.words.now c.args.at (pos 0) in
    let fz : SFits w64 z = record { sfits = (omega arith) } in
    rw (to_z-of_z fz) (lt_no (rw (to_z-of_z fz) at c.if-counted-lt0.false))

pub returns-then-words-k : goal.returns-then-words-k
unfolding section_end
returns-then-words-k c =
    let z = get_or c.args.words.now c.args.at (pos 0) in
    let fz : SFits w64 z = record { sfits = (omega arith) } in
    let is : nat_abs z ≡ c.count-k.result = sym (ap nat_abs (rw (to_z-of_z fz) at c.count-k.ensures)) in
    let short : ltb (length c.args.words.now) (c.args.at + 1 + c.args.extra + c.args.width * nat_abs z) ≡ true = rw is (lt-ltb _ _ (too_many _ c.args.at c.args.extra c.args.width _ c.if-words-k.true c.requires.le_width.0)) in
    test_refuses 13 _ short ∙ test_passes 13 _ (rw (to_z-of_z fz) at c.if-counted-lt0.false) ∙ test_passes 13 _ (lt-leb _ _ c.if-words-at.false)

pub overflow_mul-end : goal.overflow_mul-end
overflow_mul-end c =
    record { fits = omega (arith, mul-le-mul c.requires.le_width.1 c.if-words-k.false, c.requires.words_len_bound) }

pub overflow_add-end-3 : goal.overflow_add-end-3
overflow_add-end-3 c =
    record { fits = omega (arith, mul-le-mul c.requires.le_width.1 c.if-words-k.false, c.requires.words_len_bound, c.requires.extra_bound, c.if-words-at.false) }

pub returns-then-words-end : goal.returns-then-words-end
unfolding section_end
returns-then-words-end c =
    let z = get_or c.args.words.now c.args.at (pos 0) in
    let fz : SFits w64 z = record { sfits = (omega arith) } in
    let is : nat_abs z ≡ c.count-k.result = sym (ap nat_abs (rw (to_z-of_z fz) at c.count-k.ensures)) in
    let short : ltb (length c.args.words.now) (c.args.at + 1 + c.args.extra + c.args.width * nat_abs z) ≡ true = rw is (lt-ltb _ _ c.if-words-end.true) in
    test_refuses 13 _ short ∙ test_passes 13 _ (rw (to_z-of_z fz) at c.if-counted-lt0.false) ∙ test_passes 13 _ (lt-leb _ _ c.if-words-at.false)

pub returns : goal.returns
unfolding section_end
returns c =
    let z = get_or c.args.words.now c.args.at (pos 0) in
    let fz : SFits w64 z = record { sfits = (omega arith) } in
    let is : nat_abs z ≡ c.count-k.result = sym (ap nat_abs (rw (to_z-of_z fz) at c.count-k.ensures)) in
    rw (← is) (test_passes 13 _ (le-ltb _ _ (rw (← is) at c.if-words-end.false))) ∙ test_passes 13 _ (rw (to_z-of_z fz) at c.if-counted-lt0.false) ∙ test_passes 13 _ (lt-leb _ _ c.if-words-at.false)
