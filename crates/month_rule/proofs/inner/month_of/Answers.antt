-- `month_rule::inner::month_of` meets its contract. Assumes nothing.
use native.Mathlib.Omega.{arith}
use mir.Syntax.{w64}
use mir.Val.{SFits}
use mir.Facts.{to_z-of_z}
use borrow.Author.Rules.{rules}
use Rattle.whole.specs.Ranges.{fits, bounds}
use Rattle.months.specs.Handles.{handle_at, month_of}
use Rattle.months.proofs.theory.Numbering.{number_small, mark_small}
use Rattle.month_rule.proofs.inner.month_of.Goals as goal

pub handle-requires : goal.handle-requires
handle-requires c =
    let a = c.args in
    let f : SFits w64 a.year = search rules in record { within = rw (to_z-of_z f) c.requires.within; number_bound = omega (arith, c.number_at.ensures, number_small a.leap a.place); mark_bound = omega (arith, c.leap_mark.ensures, mark_small a.leap a.place) }

pub subtract-requires : goal.subtract-requires
subtract-requires c =
    let a = c.args in
    let f : SFits w64 a.first = search rules in
    let g : SFits w64 a.next = search rules in
    let small = c.requires.within_2 in
    let small-next = c.requires.within_3 in
    rw (to_z-of_z f, to_z-of_z g) (fits (search bounds) tt)

pub returns : goal.returns
unfolding month_of handle_at
returns c =
    let a = c.args in
    let fy : SFits w64 a.year = search rules in
    let f : SFits w64 a.first = search rules in
    let g : SFits w64 a.next = search rules in
    let fh : SFits w64 c.handle.result = search rules in
    let fs : SFits w64 c.subtract.result = search rules in
    rw (to_z-of_z f, to_z-of_z fh, to_z-of_z fs, rw (to_z-of_z fy, c.number_at.ensures, c.leap_mark.ensures) at c.handle.ensures, rw (to_z-of_z f, to_z-of_z g) at c.subtract.ensures)
