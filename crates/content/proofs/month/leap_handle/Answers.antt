-- `content::month::leap_handle` meets its contract. Assumes nothing.
use mathlib.Core.Path.{◌≡◌, ◌∙◌}
use mathlib.Core.Bool.{true}
use borrow.Author.Rules.{rules}
use lib.IntN.{pos}
use mir.Facts.{to_z-of_z}
use Rattle.whole.specs.Tests.{is_exactly}
use Rattle.content.proofs.theory.Judged.{same_bits, other_bits, not_of_13, leap_before, leap_first, leap_is}
use Rattle.content.proofs.month.leap_handle.Goals as goal
use Rattle.content.proofs.month.leap_handle.Goals.{Else-months-ne13}

of_13 : (c : Else-months-ne13) → is_exactly (pos 13) c.args.months ≡ true
of_13 c = same_bits (pos 13) c.args.months (search rules) c.ranges.months c.if-months-ne13.false

pub returns-then-months-ne13 : goal.returns-then-months-ne13
returns-then-months-ne13 c =
    let a = c.args in
    not_of_13 a.year a.months a.leaps a.place a.h (other_bits (pos 13) a.months c.if-months-ne13.true)

pub returns-then-leaps-gt0 : goal.returns-then-leaps-gt0
returns-then-leaps-gt0 c =
    let a = c.args in
    leap_before a.year a.months a.leaps a.place a.h (of_13 (goal.at.returns-then-leaps-gt0 c).Else-months-ne13) c.if-leaps-gt0.true

pub returns-then-place-lt1 : goal.returns-then-place-lt1
returns-then-place-lt1 c =
    let a = c.args in
    leap_first a.year a.months a.leaps a.place a.h (of_13 (goal.at.returns-then-place-lt1 c).Else-months-ne13) c.if-leaps-gt0.false c.if-place-lt1.true

pub returns : goal.returns
returns c =
    let a = c.args in
    let fy = c.ranges.year in
    let fh = c.ranges.h in
    (rw (to_z-of_z fy, to_z-of_z fh) at c.is_handle.ensures)
    ∙ leap_is a.year a.months a.leaps a.place a.h (of_13 (goal.at.returns c).Else-months-ne13) c.if-leaps-gt0.false c.if-place-lt1.false
