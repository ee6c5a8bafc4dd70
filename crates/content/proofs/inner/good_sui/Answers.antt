-- `content::inner::good_sui` meets its contract. Assumes nothing.
use mathlib.Core.Bool.{true}
use mathlib.Core.Path.{◌≡◌, sym, ◌∙◌}
use lib.IntN.{pos}
use mir.Facts.{to_z-of_z}
use Rattle.whole.specs.Tests.{in_range, is_exactly}
use Rattle.content.proofs.theory.Judged.{same_bits, other_bits, year_out, year_not_due, count_decides}
use Rattle.content.proofs.inner.good_sui.Goals as goal
use Rattle.content.proofs.inner.good_sui.Goals.{After-in_range, Else-year-due}

in-years : (c : After-in_range) → (let a = c.args in c.in_range.result ≡ in_range (pos 1700) (pos 2500) a.year)
in-years c = let fy = c.ranges.year in rw (to_z-of_z fy) at c.in_range.ensures

is_due : (c : Else-year-due) → (let a = c.args in is_exactly a.due a.year ≡ true)
is_due c = same_bits c.args.due c.args.year c.ranges.due c.ranges.year c.if-year-due.false

pub returns-then-not-in_range : goal.returns-then-not-in_range
returns-then-not-in_range c =
    let a = c.args in
    year_out a.due a.year a.months (sym (in-years (goal.at.returns-then-not-in_range c).After-in_range) ∙ c.if-not-in_range.true)

pub returns-then-year-due : goal.returns-then-year-due
returns-then-year-due c =
    let a = c.args in
    year_not_due a.due a.year a.months (sym (in-years (goal.at.returns-then-year-due c).After-in_range) ∙ c.if-not-in_range.false) (other_bits a.due a.year c.if-year-due.true)

pub returns : goal.returns
returns c =
    let a = c.args in
    let fm = c.ranges.months in
    (rw (to_z-of_z fm) at c.in_range-2.ensures)
    ∙ count_decides a.due a.year a.months (sym (in-years (goal.at.returns c).After-in_range) ∙ c.if-not-in_range.false) (is_due (goal.at.returns c).Else-year-due)
