-- `dates::inner::day_number` meets its contract. Assumes nothing.
use native.Mathlib.Omega.{arith}
use mathlib.Core.Path.{◌≡◌, ◌∙◌}
use lib.IntN.{pos}
use mir.Syntax.{w64}
use mir.Val.{to_z, of_z}
use Rattle.whole.specs.Ranges.{back}
use Rattle.dates.specs.Calendar.{new_year, days_before, number_of}
use Rattle.dates.proofs.theory.Days.{Valid, valid_says}
use Rattle.dates.proofs.theory.Sizes.{before_small, day_small, new_year_small}
use Rattle.dates.proofs.inner.day_number.Goals as goal
use Rattle.dates.proofs.inner.day_number.Goals.{After-days_before, After-new_year-first, Start}

known : (c : Start) → Valid c.args.date.year c.args.date.month c.args.date.day
known c = valid_says c.args.date.year c.args.date.month c.args.date.day c.requires.date_value

at_first : (c : After-new_year-first) → c.new_year-first.result.0 ≡ new_year c.args.date.year
at_first c =
    rw (back c.args.date.year (omega arith)) at c.new_year-first.ensures

at_before : (c : After-days_before) → (let date = c.args.date in to_z w64 (of_z w64 c.days_before.result) ≡ pos (days_before date.year date.month))
at_before c =
    let date = c.args.date in
    back c.days_before.result c.days_before.type_inv
    ∙ (rw (back date.year (omega arith), back date.month (omega arith)) at c.days_before.ensures)

pub days_before-requires : goal.days_before-requires
days_before-requires c =
    let v = known (goal.at.days_before-requires c).Start in
    rw (back c.args.date.month (omega arith)) (v.month_from, v.month_to)

pub day_after-requires : goal.day_after-requires
day_after-requires c =
    let date = c.args.date in
    rw (at_first (goal.at.day_after-requires c).After-new_year-first, at_before (goal.at.day_after-requires c).After-days_before, back date.day (omega arith))
    (record { within = new_year_small date.year c.requires.within; within_2 = before_small date.year date.month; within_3 = day_small date.year date.month date.day (known (goal.at.day_after-requires c).Start) })

pub returns : goal.returns
unfolding number_of
returns c =
    rw (at_first (goal.at.returns c).After-new_year-first, at_before (goal.at.returns c).After-days_before, back c.args.date.day (omega arith)) at c.day_after.ensures
