-- `dates::inner::date_for` meets its contract. Assumes nothing.
use mathlib.Core.Path.{◌≡◌, ◌∙◌}
use native.Mathlib.Omega.{arith}
use mir.Syntax.{w64}
use mir.Val.{to_z, of_z}
use Rattle.whole.specs.Ranges.{back}
use Rattle.dates.specs.Calendar.{new_year, year_of, date_for}
use Rattle.dates.proofs.theory.Years.{year_found}
use Rattle.dates.proofs.theory.Days.{days_over, day_within}
use Rattle.dates.proofs.theory.Sizes.{range_small, year_small, year_sum}
use Rattle.dates.proofs.inner.date_for.Goals as goal
use Rattle.dates.proofs.inner.date_for.Goals.{After-new_year-first, After-year_of-year, After-distance}

at_year : (c : After-year_of-year) → to_z w64 (of_z w64 c.year_of-year.result) ≡ year_of c.args.day.0
at_year c = back c.year_of-year.result c.year_of-year.type_inv ∙ c.year_of-year.ensures

at_first : (c : After-new_year-first) → c.new_year-first.result.0 ≡ new_year (year_of c.args.day.0)
at_first c = rw (at_year c.before) at c.new_year-first.ensures

at_over : (c : After-distance) → c.distance.result ≡ days_over c.args.day.0
unfolding days_over
at_over c =
    rw (back c.args.day.0 (omega arith), back c.new_year-first.result.0 (omega arith), at_first c.before.before.before) at c.distance.ensures

pub year_of-year-requires : goal.year_of-year-requires
year_of-year-requires c = range_small c.args.day.0 c.requires

pub new_year-first-requires : goal.new_year-first-requires
new_year-first-requires c = rw (at_year c) (year_small c.args.day.0 (range_small c.args.day.0 c.requires))

pub distance-requires-clause-a_le_b : goal.distance-requires-clause-a_le_b
distance-requires-clause-a_le_b c =
    rw (back c.args.day.0 (omega arith), back c.new_year-first.result.0 (omega arith), at_first c.before.before.before) ((year_found c.args.day.0).0)

pub distance-requires-clause-b_bound : goal.distance-requires-clause-b_bound
unfolding days_over
distance-requires-clause-b_bound c =
    rw (back c.args.day.0 (omega arith), back c.new_year-first.result.0 (omega arith), at_first c.before.before.before) (omega (arith, day_within c.args.day.0, year_sum (year_of c.args.day.0)))

pub date_in_year-requires : goal.date_in_year-requires
date_in_year-requires c = rw (at_over c, at_year c.before.before.before.before) (day_within c.args.day.0)

pub returns : goal.returns
unfolding date_for days_over
returns c = rw (at_over c.before, at_year c.before.before.before.before.before) at c.date_in_year.ensures
