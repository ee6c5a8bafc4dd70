-- `dates::day_of` meets its contract. Assumes nothing.
use mathlib.Core.Path.{◌≡◌, sym, ap, ◌∙◌}
use mathlib.Core.Bool.{true}
use mathlib.Core.List.{[], ◌∷◌}
use native.Mathlib.Omega.{arith}
use lib.IntN.{pos}
use Rattle.whole.specs.Ranges.{back}
use Rattle.whole.specs.Solver.{⇑, ⇓, ring}
use Rattle.whole.specs.Tests.{in_range, in_range_says}
use Rattle.dates.specs.Answers.{has_date}
use Rattle.dates.specs.Calendar.{valid}
use Rattle.dates.proofs.theory.Judged.{refused_outside_1500_to_2600, no_date, no_day, day_found}
use Rattle.dates.proofs.day_of.Goals as goal
use Rattle.dates.proofs.day_of.Goals.{After-in_range, Else-not-valid}

at_year : (c : After-in_range) → in_range (pos 1500) (pos 2600) c.args.date.year ≡ c.in_range.result
at_year c =
    sym (rw (back c.args.date.year (omega arith)) at c.in_range.ensures)

a_date : (c : Else-not-valid) → valid c.args.date ≡ true
a_date c = sym c.valid.ensures ∙ c.if-not-valid.false

pub returns-then-not-in_range : goal.returns-then-not-in_range
returns-then-not-in_range c = refused_outside_1500_to_2600 c.args.date (at_year (goal.at.returns-then-not-in_range c).After-in_range ∙ c.if-not-in_range.true)

pub returns-then-not-valid : goal.returns-then-not-valid
returns-then-not-valid c =
    let date = c.args.date in
    no_date date (sym c.valid.ensures ∙ c.if-not-valid.true)

pub day_number-day-requires : goal.day_number-day-requires
day_number-day-requires c =
    let y = c.args.date.year in
    let r = in_range_says (pos 1500) (pos 2600) y (at_year (goal.at.day_number-day-requires c).After-in_range ∙ c.if-not-in_range.false) in
    let ρ = y ∷ [] in record { date_value = a_date (goal.at.day_number-day-requires c).Else-not-valid; within = record { within = ⇑ ρ (search ring) (omega (arith, ⇓ ρ r.0 (search ring), ⇓ ρ r.1 (search ring))) } }

pub returns-then-not-has_date : goal.returns-then-not-has_date
returns-then-not-has_date c =
    let date = c.args.date in
    no_day date (ap has_date (sym c.day_number-day.ensures) ∙ sym c.has_date.ensures ∙ c.if-not-has_date.true)

pub returns : goal.returns
returns c =
    let date = c.args.date in
    day_found date c.day_number-day.result (a_date (goal.at.returns c).Else-not-valid) (sym c.has_date.ensures ∙ c.if-not-has_date.false) c.day_number-day.ensures
