-- The first of January is a date whose number is the year's first day, and the day before it fits. Assumes nothing.
use Rattle.std.specs.Prelude.{◌≡◌, refl, true, [], ◌∷◌, ℤ, pos, ◌-ℤ◌}
use Rattle.std.specs.Int.{w64}
use Rattle.std.proofs.Common.{SFits}
use Rattle.whole.specs.Ranges.{Within, fits, bounds}
use Rattle.whole.specs.Solver.{⇑, ring}
use Rattle.dates.specs.declared.Date.{Date}
use Rattle.dates.specs.Calendar.{new_year, month_lengths, month_length, days_before, valid_date, number_of, valid, day_number}
use Rattle.dates.proofs.theory.Sizes.{new_year_small}

abbrev pub january : ℤ → Date
january year = record { year = year; month = pos 1; day = pos 1 }

pub january_valid : (year : ℤ) → valid (january year) ≡ true
unfolding valid_date month_length month_lengths
january_valid year = refl

pub january_number : (year : ℤ) → day_number (january year) ≡ new_year year
unfolding number_of days_before
january_number year = ⇑ (new_year year ∷ []) (search ring depth 9) refl

pub eve_fits : (year : ℤ) → Within 1000000000 year → SFits w64 (new_year year -ℤ pos 1)
eve_fits year h = let small = new_year_small year h in fits (search bounds) tt
