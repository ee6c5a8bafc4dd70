-- What document 01's numbers on dates are, each a computed fact on both sides, and all of them checked at once; its starred examples stand in the crate
-- `examples`. Assumes nothing.
use Rattle.std.specs.Prelude.{ℕ, ◌^◌, ◌+◌, ◌-◌, Bool, false, ◌&&◌, List, [], ◌∷◌, T, ℤ, pos, negsuc}
use Rattle.refusals.specs.Verdict.{Verdict, answered, refused}
use Rattle.refusals.specs.Evaluated.{is_refused}
use Rattle.whole.specs.Evaluated.{same, all}
use Rattle.whole.specs.Floor.{floor_div, floor_mod}
use Rattle.dates.specs.declared.Date.{Date}
use Rattle.times.specs.declared.Day.{Day}
use Rattle.dates.specs.Calendar.{leap_year, leap_years_to, new_year, month_lengths, month_length, days_before, valid_date, number_of, year_or_next, year_of, months_over, date_in_year, date_for}
use Rattle.dates.specs.Answers.{has_date, date_of, day_of}

abbrev pub is_date : Verdict Date → ℤ → ℤ → ℤ → Bool
is_date (answered d) y m k = same d.year y && (same d.month m && same d.day k)
is_date (refused number segment) y m k = false

abbrev pub is_day : Verdict Day → ℤ → Bool
is_day (answered n) z = same n.0 z
is_day (refused number segment) z = false

abbrev pub day : ℤ → Day
day n = record { 0 = n }

abbrev pub date : ℕ → ℕ → ℕ → Date
date y m d = record { year = pos y; month = pos m; day = pos d }

-- the first of a month of 2001, both ways
abbrev first_of : ℕ → ℕ → Bool
first_of month later = is_day (day_of (date 2001 month 1)) (pos (366 + later)) && is_date (date_of (day (pos (366 + later)))) (pos 2001) (pos month) (pos 1)

unfoldable pub examples : List Bool
unfolding leap_year leap_years_to new_year month_lengths month_length days_before valid_date number_of year_or_next year_of months_over date_in_year date_for has_date date_of day_of floor_div floor_mod
examples =
    -- the first day, and days before it
    is_date (date_of (day (pos 0))) (pos 2000) (pos 1) (pos 1)
    ∷ is_date (date_of (day (negsuc 0))) (pos 1999) (pos 12) (pos 31)
    ∷ is_date (date_of (day (negsuc 365))) (pos 1998) (pos 12) (pos 31)
    -- days -150,000 to 200,000
    ∷ is_date (date_of (day (negsuc 149999))) (pos 1589) (pos 4) (pos 25)
    ∷ is_date (date_of (day (pos 200000))) (pos 2547) (pos 8) (pos 1)
    ∷ is_refused (date_of (day (negsuc 150000))) 6
    ∷ is_refused (date_of (day (pos 200001))) 6
    ∷ is_day (day_of (date 1589 4 25)) (negsuc 149999)
    ∷ is_refused (day_of (date 1589 4 24)) 6
    ∷ is_day (day_of (date 2547 8 1)) (pos 200000)
    ∷ is_refused (day_of (date 2547 8 2)) 6
    -- every fourth year is leap, but of the full centuries only every fourth
    ∷ is_day (day_of (date 2004 2 29)) (pos 1520)
    ∷ is_refused (day_of (date 2001 2 29)) 6
    ∷ is_refused (day_of (date 2100 2 29)) 6
    ∷ is_day (day_of (date 2400 2 29)) (pos 146156)
    ∷ is_day (day_of (date 1900 2 28)) (negsuc 36465)
    ∷ is_day (day_of (date 1900 3 1)) (negsuc 36464)
    -- where each month of 2001 begins: day 366 and so many days later
    ∷ first_of 1 0
    ∷ first_of 2 31
    ∷ first_of 3 59
    ∷ first_of 4 90
    ∷ first_of 5 120
    ∷ first_of 6 151
    ∷ first_of 7 181
    ∷ first_of 8 212
    ∷ first_of 9 243
    ∷ first_of 10 273
    ∷ first_of 11 304
    ∷ first_of 12 334
    -- no such date
    ∷ is_day (day_of (date 2000 12 31)) (pos 365)
    ∷ is_refused (day_of (date 2000 12 32)) 6
    ∷ is_refused (day_of (date 2000 13 1)) 6
    ∷ is_refused (day_of (date 2000 0 1)) 6
    ∷ is_refused (day_of (date 2000 1 0)) 6
    ∷ is_refused (day_of (date 2000 2 30)) 6
    ∷ is_day (day_of (date 2000 4 30)) (pos 120)
    ∷ is_refused (day_of (date 2000 4 31)) 6
    -- numbers at the ends of the machine's range
    ∷ is_refused (day_of (date (2 ^ 63 - 1) 1 1)) 6
    ∷ is_refused (day_of (record { year = negsuc (2 ^ 63 - 1); month = pos 1; day = pos 1 })) 6
    ∷ is_refused (day_of (record { year = pos 2000; month = negsuc (2 ^ 63 - 1); day = pos 1 })) 6
    ∷ is_refused (day_of (record { year = pos 2000; month = pos 1; day = negsuc (2 ^ 63 - 1) })) 6
    ∷ []

pub examples_hold : T (all examples)
unfolding examples
examples_hold = tt
