-- The Gregorian calendar and the day number (document 01, "Three counts of time"): leap years, the lengths of months, the number of a date by the
-- closed formula, and the date of a day. Day 0 is 2000-01-01; all divisions round down. Assumes nothing: these are definitions.
use Rattle.std.specs.Prelude.{ℕ, suc, ◌+◌, ◌-◌, Bool, not, cond, ◌&&◌, ◌||◌, List, [], ◌∷◌, ℤ, pos, nat_abs, ◌+ℤ◌, ◌-ℤ◌, ◌*ℤ◌, get_or, take, eqb, ltb}
use Rattle.std.specs.Int.Signed.{lt_z}
use Rattle.whole.specs.Floor.{floor_div, floor_mod}
use Rattle.whole.specs.Tests.{in_range}
use Rattle.dates.specs.declared.Date.{Date}

-- ---- years
-- m divides y
abbrev pub divides : ℕ → ℤ → Bool
divides m y = eqb (floor_mod y m) 0

-- every fourth year is leap, but of the full centuries only every fourth
unfoldable pub leap_year : ℤ → Bool
leap_year y = divides 4 y && (not (divides 100 y) || divides 400 y)

-- how many leap years there are from year 1 to year y
unfoldable pub leap_years_to : ℤ → ℤ
leap_years_to y = floor_div y 4 -ℤ floor_div y 100 +ℤ floor_div y 400

-- the day number of the first of January; 484 leap years come before 2000
unfoldable pub new_year : ℤ → ℤ
new_year y = pos 365 *ℤ (y -ℤ pos 2000) +ℤ leap_years_to (y -ℤ pos 1) -ℤ pos 484

-- ---- months
-- the lengths of the twelve months, January first, of a leap year or another
unfoldable pub month_lengths : Bool → List ℕ
month_lengths leap = 31 ∷ cond leap 29 28 ∷ 31 ∷ 30 ∷ 31 ∷ 30 ∷ 31 ∷ 31 ∷ 30 ∷ 31 ∷ 30 ∷ 31 ∷ []

abbrev pub lengths_in : ℤ → List ℕ
lengths_in y = month_lengths (leap_year y)

-- the days of so many months
abbrev pub total : List ℕ → ℕ
total [] = 0
total (n ∷ ns) = n + total ns

abbrev pub year_length : ℤ → ℕ
year_length y = total (lengths_in y)

-- of month 1 to 12 of a year: its length, and the days of that year before it
unfoldable pub month_length : ℤ → ℤ → ℕ
month_length y m = get_or (lengths_in y) (nat_abs m - 1) 0

unfoldable pub days_before : ℤ → ℤ → ℕ
days_before y m = total (take (nat_abs m - 1) (lengths_in y))

-- ---- dates
-- there is such a date
unfoldable pub valid_date : ℤ → ℤ → ℤ → Bool
valid_date y m d = in_range (pos 1) (pos 12) m && in_range (pos 1) (pos (month_length y m)) d

-- the day number of a date
unfoldable pub number_of : ℤ → ℤ → ℤ → ℤ
number_of y m d = new_year y +ℤ pos (days_before y m) +ℤ d -ℤ pos 1

abbrev pub valid : Date → Bool
valid d = valid_date d.year d.month d.day

abbrev pub day_number : Date → ℤ
day_number d = number_of d.year d.month d.day

-- 400 years have 146,097 days, so this is the year of day n or the one after it (`year_found`)
unfoldable pub year_or_next : ℤ → ℤ
year_or_next n = pos 2000 +ℤ floor_div (pos 400 *ℤ n +ℤ pos 396) 146097

-- the year of day n
unfoldable pub year_of : ℤ → ℤ
year_of n = cond (lt_z n (new_year (year_or_next n))) (year_or_next n -ℤ pos 1) (year_or_next n)

-- how many months of these lengths are over when k days are
unfoldable pub months_over : List ℕ → ℕ → ℕ
months_over [] k = 0
months_over (l ∷ ls) k = cond (ltb k l) 0 (suc (months_over ls (k - l)))

-- the date in year y when k days of it are over
unfoldable pub date_in_year : ℤ → ℕ → Date
date_in_year y k =
    let over = months_over (lengths_in y) k in
    record { year = y; month = pos (suc over); day = pos (suc (k - total (take over (lengths_in y)))) }

-- the date of day n
unfoldable pub date_for : ℤ → Date
date_for n = date_in_year (year_of n) (nat_abs (n -ℤ new_year (year_of n)))

-- the date after a date, by the lengths of months
unfoldable pub date_after : Date → Date
date_after d =
    cond (lt_z d.day (pos (month_length d.year d.month))) (record { year = d.year; month = d.month; day = d.day +ℤ pos 1 })
    (cond (lt_z d.month (pos 12)) (record { year = d.year; month = d.month +ℤ pos 1; day = pos 1 })
    (record { year = d.year +ℤ pos 1; month = pos 1; day = pos 1 }))
