-- The month rule over days (document 01, "Months of a sui"), for any list of new-moon days and any list of zhongqi days. Assumes nothing: these are
-- definitions.
use Rattle.std.specs.Prelude.{◌≡◌, Bool, true, cond, not, ◌&&◌, ◌||◌, List, ◌++◌, ℕ, ◌+◌, ◌-◌, ◌<◌, eqb, leb, ltb, ℤ, pos, ◌-ℤ◌, length, get_or, take, drop, replicate, ◌≤ℤ◌}
use Rattle.std.specs.Int.Signed.{le_z, lt_z}
use Rattle.whole.specs.Counted.{count_of}
use Rattle.whole.specs.Found.{first_below}
use Rattle.whole.specs.Tabulated.{tabulate}
use Rattle.refusals.specs.Verdict.{Verdict, answered, refuse_when, ◌before◌, ◌then◌}
use Rattle.months.specs.declared.Month.{Month}
use Rattle.months.specs.declared.SuiDays.{SuiDays}
use Rattle.months.specs.declared.Sui.{Sui}
use Rattle.months.specs.Handles.{month_of, no_month}

-- ---- from two lists of days to the days of a sui
-- how many of the days are not after `day`: where days rise, the first so many
unfoldable pub not_after : ℤ → List ℤ → ℕ
not_after day days = count_of (λ (d : ℤ). le_z d day) days

-- the last of the days that is not after `day`
unfoldable pub last_not_after : ℤ → List ℤ → ℤ
last_not_after day days = get_or days (not_after day days - 1) (pos 0)

-- the zhongqi are Z11 to Z11
abbrev pub first_solstice : List ℤ → ℤ
first_solstice zhongqi = get_or zhongqi 0 (pos 0)

abbrev pub second_solstice : List ℤ → ℤ
second_solstice zhongqi = get_or zhongqi 12 (pos 0)

-- the new moons not after the first, and not after the second solstice day
unfoldable pub by_first : List ℤ → List ℤ → ℕ
by_first moons zhongqi = not_after (first_solstice zhongqi) moons

unfoldable pub by_second : List ℤ → List ℤ → ℕ
by_second moons zhongqi = not_after (second_solstice zhongqi) moons

-- none is listed for month 11 to begin on, or none on a later day than the second solstice
unfoldable pub is_missing : ℕ → ℕ → ℕ → Bool
is_missing first second listed = eqb first 0 || leb listed second

unfoldable pub moon_missing : List ℤ → List ℤ → Bool
moon_missing moons zhongqi = is_missing (by_first moons zhongqi) (by_second moons zhongqi) (length moons)

-- a month for each new moon from that of month 11 on, up to the last one not after the second solstice
unfoldable pub month_count : List ℤ → List ℤ → ℕ
month_count moons zhongqi = by_second moons zhongqi - by_first moons zhongqi

unfoldable pub twelve_or_thirteen : ℕ → Bool
twelve_or_thirteen n = eqb n 12 || eqb n 13

-- the new-moon days from the last one not after the first solstice to the last one not after the second
unfoldable pub days_found : List ℤ → List ℤ → SuiDays
days_found moons zhongqi =
    record {
      months = month_count moons zhongqi;
      moons = take (month_count moons zhongqi + 1) (drop (by_first moons zhongqi - 1) moons) ++ replicate (14 - (month_count moons zhongqi + 1)) (pos 0);
      zhongqi = zhongqi;
    }

-- 8 for a new moon that is missing, 9 for neither 12 nor 13 months
unfoldable pub days_of : List ℤ → List ℤ → Verdict SuiDays
days_of moons zhongqi =
    refuse_when (moon_missing moons zhongqi) 8
    before refuse_when (not (twelve_or_thirteen (month_count moons zhongqi))) 9
    before answered (days_found moons zhongqi)

-- ---- from the days of a sui to its months
-- the first day of the month at a place; behind the last month stands the next sui's first
abbrev pub month_first : SuiDays → ℕ → ℤ
month_first days place = get_or days.moons place (pos 0)

-- what the days of a sui keep: 12 or 13 months, none before the one before it; thirteen zhongqi, the last of which, the second solstice, is not before the day
-- where the sui ends
pub record IsSuiDays (days : SuiDays) : Type 0 where
  pub count : twelve_or_thirteen days.months ≡ true
  pub in_order : (place : ℕ) → place < days.months → month_first days place ≤ℤ month_first days (place + 1)
  pub thirteen : length days.zhongqi ≡ 13
  pub end_by_second : month_first days days.months ≤ℤ second_solstice days.zhongqi

unfoldable pub month_length : SuiDays → ℕ → ℤ
month_length days place = month_first days (place + 1) -ℤ month_first days place

-- a day from `first` to the day before `next`
unfoldable pub is_within : ℤ → ℤ → ℤ → Bool
is_within first next day = le_z first day && lt_z day next

-- how many of the zhongqi belong to the month: those whose day it has
unfoldable pub zhongqi_in : ℤ → ℤ → List ℤ → ℕ
zhongqi_in first next zhongqi = count_of (is_within first next) zhongqi

unfoldable pub zhongqi_of : SuiDays → ℕ → ℕ
zhongqi_of days place = zhongqi_in (month_first days place) (month_first days (place + 1)) days.zhongqi

unfoldable pub without : SuiDays → ℕ → Bool
without days place = eqb (zhongqi_of days place) 0

-- the place of the first month without a zhongqi. One of thirteen months has none: `thirteen_months_one_without`. Of twelve each may have one; the number of
-- months then
unfoldable pub first_without : SuiDays → ℕ
first_without days = first_below (without days) days.months

-- only a sui of 13 months has a leap month; elsewhere none stands before the number of months
unfoldable pub leap_month : SuiDays → ℕ
leap_month days = cond (eqb days.months 13) (first_without days) days.months

unfoldable pub month_at : ℤ → SuiDays → ℕ → Month
month_at year days place = month_of year (leap_month days) place (month_first days place) (month_first days (place + 1))

unfoldable pub numbered : ℤ → SuiDays → Sui
numbered year days = record { count = days.months; months = tabulate (month_at year days) days.months ++ replicate (13 - days.months) no_month }

-- 10 for a month of the sui that is not 29 or 30 days
unfoldable pub good_length : ℤ → Bool
good_length n = le_z (pos 29) n && le_z n (pos 30)

unfoldable pub bad_month : SuiDays → ℕ → Bool
bad_month days place = not (good_length (month_length days place))

unfoldable pub first_bad_month : SuiDays → ℕ
first_bad_month days = first_below (bad_month days) days.months

unfoldable pub lengths_judged : SuiDays → Verdict (Unit {0})
lengths_judged days = refuse_when (ltb (first_bad_month days) days.months) 10

-- "thirteen months, all with a zhongqi", document 01's 11, is withdrawn: there are none such
unfoldable pub sui_of : ℤ → SuiDays → Verdict Sui
sui_of year days = lengths_judged days before answered (numbered year days)

-- ---- the month rule
unfoldable pub sui_in : ℤ → List ℤ → List ℤ → Verdict Sui
sui_in year moons zhongqi = days_of moons zhongqi then sui_of year
