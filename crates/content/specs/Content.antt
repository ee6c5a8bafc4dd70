-- What an almanac file holds (document 01, "Almanac file"): leap entries, suis and months, as the words of three lists; and which contents are lawful, rule by
-- rule. Assumes nothing: these are definitions.
use Rattle.std.specs.Prelude.{Bool, true, ◌&&◌, ◌||◌, List, ℕ, zero, suc, ◌+◌, ◌-◌, ◌*◌, ◌/◌, ◌%◌, eqb, leb, ℤ, pos, nat_abs, ◌+ℤ◌, ◌-ℤ◌, length, get_or}
use Rattle.whole.specs.Floor.{floor_mod}
use Rattle.whole.specs.Tests.{in_range, is_exactly}
use Rattle.whole.specs.Below.{every}
use Rattle.dates.specs.Answers.{has_date}
use Rattle.clock.specs.Leap.{leap_lawful}
use Rattle.months.specs.declared.Month.{Month}
use Rattle.months.specs.Handles.{handle_at}

-- leap entries: day and offset; suis: year and number of months; months: handle, first day and length
pub record Content : Type 0 where
  pub leap : List ℤ
  pub suis : List ℤ
  pub months : List ℤ

abbrev pub content : List ℤ → List ℤ → List ℤ → Content
content leap suis months = record { leap = leap; suis = suis; months = months }

abbrev pub leap_words : Content → List ℤ
leap_words c = c.leap

abbrev pub sui_words : Content → List ℤ
sui_words c = c.suis

abbrev pub month_words : Content → List ℤ
month_words c = c.months

-- ---- the records
abbrev pub entry_count : Content → ℕ
entry_count c = length c.leap / 2

abbrev pub sui_count : Content → ℕ
sui_count c = length c.suis / 2

abbrev pub month_count : Content → ℕ
month_count c = length c.months / 3

-- of the words of suis: the year of sui i, and how many months it has
abbrev pub year_at : List ℤ → ℕ → ℤ
year_at suis i = get_or suis (2 * i) (pos 0)

abbrev pub count_at : List ℤ → ℕ → ℤ
count_at suis i = get_or suis (2 * i + 1) (pos 0)

-- of the words of months: month k of the file
abbrev pub month_at : List ℤ → ℕ → Month
month_at months k = record { handle = get_or months (3 * k) (pos 0); first = get_or months (3 * k + 1) (pos 0); length = get_or months (3 * k + 2) (pos 0) }

-- how many months the suis before sui i have: the first month of sui i is that one
unfoldable pub months_before : List ℤ → ℕ → ℕ
months_before suis zero = 0
months_before suis (suc i) = months_before suis i + nat_abs (count_at suis i)

-- ---- suis: years 1700 to 2500, rising by one; 12 or 13 months
unfoldable pub follows_year : List ℤ → ℕ → Bool
follows_year suis zero = true
follows_year suis (suc i) = is_exactly (year_at suis i +ℤ pos 1) (year_at suis (suc i))

unfoldable pub good_sui : List ℤ → ℕ → Bool
good_sui suis i = in_range (pos 1700) (pos 2500) (year_at suis i) && (follows_year suis i && in_range (pos 12) (pos 13) (count_at suis i))

-- ---- handles: months number 11, 12, 1, .. 10; a leap month takes the number before it. A sui's months stand from month `from` on
-- how many leap months stand before a place: the handle of one is odd
unfoldable pub leaps_before : List ℤ → ℕ → ℕ → ℕ
leaps_before months from zero = 0
leaps_before months from (suc place) = leaps_before months from place + floor_mod (month_at months (from + place)).handle 2

-- an ordinary month has the number after the last ordinary one's; a leap month, in a sui of 13 that has had none and never first, the number before it.
-- (`handle_at year leap place` is the handle at a place of a sui whose leap month is at place `leap`; at 13 it has none.)
unfoldable pub good_handle : ℤ → ℤ → ℕ → ℕ → ℤ → Bool
good_handle year count leaps place h =
    is_exactly (handle_at year 13 (place - leaps)) h
    || (is_exactly (pos 13) count && (eqb leaps 0 && (leb 1 place && is_exactly (handle_at year place place) h)))

-- ---- days: lengths 29 or 30, each month begins on the day after the one before it ends, and every day has a date
unfoldable pub good_start : List ℤ → ℕ → Bool
good_start months zero = has_date (month_at months zero).first
good_start months (suc k) = is_exactly ((month_at months k).first +ℤ (month_at months k).length) (month_at months (suc k)).first

unfoldable pub good_days : List ℤ → ℕ → Bool
good_days months k = good_start months k && (in_range (pos 29) (pos 30) (month_at months k).length && has_date ((month_at months k).first +ℤ (month_at months k).length -ℤ pos 1))

-- ---- the months of a sui
unfoldable pub good_month : List ℤ → ℤ → ℤ → ℕ → ℕ → Bool
good_month months year count from place = good_handle year count (leaps_before months from place) place (month_at months (from + place)).handle && good_days months (from + place)

-- each of them good; and 12 months and no leap, or 13 and one leap
unfoldable pub good_months : List ℤ → ℤ → ℤ → ℕ → Bool
good_months months year count from = every (good_month months year count from) (nat_abs count) && is_exactly (pos (12 + leaps_before months from (nat_abs count))) count

unfoldable pub good_sui_months : List ℤ → List ℤ → ℕ → Bool
good_sui_months suis months i = good_months months (year_at suis i) (count_at suis i) (months_before suis i)

-- ---- all of it
-- 1 to 128 suis in whole records, by the number of words
unfoldable pub whole_suis : ℕ → Bool
whole_suis words = eqb (words % 2) 0 && (leb 2 words && leb words 256)

unfoldable pub lawful : Content → Bool
lawful c =
    leap_lawful c.leap
    && (whole_suis (length c.suis)
    && (every (good_sui c.suis) (sui_count c)
    && (eqb (length c.months) (3 * months_before c.suis (sui_count c))
    && every (good_sui_months c.suis c.months) (sui_count c))))
