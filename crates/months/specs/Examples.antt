-- The edges of the month rule and both sides of every bound, each a computed fact, and all of them checked at once, on the lists of document 01's starred
-- examples, which stand themselves in the crate `examples`. Assumes nothing.
use Rattle.std.specs.Prelude.{Bool, true, false, cond, not, ◌&&◌, List, [], ◌∷◌, ◌++◌, ℕ, zero, suc, ◌+◌, ◌-◌, T, eqb, ℤ, pos, negsuc, ◌+ℤ◌, ◌-ℤ◌, ◌*ℤ◌, length, take, drop, replicate}
use Rattle.std.specs.Int.Signed.{lt_z}
use Rattle.whole.specs.Counted.{count_of}
use Rattle.whole.specs.Evaluated.{same, all}
use Rattle.whole.specs.Found.{first_from, first_below}
use Rattle.refusals.specs.Verdict.{Verdict, answered, refused}
use Rattle.refusals.specs.Evaluated.{is_accepted, is_refused}
use Rattle.months.specs.declared.Month.{Month}
use Rattle.months.specs.declared.SuiDays.{SuiDays}
use Rattle.months.specs.declared.Sui.{Sui}
use Rattle.months.specs.Answers.{no_sui}
use Rattle.months.specs.Handles.{number_at, leap_mark, handle, handle_at, month_of}
use Rattle.months.specs.Months.{not_after, last_not_after, by_first, by_second, is_missing, moon_missing, month_count, twelve_or_thirteen, days_found, days_of, month_first, second_solstice, month_length, is_within, zhongqi_in, zhongqi_of, without, first_without, leap_month, month_at, numbered, good_length, bad_month, first_bad_month, lengths_judged, sui_of, sui_in}
use Rattle.months.specs.Limits.{year_in_range, rising, day_in_range, in_range, days_kept, lists_kept, months_of}

-- ---- how the examples are written
abbrev days : List ℕ → List ℤ
days [] = []
days (n ∷ ns) = pos n ∷ days ns

-- so many days earlier
abbrev earlier : ℕ → List ℤ → List ℤ
earlier n [] = []
earlier n (d ∷ ds) = (d -ℤ pos n) ∷ earlier n ds

-- b where a stood
abbrev pub with : ℕ → ℕ → List ℕ → List ℕ
with b a [] = []
with b a (n ∷ ns) = cond (eqb n a) b n ∷ with b a ns

-- a day, and from there on month by month
abbrev on_from : ℕ → List ℕ → List ℕ
on_from d [] = d ∷ []
on_from d (n ∷ ns) = d ∷ on_from (d + n) ns

-- n days, from d on, so far apart
abbrev every : ℕ → ℕ → ℕ → List ℕ
every step d zero = []
every step d (suc n) = d ∷ every step (d + step) n

-- a month of the year 2000 by its number and mark, written 2 x number + mark, its first day and its length
abbrev pub m : ℕ → ℕ → ℕ → Month
m name first n = record { handle = pos (64000 + name); first = pos first; length = pos n }

abbrev same_months : List Month → List Month → Bool
same_months [] [] = true
same_months [] (b ∷ bs) = false
same_months (a ∷ as') [] = false
same_months (a ∷ as') (b ∷ bs) = same a.handle b.handle && (same a.first b.first && (same a.length b.length && same_months as' bs))

-- what stands where there is no month
abbrev zeros : Month
zeros = record { handle = pos 0; first = pos 0; length = pos 0 }

-- these months, and nothing behind them
abbrev pub is_sui : Verdict Sui → List Month → Bool
is_sui (answered sui) months = eqb sui.count (length months) && same_months sui.months (months ++ replicate (13 - length months) zeros)
is_sui (refused number segment) months = false

-- ---- document 01's lists
abbrev pub moons : List ℕ
moons = 0 ∷ 30 ∷ 59 ∷ 89 ∷ 118 ∷ 148 ∷ 177 ∷ 207 ∷ 236 ∷ 266 ∷ 295 ∷ 325 ∷ 354 ∷ 384 ∷ 413 ∷ []

abbrev pub zhongqi : List ℕ
zhongqi = 20 ∷ 50 ∷ 81 ∷ 111 ∷ 142 ∷ 172 ∷ 203 ∷ 233 ∷ 264 ∷ 294 ∷ 324 ∷ 355 ∷ 385 ∷ []

abbrev pub of_twelve : List ℕ
of_twelve = 2 ∷ 30 ∷ 58 ∷ 88 ∷ 119 ∷ 149 ∷ 180 ∷ 211 ∷ 242 ∷ 273 ∷ 303 ∷ 333 ∷ 363 ∷ []

-- their months up to place 9, and up to place 11
abbrev pub tenths : List Month
tenths = m 22 0 30 ∷ m 24 30 29 ∷ m 2 59 30 ∷ m 4 89 29 ∷ m 6 118 30 ∷ m 8 148 29 ∷ m 10 177 30 ∷ m 12 207 29 ∷ m 14 236 30 ∷ m 16 266 29 ∷ []

abbrev pub leap_nine : List Month
leap_nine = tenths ++ (m 18 295 30 ∷ m 19 325 29 ∷ m 20 354 30 ∷ [])

abbrev pub twelve : List Month
twelve = tenths ++ (m 18 295 30 ∷ m 20 325 29 ∷ [])

abbrev leap_ten : List Month
leap_ten = twelve ++ (m 21 354 30 ∷ [])

-- the same months of another year: 32 to a year in their handles
abbrev in_year : ℕ → List Month → List Month
in_year year [] = []
in_year year (a ∷ as') = record { handle = a.handle +ℤ pos 32 *ℤ (pos year -ℤ pos 2000); first = a.first; length = a.length } ∷ in_year year as'

abbrev lengths : List ℕ
lengths = 30 ∷ 29 ∷ 30 ∷ 29 ∷ 30 ∷ 29 ∷ 30 ∷ 29 ∷ 30 ∷ 29 ∷ 30 ∷ 29 ∷ 30 ∷ 29 ∷ []

-- new moons every 30 days: 12 months
abbrev thirties : ℕ → List ℤ
thirties n = days (every 30 0 n)

abbrev apart : List ℕ
apart = 2 ∷ 32 ∷ 63 ∷ 93 ∷ 124 ∷ 154 ∷ 185 ∷ 215 ∷ 246 ∷ 276 ∷ 307 ∷ 337 ∷ 368 ∷ []

-- 13 months, each with a zhongqi
abbrev all_with : SuiDays
all_with = record { months = 13; moons = days (take 14 moons); zhongqi = days (take 13 moons) }

abbrev pub rule : List ℕ → List ℕ → Verdict Sui
rule moons zhongqi = months_of (pos 2000) (days moons) (days zhongqi)

unfoldable pub examples : List Bool
unfolding count_of first_from first_below number_at leap_mark handle handle_at month_of not_after last_not_after by_first by_second is_missing moon_missing month_count twelve_or_thirteen days_found days_of month_length is_within zhongqi_in zhongqi_of without first_without leap_month month_at numbered good_length bad_month first_bad_month lengths_judged sui_of sui_in year_in_range rising day_in_range in_range days_kept lists_kept months_of
examples =
    -- 12 months, no leap, though 30 to 58 has no zhongqi
    is_sui (rule moons (0 ∷ 29 ∷ every 30 60 11)) twelve
    -- new moons on the two solstice days
    ∷ is_sui (rule moons (with 0 20 (with 384 385 zhongqi))) leap_nine
    -- a zhongqi on the last day of the month at 325, and on the first day of the next
    ∷ is_sui (rule moons (with 353 355 zhongqi)) leap_ten
    ∷ is_sui (rule moons (with 354 355 zhongqi)) leap_nine
    -- month 11 alone has two zhongqi: of two months without one the first is leap
    ∷ is_sui (rule moons (0 ∷ 29 ∷ 59 ∷ every 30 90 9 ++ (385 ∷ [])))
    (m 22 0 30 ∷ m 23 30 29 ∷ m 24 59 30 ∷ m 2 89 29 ∷ m 4 118 30 ∷ m 6 148 29 ∷ m 8 177 30 ∷ m 10 207 29 ∷ m 12 236 30 ∷ m 14 266 29 ∷ m 16 295 30 ∷ m 18 325 29 ∷ m 20 354 30 ∷ [])
    -- thirteen months cannot have a zhongqi each: a second solstice on the last day of the thirteenth leaves that month to the next sui, a day later it lies
    -- behind it; days that have are no sui's, for the second solstice lies before their end
    ∷ is_sui (rule moons (take 12 moons ++ (383 ∷ []))) twelve
    ∷ is_sui (rule moons (take 12 moons ++ (384 ∷ []))) leap_ten
    ∷ eqb (first_without all_with) 13
    ∷ lt_z (second_solstice all_with.zhongqi) (month_first all_with 13)
    -- both solstices in one month
    ∷ is_refused (rule moons (every 1 1 13)) 9
    -- 11, 12, 13 and 14 months
    ∷ is_refused (rule moons (every 26 20 13)) 9
    ∷ is_sui (rule moons (every 30 20 13)) twelve
    ∷ is_sui (rule (moons ++ (443 ∷ [])) zhongqi) leap_nine
    ∷ is_refused (rule (moons ++ (443 ∷ [])) (every 33 20 13)) 9
    -- months of 28, 29, 30 and 31 days, and of 28 and 31 days outside the sui
    ∷ is_refused (rule (on_from 0 (30 ∷ 28 ∷ drop 2 lengths)) (every 29 20 13)) 10
    ∷ is_sui (rule (on_from 0 (30 ∷ 29 ∷ drop 2 lengths)) (every 29 20 13)) twelve
    ∷ is_accepted (rule (on_from 0 (30 ∷ 30 ∷ drop 2 lengths)) (every 29 20 13))
    ∷ is_refused (rule (on_from 0 (30 ∷ 31 ∷ drop 2 lengths)) (every 29 20 13)) 10
    ∷ is_sui (rule (on_from 0 (take 12 lengths ++ (28 ∷ 29 ∷ []))) (every 29 20 13)) twelve
    ∷ is_sui (rule (on_from 0 (take 12 lengths ++ (31 ∷ 29 ∷ []))) (every 29 20 13)) twelve
    -- a new moon is missing: none behind the second solstice, none before the first, none at all
    ∷ is_refused (rule (take 14 moons) zhongqi) 8
    ∷ is_refused (rule (take 14 moons) (with 384 385 zhongqi)) 8
    ∷ is_refused (rule (drop 1 moons) zhongqi) 8
    ∷ is_refused (rule [] zhongqi) 8
    -- years: each serves the handles only
    ∷ is_sui (months_of (pos 1700) (days moons) (days (with 21 20 zhongqi))) (in_year 1700 leap_nine)
    ∷ is_sui (months_of (pos 2500) (days moons) (days (with 21 20 zhongqi))) (in_year 2500 leap_nine)
    ∷ is_refused (months_of (pos 1699) (days moons) (days zhongqi)) 8
    ∷ is_refused (months_of (pos 2501) (days moons) (days zhongqi)) 8
    -- 3,000 and 3,001 new moons
    ∷ is_accepted (months_of (pos 2000) (thirties 3000) (days apart))
    ∷ is_refused (months_of (pos 2000) (thirties 3001) (days apart)) 8
    -- days at 200,000 and one further
    ∷ is_accepted (months_of (pos 2000) (negsuc 199999 ∷ days (moons ++ (200000 ∷ []))) (days zhongqi))
    ∷ is_refused (months_of (pos 2000) (negsuc 200000 ∷ days moons) (days zhongqi)) 8
    ∷ is_refused (rule (moons ++ (200001 ∷ [])) zhongqi) 8
    ∷ is_accepted (months_of (pos 2000) (earlier 200000 (days moons)) (earlier 200000 (days (with 0 20 zhongqi))))
    ∷ is_refused (months_of (pos 2000) (earlier 200001 (days moons)) (earlier 200001 (days (with 0 20 zhongqi)))) 8
    ∷ in_range (days (200000 ∷ []))
    ∷ not (in_range (days (200001 ∷ [])))
    -- 12 and 14 zhongqi
    ∷ is_refused (rule moons (take 12 zhongqi)) 8
    ∷ is_refused (rule moons (zhongqi ++ (414 ∷ []))) 8
    -- a day twice, and days that fall
    ∷ is_refused (rule (30 ∷ moons) zhongqi) 8
    ∷ is_refused (rule (with 30 59 moons) zhongqi) 8
    ∷ is_refused (rule moons (with 50 81 zhongqi)) 8
    ∷ is_refused (rule moons (with 51 50 (with 50 81 zhongqi))) 8
    -- 8 before 9 (no month, and none behind the second solstice; 11 months in the year 1699), 9 before 10
    ∷ is_refused (rule (0 ∷ []) (every 1 1 13)) 8
    ∷ is_refused (months_of (pos 1699) (days moons) (days (every 26 20 13))) 8
    ∷ is_refused (rule (on_from 0 (30 ∷ 28 ∷ drop 2 lengths)) (every 26 20 13)) 9
    -- no new moon, and no month; what stands where there is no sui
    ∷ is_refused (rule [] zhongqi) 8
    ∷ is_refused (rule moons (every 1 1 13)) 9
    ∷ is_sui (answered no_sui) []
    ∷ []

pub examples_hold : T (all examples)
unfolding examples
examples_hold = tt
