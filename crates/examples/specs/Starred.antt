-- Document 01's starred examples ("Examples on both sides"), all of them, in its order and each under its words: one list, evaluated inside the proof and
-- checked once. Assumes nothing.
use Rattle.std.specs.Prelude.{◌≡◌, Bool, ◌⊎◌, List, [], ◌∷◌, ◌++◌, T, ℤ, pos, negsuc, nat_abs, ◌-ℤ◌}
use Rattle.std.proofs.Common.{ap, subst, inl, inr, arith}
use mathlib.Core.List.Memᴰ
use Rattle.whole.specs.Below.{every, any, last_below}
use Rattle.whole.specs.Counted.{count_of}
use Rattle.whole.specs.Evaluated.{same, all}
use Rattle.whole.specs.Floor.{floor_div, floor_mod}
use Rattle.whole.specs.Found.{first_from, first_below}
use Rattle.refusals.specs.Search.{first_bad}
use Rattle.refusals.specs.Evaluated.{is_accepted, is_refused, is_refused_at}
use Rattle.dates.specs.Calendar.{leap_year, leap_years_to, new_year, month_lengths, month_length, days_before, valid_date, number_of, year_or_next, year_of, months_over, date_in_year, date_for}
use Rattle.dates.specs.Answers.{has_date, date_of, day_of}
use Rattle.dates.specs.Examples as dates
use Rattle.clock.specs.Leap.{first_entry, next_entry, good_entry, whole_pairs, leap_lawful, holds_from, holds, entry_used, inserted_by, inserted}
use Rattle.clock.specs.Clock.{is_zone, utc8, convertible, tai, early, local_milli, reading, read_off, count_in, day_of_milli, day_in, second_said, shown_by, shown_in}
use Rattle.clock.specs.Answers.{zone_judged, leap_judged, clock_judged, day_of_second, shown_of}
use Rattle.clock.specs.Examples as clock
use Rattle.chebyshev.specs.Polynomials.{P}
use Rattle.chebyshev.specs.Segment.{sum, value, slope}
use Rattle.series.specs.declared.Body.TheVariants.{Sun}
use Rattle.series.specs.Series.{Series, series, value_at}
use Rattle.series.specs.Acceptance.{series_judged, value_of}
use Rattle.series.specs.Examples.{three, sun, joined, alone, is_value}
use Rattle.marks.specs.Marks.{Mark}
use Rattle.marks.specs.Crossings.{marked, ◌∈◌}
use Rattle.marks.specs.Listed.{ListedAt}
use Rattle.months.specs.Handles.{number_at, leap_mark, handle, handle_at, month_of}
use Rattle.months.specs.Months as rule
use Rattle.months.specs.Limits.{year_in_range, rising, day_in_range, in_range, days_kept, lists_kept, months_of}
use Rattle.months.specs.Examples as months
use Rattle.examples.specs.Listed.{sun_lists}

-- "That Sun series", with c2 = 1,000
abbrev bent : Series
bent = series Sun (pos 0) (three (pos 552960000) (pos 552960000) (pos 1000))

-- by how much the value rises from the first segment's last second to the second one's first
abbrev join_of : Series → ℤ
join_of s = value_at s (pos 2764800) -ℤ value_at s (pos 2764799)

unfoldable pub starred : List Bool
unfolding
    floor_div floor_mod every any last_below count_of first_from first_below first_bad
    leap_year leap_years_to new_year month_lengths month_length days_before valid_date number_of year_or_next year_of months_over date_in_year date_for has_date date_of day_of
    first_entry next_entry good_entry whole_pairs leap_lawful holds_from holds entry_used inserted_by inserted
    is_zone convertible tai early local_milli reading read_off count_in day_of_milli day_in second_said shown_by shown_in zone_judged leap_judged clock_judged day_of_second shown_of
    P sum value slope value_at series_judged value_of
    number_at leap_mark handle handle_at month_of
    rule.not_after rule.last_not_after rule.by_first rule.by_second rule.is_missing rule.moon_missing rule.month_count rule.twelve_or_thirteen rule.days_found rule.days_of
    rule.month_length rule.is_within rule.zhongqi_in rule.zhongqi_of rule.without rule.first_without rule.leap_month rule.month_at rule.numbered
    rule.good_length rule.bad_month rule.first_bad_month rule.lengths_judged rule.sui_of rule.sui_in
    year_in_range rising day_in_range in_range days_kept lists_kept months_of
starred =
    -- "That Sun series at 0 has value 0 (mark 0 not listed), at 1,350,000 value 540,000,000." (`mark_0_not_listed` below)
    is_value (pos 0) (value_of sun (pos 0))
    ∷ is_value (pos 540000000) (value_of sun (pos 1350000))
    -- "With c2 = 1,000: value 1,000 at second 0, 552,959,000 at the middle."
    ∷ is_value (pos 1000) (value_of bent (pos 0))
    ∷ is_value (pos 552959000) (value_of bent (pos 1382400))
    -- "Sun c1 alone 138,240,000 accepted; 138,239,999 gives 4."
    ∷ is_accepted (series_judged (alone Sun (pos 0) (pos 138240000)))
    ∷ is_refused_at (series_judged (alone Sun (pos 0) (pos 138239999))) 4 0
    -- "c1 = 4,000,000,001 gives 3."
    ∷ is_refused_at (series_judged (alone Sun (pos 0) (pos 4000000001))) 3 0
    -- "A second segment with c0 = 1,658,880,000 joins by 400; 200 less is accepted, 201 less gives 5."
    ∷ same (join_of (joined 1658880000)) (pos 400)
    ∷ is_accepted (series_judged (joined 1658880000))
    ∷ is_accepted (series_judged (joined 1658879800))
    ∷ is_refused_at (series_judged (joined 1658879799)) 5 1
    -- "Second -836,107 with offset 32 is day -10, 15:43:48.816 (solstice in 002, 1999-12-22)."
    ∷ clock.is_day (day_of_second clock.table (clock.second (negsuc 836106)) utc8) (negsuc 9)
    ∷ clock.is_shown (shown_of clock.table (clock.second (negsuc 836106)) utc8) 1999 12 22 15 43 48 816
    -- "Day -10,227 is 1972-01-01; 59 is 2000-02-29; 8,846 is 2024-03-21. 1900-02-29 gives 6.": both ways
    ∷ dates.is_date (date_of (dates.day (negsuc 10226))) (pos 1972) (pos 1) (pos 1)
    ∷ dates.is_day (day_of (dates.date 1972 1 1)) (negsuc 10226)
    ∷ dates.is_date (date_of (dates.day (pos 59))) (pos 2000) (pos 2) (pos 29)
    ∷ dates.is_day (day_of (dates.date 2000 2 29)) (pos 59)
    ∷ dates.is_date (date_of (dates.day (pos 8846))) (pos 2024) (pos 3) (pos 21)
    ∷ dates.is_day (day_of (dates.date 2024 3 21)) (pos 8846)
    ∷ is_refused (day_of (dates.date 1900 2 29)) 6
    -- "New moons 0, 30, .. 413; zhongqi 20, 50, .. 385: the month at 325 is leap 9.": all thirteen months
    ∷ months.is_sui (months.rule months.moons months.zhongqi) months.leap_nine
    -- "The same with 325 for 324: the month at 295 is leap 8."
    ∷ months.is_sui (months.rule months.moons (months.with 325 324 months.zhongqi)) (months.tenths ++ (months.m 17 295 30 ∷ months.m 18 325 29 ∷ months.m 20 354 30 ∷ []))
    -- "The same new moons; zhongqi 2, 30, .. 363: 12 months, no leap, though 89 to 117 has none."
    ∷ months.is_sui (months.rule months.moons months.of_twelve) months.twelve
    ∷ []

pub starred_hold : T (all starred)
unfolding starred
starred_hold = tt

-- "(mark 0 not listed)": at no second
pub mark_0_not_listed : (second : ℤ) → ListedAt sun (pos 0) second → ⊥
mark_0_not_listed second listed = neither (Memᴰ.cases_cons (subst (λ marks. marked (pos 0) second ∈ marks) sun_lists listed))
  where
    other : (j t : ℤ) → marked (pos 0) second ≡ marked j t → 0 ≡ nat_abs j
    other j t e = ap (λ (m : Mark). nat_abs m.index) e

    last : (marked (pos 0) second ≡ marked (pos 2) (pos 2700000)) ⊎ (marked (pos 0) second ∈ []) → ⊥
    last (inl e) = let is-two = other (pos 2) (pos 2700000) e in omega arith
    last (inr none) = Memᴰ.not-nil none

    neither : (marked (pos 0) second ≡ marked (pos 1) (pos 1350000)) ⊎ (marked (pos 0) second ∈ marked (pos 2) (pos 2700000) ∷ []) → ⊥
    neither (inl e) = let is_one = other (pos 1) (pos 1350000) e in omega arith
    neither (inr rest) = last (Memᴰ.cases_cons rest)
