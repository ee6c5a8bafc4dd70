-- What document 01's numbers and orders on the clock are, each a computed fact on both sides, and all of them checked at once; its starred example stands in
-- the crate `examples`. Assumes nothing.
use Rattle.std.specs.Prelude.{ℕ, zero, suc, ◌^◌, ◌-◌, Bool, true, false, not, ◌&&◌, List, [], ◌∷◌, ◌++◌, T, eqb, ℤ, pos, negsuc}
use Rattle.refusals.specs.Verdict.{Verdict, answered, refused}
use Rattle.refusals.specs.Evaluated.{is_accepted, is_refused}
use Rattle.whole.specs.Evaluated.{same, all}
use Rattle.whole.specs.Floor.{floor_div, floor_mod}
use Rattle.whole.specs.Below.{every, any, last_below}
use Rattle.whole.specs.Order.{first_by}
use Rattle.times.specs.declared.Day.{Day}
use Rattle.times.specs.declared.Second.{Second}
use Rattle.times.specs.declared.Milli.{Milli}
use Rattle.dates.specs.Calendar.{leap_year, leap_years_to, new_year, month_lengths, year_or_next, year_of, months_over, date_in_year, date_for}
use Rattle.dates.proofs.Order.{date_first}
use Rattle.clock.specs.declared.Reading.{Reading}
use Rattle.clock.specs.declared.ShownTime.{ShownTime}
use Rattle.clock.specs.Leap.{first_entry, next_entry, good_entry, whole_pairs, leap_lawful, holds_from, holds, entry_used, inserted_by, inserted}
use Rattle.clock.specs.Clock.{is_zone, utc8, convertible, tai, early, local_milli, reading, milli_in, read_off, count_in, day_of_milli, day_in, second_said, shown_by, shown_in}
use Rattle.clock.specs.Order.{shown_first}
use Rattle.clock.specs.Answers.{zone_judged, leap_judged, clock_judged, milli_of, day_of_second, shown_of}

abbrev pub second : ℤ → Second
second s = record { 0 = s }

abbrev milli : ℤ → Milli
milli m = record { 0 = m }

-- a reading of no inserted second, and of one
abbrev plain : ℤ → Reading
plain m = record { milli = milli m; inserted = false }

abbrev extra : ℤ → Reading
extra m = record { milli = milli m; inserted = true }

abbrev is_milli : Verdict Milli → ℤ → Bool
is_milli (answered m) z = same m.0 z
is_milli (refused number segment) z = false

abbrev pub is_day : Verdict Day → ℤ → Bool
is_day (answered d) z = same d.0 z
is_day (refused number segment) z = false

abbrev pub is_shown : Verdict ShownTime → ℕ → ℕ → ℕ → ℕ → ℕ → ℕ → ℕ → Bool
is_shown (answered t) y m d hour minute s milli =
    same t.date.year (pos y)
    && (same t.date.month (pos m)
    && (same t.date.day (pos d)
    && (eqb t.hour hour && (eqb t.minute minute && (eqb t.second s && eqb t.millisecond milli)))))
is_shown (refused number segment) y m d hour minute s milli = false

-- n entries, one a day from day d on
abbrev daily : ℕ → ℕ → List ℤ
daily zero d = []
daily (suc n) d = pos d ∷ pos d ∷ daily n (suc d)

abbrev pub table : List ℤ
table = negsuc 364 ∷ pos 32 ∷ []

-- and a second inserted before 2006-01-01
abbrev longer : List ℤ
longer = negsuc 364 ∷ pos 32 ∷ pos 2192 ∷ pos 33 ∷ []

-- the table of 2017, when the last second so far was inserted
abbrev real : List ℤ
real = longer ++ pos 3288 ∷ pos 34 ∷ pos 4565 ∷ pos 35 ∷ pos 5660 ∷ pos 36 ∷ pos 6210 ∷ pos 37 ∷ []

-- of two seconds the first is shown first, by `real`, and the second is not
abbrev rises : ℕ → ℕ → Bool
rises s s' =
    let t = shown_in real (second (pos s)) utc8 in
    let t' = shown_in real (second (pos s')) utc8 in
    shown_first t t' && not (shown_first t' t)

-- the earliest table there is
abbrev earliest : List ℤ
earliest = negsuc 119999 ∷ pos 0 ∷ []

-- a table that breaks its rule
abbrev unlawful : List ℤ
unlawful = pos 0 ∷ pos 1001 ∷ []

unfoldable pub examples : List Bool
unfolding leap_year leap_years_to new_year month_lengths year_or_next year_of months_over date_in_year date_for floor_div floor_mod first_entry next_entry good_entry every whole_pairs leap_lawful holds_from holds last_below entry_used inserted_by any inserted is_zone convertible tai early local_milli reading milli_in read_off count_in day_of_milli day_in second_said shown_by shown_in first_by date_first shown_first zone_judged leap_judged clock_judged milli_of day_of_second shown_of
examples =
    -- the first second of 2000
    is_milli (milli_of table (second (pos 0)) utc8) (pos 28735816)
    ∷ is_shown (shown_of table (second (pos 0)) utc8) 2000 1 1 7 58 55 816
    -- both sides of midnight in UTC+8, where 2000 begins and where its second day does
    ∷ is_shown (shown_of table (second (negsuc 28735)) utc8) 1999 12 31 23 59 59 816
    ∷ is_shown (shown_of table (second (negsuc 28734)) utc8) 2000 1 1 0 0 0 816
    ∷ is_day (day_of_second table (second (negsuc 28735)) utc8) (negsuc 0)
    ∷ is_day (day_of_second table (second (negsuc 28734)) utc8) (pos 0)
    ∷ is_day (day_of_second table (second (pos 57664)) utc8) (pos 0)
    ∷ is_day (day_of_second table (second (pos 57665)) utc8) (pos 1)
    -- in UTC+7 midnight is an hour later
    ∷ is_shown (shown_of table (second (negsuc 28734)) (pos 420)) 1999 12 31 23 0 0 816
    ∷ is_day (day_of_second table (second (negsuc 28734)) (pos 420)) (negsuc 0)
    ∷ is_day (day_of_second table (second (negsuc 25135)) (pos 420)) (negsuc 0)
    ∷ is_day (day_of_second table (second (negsuc 25134)) (pos 420)) (pos 0)
    ∷ is_shown (shown_of table (second (negsuc 25134)) (pos 420)) 2000 1 1 0 0 0 816
    -- zones -720 to 840, a minute is 60,000 milliseconds; words at the ends of the machine's range
    ∷ is_milli (milli_of table (second (pos 0)) (pos 0)) (negsuc 64183)
    ∷ is_milli (milli_of table (second (pos 0)) (pos 1)) (negsuc 4183)
    ∷ is_milli (milli_of table (second (pos 0)) (pos 840)) (pos 50335816)
    ∷ is_refused (milli_of table (second (pos 0)) (pos 841)) 15
    ∷ is_milli (milli_of table (second (pos 0)) (negsuc 719)) (negsuc 43264183)
    ∷ is_refused (milli_of table (second (pos 0)) (negsuc 720)) 15
    ∷ is_shown (shown_of table (second (pos 0)) (pos 840)) 2000 1 1 13 58 55 816
    ∷ is_shown (shown_of table (second (pos 0)) (negsuc 719)) 1999 12 31 11 58 55 816
    ∷ is_refused (zone_judged (pos (2 ^ 63 - 1))) 15
    ∷ is_refused (zone_judged (negsuc (2 ^ 63 - 1))) 15
    -- the day of a millisecond, rounded down before 2000 too
    ∷ same (day_of_milli (milli (negsuc 86400000))).0 (negsuc 1)
    ∷ same (day_of_milli (milli (negsuc 86399999))).0 (negsuc 0)
    ∷ same (day_of_milli (milli (negsuc 0))).0 (negsuc 0)
    ∷ same (day_of_milli (milli (pos 0))).0 (pos 0)
    ∷ same (day_of_milli (milli (pos 86399999))).0 (pos 0)
    ∷ same (day_of_milli (milli (pos 86400000))).0 (pos 1)
    -- both sides of a second, a minute, an hour and a day
    ∷ is_shown (answered (shown_by (plain (pos 999)))) 2000 1 1 0 0 0 999
    ∷ is_shown (answered (shown_by (plain (pos 1000)))) 2000 1 1 0 0 1 0
    ∷ is_shown (answered (shown_by (plain (pos 59999)))) 2000 1 1 0 0 59 999
    ∷ is_shown (answered (shown_by (plain (pos 60000)))) 2000 1 1 0 1 0 0
    ∷ is_shown (answered (shown_by (plain (pos 3599999)))) 2000 1 1 0 59 59 999
    ∷ is_shown (answered (shown_by (plain (pos 3600000)))) 2000 1 1 1 0 0 0
    ∷ is_shown (answered (shown_by (plain (negsuc 0)))) 1999 12 31 23 59 59 999
    ∷ is_shown (answered (shown_by (plain (pos 0)))) 2000 1 1 0 0 0 0
    -- an inserted second is read off the second before, and said as 60: there the minute, the hour and the day end
    ∷ is_shown (answered (shown_by (extra (pos 60816)))) 2000 1 1 0 0 60 816
    ∷ is_shown (answered (shown_by (extra (pos 3600816)))) 2000 1 1 0 59 60 816
    ∷ is_shown (answered (shown_by (extra (pos 816)))) 1999 12 31 23 59 60 816
    -- the instants before, inside and after the second inserted before 2006: the millisecond count stays as it is, the time shown says 60, the day is one day
    ∷ is_milli (milli_of longer (second (pos 189388864)) utc8) (pos 189417599816)
    ∷ is_milli (milli_of longer (second (pos 189388865)) utc8) (pos 189417600816)
    ∷ is_milli (milli_of longer (second (pos 189388866)) utc8) (pos 189417600816)
    ∷ is_shown (shown_of longer (second (pos 189388864)) utc8) 2006 1 1 7 59 59 816
    ∷ is_shown (shown_of longer (second (pos 189388865)) utc8) 2006 1 1 7 59 60 816
    ∷ is_shown (shown_of longer (second (pos 189388866)) utc8) 2006 1 1 8 0 0 816
    ∷ is_day (day_of_second longer (second (pos 189388864)) utc8) (pos 2192)
    ∷ is_day (day_of_second longer (second (pos 189388865)) utc8) (pos 2192)
    ∷ is_day (day_of_second longer (second (pos 189388866)) utc8) (pos 2192)
    -- in UTC itself it belongs to the day that it ends; a minute east of it the day has begun
    ∷ is_shown (shown_of longer (second (pos 189388864)) (pos 0)) 2005 12 31 23 59 59 816
    ∷ is_shown (shown_of longer (second (pos 189388865)) (pos 0)) 2005 12 31 23 59 60 816
    ∷ is_shown (shown_of longer (second (pos 189388866)) (pos 0)) 2006 1 1 0 0 0 816
    ∷ is_day (day_of_second longer (second (pos 189388865)) (pos 0)) (pos 2191)
    ∷ is_day (day_of_second longer (second (pos 189388866)) (pos 0)) (pos 2192)
    ∷ is_shown (shown_of longer (second (pos 189388865)) (pos 1)) 2006 1 1 0 0 60 816
    ∷ is_day (day_of_second longer (second (pos 189388864)) (pos 1)) (pos 2192)
    ∷ is_day (day_of_second longer (second (pos 189388865)) (pos 1)) (pos 2192)
    ∷ is_shown (shown_of longer (second (pos 189388865)) (negsuc 719)) 2005 12 31 11 59 60 816
    ∷ is_shown (shown_of longer (second (pos 189388865)) (pos 345)) 2006 1 1 5 44 60 816
    -- 2016-12-31 23:59:60 UTC, the second before it and the one after it: in zone 0 it belongs to the day that it ends
    ∷ is_shown (shown_of real (second (pos 536544068)) (pos 0)) 2016 12 31 23 59 59 816
    ∷ is_shown (shown_of real (second (pos 536544069)) (pos 0)) 2016 12 31 23 59 60 816
    ∷ is_shown (shown_of real (second (pos 536544070)) (pos 0)) 2017 1 1 0 0 0 816
    ∷ is_day (day_of_second real (second (pos 536544068)) (pos 0)) (pos 6209)
    ∷ is_day (day_of_second real (second (pos 536544069)) (pos 0)) (pos 6209)
    ∷ is_day (day_of_second real (second (pos 536544070)) (pos 0)) (pos 6210)
    -- and in UTC+8, where each is shown before the next
    ∷ is_shown (shown_of real (second (pos 536544068)) utc8) 2017 1 1 7 59 59 816
    ∷ is_shown (shown_of real (second (pos 536544069)) utc8) 2017 1 1 7 59 60 816
    ∷ is_shown (shown_of real (second (pos 536544070)) utc8) 2017 1 1 8 0 0 816
    ∷ rises 536544068 536544069
    ∷ rises 536544069 536544070
    ∷ rises 536544068 536544070
    -- each part of a time goes before those behind it: year, month, day, hour, minute, second, millisecond; and no time comes before itself
    ∷ rises 536515268 536515269
    ∷ rises 539193669 539193670
    ∷ rises 536601669 536601670
    ∷ rises 536547669 536547670
    ∷ rises 536544129 536544130
    ∷ shown_first (shown_by (plain (pos 1999))) (shown_by (plain (pos 2000)))
    ∷ shown_first (shown_by (plain (pos 1998))) (shown_by (plain (pos 1999)))
    ∷ not (shown_first (shown_by (plain (pos 1999))) (shown_by (plain (pos 1999))))
    -- inside an inserted second: from a thousand milliseconds before the entry holds, up to the last
    ∷ not (inserted longer (pos 189388831999))
    ∷ inserted longer (pos 189388832000)
    ∷ inserted longer (pos 189388832999)
    ∷ not (inserted longer (pos 189388833000))
    -- the first entry inserts nothing: this one holds from TAI second 32
    ∷ not (inserted (pos 0 ∷ pos 32 ∷ []) (pos 31000))
    ∷ not (inserted (pos 0 ∷ pos 32 ∷ []) (pos 31999))
    ∷ inserted (negsuc 0 ∷ pos 31 ∷ pos 0 ∷ pos 32 ∷ []) (pos 31000)
    ∷ inserted (negsuc 0 ∷ pos 31 ∷ pos 0 ∷ pos 32 ∷ []) (pos 31999)
    -- the entry used, on both sides of the millisecond from which one holds
    ∷ eqb (entry_used longer (pos 189388832999)) 0
    ∷ eqb (entry_used longer (pos 189388833000)) 1
    -- the conversion range, -10,000,000,000 to 16,000,000,000
    ∷ is_milli (milli_of earliest (second (negsuc 9999999999)) utc8) (negsuc 9999971232183)
    ∷ is_refused (milli_of earliest (second (negsuc 10000000000)) utc8) 6
    ∷ is_milli (milli_of earliest (second (pos 16000000000)) utc8) (pos 16000028767816)
    ∷ is_refused (milli_of earliest (second (pos 16000000001)) utc8) 6
    ∷ is_refused (day_of_second table (second (pos 16000000001)) utc8) 6
    ∷ is_refused (day_of_second table (second (negsuc 10000000000)) utc8) 6
    -- 7, on both sides of the first entry: this one holds from TAI second 32, and 65 TDB seconds are 32.816 s of TAI
    ∷ not (holds (pos 0 ∷ pos 32 ∷ []) (pos 31999) 0)
    ∷ holds (pos 0 ∷ pos 32 ∷ []) (pos 32000) 0
    ∷ is_refused (day_of_second (pos 0 ∷ pos 32 ∷ []) (second (pos 64)) utc8) 7
    ∷ is_day (day_of_second (pos 0 ∷ pos 32 ∷ []) (second (pos 65)) utc8) (pos 0)
    ∷ is_refused (day_of_second table (second (negsuc 32000000)) utc8) 7
    -- 15 before 1, before 6 and before 7
    ∷ is_refused (day_of_second unlawful (second (pos 0)) (pos 841)) 15
    ∷ is_refused (day_of_second table (second (pos 16000000001)) (pos 841)) 15
    ∷ is_refused (day_of_second table (second (negsuc 32000000)) (negsuc 720)) 15
    -- 1 before 6, 1 before 7, 6 before 7
    ∷ is_refused (day_of_second unlawful (second (pos 16000000001)) utc8) 1
    ∷ is_refused (day_of_second unlawful (second (pos 0)) utc8) 1
    ∷ is_refused (day_of_second (pos 100000 ∷ pos 0 ∷ []) (second (negsuc 10000000000)) utc8) 6
    -- 1 to 64 entries, in whole pairs
    ∷ is_accepted (leap_judged (daily 64 0))
    ∷ is_refused (leap_judged (daily 65 0)) 1
    ∷ is_refused (leap_judged []) 1
    ∷ is_refused (leap_judged (pos 0 ∷ [])) 1
    ∷ is_refused (leap_judged (pos 0 ∷ pos 32 ∷ pos 1 ∷ [])) 1
    -- days -120,000 to 100,000, strictly rising
    ∷ is_accepted (leap_judged (negsuc 119999 ∷ pos 32 ∷ []))
    ∷ is_refused (leap_judged (negsuc 120000 ∷ pos 32 ∷ [])) 1
    ∷ is_accepted (leap_judged (pos 100000 ∷ pos 32 ∷ []))
    ∷ is_refused (leap_judged (pos 100001 ∷ pos 32 ∷ [])) 1
    ∷ is_accepted (leap_judged (pos 0 ∷ pos 32 ∷ pos 100000 ∷ pos 33 ∷ []))
    ∷ is_refused (leap_judged (pos 0 ∷ pos 32 ∷ pos 100001 ∷ pos 33 ∷ [])) 1
    ∷ is_refused (leap_judged (pos 0 ∷ pos 32 ∷ pos 0 ∷ pos 33 ∷ [])) 1
    ∷ is_accepted (leap_judged (pos 0 ∷ pos 32 ∷ pos 1 ∷ pos 33 ∷ []))
    -- offsets: first 0 to 1,000, then one more each time
    ∷ is_accepted (leap_judged (pos 0 ∷ pos 0 ∷ []))
    ∷ is_refused (leap_judged (pos 0 ∷ negsuc 0 ∷ [])) 1
    ∷ is_accepted (leap_judged (pos 0 ∷ pos 1000 ∷ []))
    ∷ is_refused (leap_judged (pos 0 ∷ pos 1001 ∷ [])) 1
    ∷ is_accepted (leap_judged (pos 0 ∷ pos 1000 ∷ pos 1 ∷ pos 1001 ∷ []))
    ∷ is_refused (leap_judged (pos 0 ∷ pos 32 ∷ pos 1 ∷ pos 32 ∷ [])) 1
    ∷ is_refused (leap_judged (pos 0 ∷ pos 32 ∷ pos 1 ∷ pos 34 ∷ [])) 1
    -- words at the ends of the machine's range
    ∷ is_refused (leap_judged (negsuc (2 ^ 63 - 1) ∷ pos 32 ∷ [])) 1
    ∷ is_refused (leap_judged (pos 0 ∷ negsuc (2 ^ 63 - 1) ∷ [])) 1
    ∷ is_refused (leap_judged (pos 0 ∷ pos (2 ^ 63 - 1) ∷ [])) 1
    ∷ []

pub examples_hold : T (all examples)
unfolding examples
examples_hold = tt
