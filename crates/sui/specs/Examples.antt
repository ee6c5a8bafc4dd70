-- The rule of a sui, computed: which marks are which, the year of a solstice by its day in the zone, the real suis 2033 and 2034 by their listed marks, both sides of
-- every bound, and the order of the refusals. Assumes nothing.
use Rattle.std.specs.Prelude.{Bool, true, false, not, ◌&&◌, List, [], ◌∷◌, ◌++◌, ℕ, ◌+◌, T, eqb, ℤ, pos, negsuc, ◌+ℤ◌, ◌-ℤ◌, ◌*ℤ◌, get_or, take, drop, replicate}
use Rattle.whole.specs.Below.{every, any, last_below}
use Rattle.whole.specs.Counted.{count_of}
use Rattle.whole.specs.Evaluated.{same, all}
use Rattle.whole.specs.Floor.{floor_div, floor_mod}
use Rattle.whole.specs.Found.{first_from, first_below}
use Rattle.refusals.specs.Verdict.{Verdict, answered, refused, ◌then◌}
use Rattle.refusals.specs.Evaluated.{is_refused, is_refused_at}
use Rattle.refusals.specs.Search.{first_bad}
use Rattle.dates.specs.Calendar.{leap_years_to, new_year, year_or_next, year_of}
use Rattle.clock.specs.Leap.{leap_lawful, whole_pairs, first_entry, next_entry, good_entry, holds_from, holds, entry_used, inserted_by, inserted}
use Rattle.clock.specs.Clock.{is_zone, utc8, tai, local_milli, reading, read_off, count_in, day_of_milli, day_in}
use Rattle.clock.specs.Answers.{zone_judged, leap_judged}
use Rattle.chebyshev.specs.Polynomials.{P}
use Rattle.chebyshev.specs.Segment.{sum, value, slope}
use Rattle.series.specs.Acceptance.{series_judged}
use Rattle.marks.specs.Marks.{Mark}
use Rattle.marks.specs.Crossings.{marked}
use Rattle.inputs.specs.Inputs.{inputs, inputs_judged, judged_in}
use Rattle.months.specs.declared.SuiDays.{SuiDays}
use Rattle.months.specs.declared.Sui.{Sui}
use Rattle.months.specs.Handles.{number_at, leap_mark, handle, handle_at, month_of, no_month}
use Rattle.months.specs.Months.{not_after, by_first, by_second, is_missing, moon_missing, month_count, twelve_or_thirteen, days_found, days_of, month_length, is_within, zhongqi_in, zhongqi_of, without, first_without, leap_month, month_at, numbered, good_length, bad_month, first_bad_month, lengths_judged, sui_of}
use Rattle.months.specs.Limits.{year_in_range}
use Rattle.whole.specs.Selected.{select}
use Rattle.sui.specs.Sui.{is_solstice, is_zhongqi, is_new_moon, one_solstice, new_moon_days_of, solstices_of, zhongqi_days_of, days_by_marks, sui_days, sui_for}

-- ---- how the examples are written
-- marks of consecutive indices at these seconds, all so many days later
abbrev marks_at : ℤ → ℤ → List ℕ → List Mark
marks_at days j [] = []
marks_at days j (s ∷ seconds) = marked j (pos s +ℤ pos 86400 *ℤ days) ∷ marks_at days (j +ℤ pos 1) seconds

abbrev at : ℤ → Mark
at index = marked index (pos 0)

-- these days, and nothing else
abbrev same_days : ℤ → List ℤ → List ℕ → Bool
same_days later [] [] = true
same_days later [] (b ∷ bs) = false
same_days later (a ∷ as') [] = false
same_days later (a ∷ as') (b ∷ bs) = same a (pos b +ℤ later) && same_days later as' bs

abbrev is_days : Verdict SuiDays → ℤ → ℕ → List ℕ → List ℕ → Bool
is_days (answered days) later months moons zhongqi = eqb days.months months && (same_days later (take (months + 1) days.moons) moons && same_days later days.zhongqi zhongqi)
is_days (refused number segment) later months moons zhongqi = false

-- the month at a place of a sui: its handle, first day and length
abbrev is_month : Verdict Sui → ℕ → ℕ → ℕ → ℕ → Bool
is_month (answered sui) place handle first n =
    let m = get_or sui.months place no_month in
    same m.handle (pos handle) && (same m.first (pos first) && same m.length (pos n))
is_month (refused number segment) place handle first n = false

abbrev is_mark : Verdict Mark → ℤ → Bool
is_mark (answered m) index = same m.index index
is_mark (refused number segment) index = false

abbrev table : List ℤ
table = negsuc 364 ∷ pos 32 ∷ []

-- ---- the listed marks of the Sun, from 808 on, and of the Moon, from 1,630 on, that have to do with the suis 2033 and 2034 (TDB seconds of a real series)
abbrev sun_seconds : List ℕ
sun_seconds =
    1037989942 ∷ 1039269270 ∷ 1040543827 ∷ 1041815357 ∷ 1043087637 ∷ 1044362565 ∷ 1045643699 ∷ 1046932410 ∷ 1048231434 ∷ 1049540958
    ∷ 1050862458 ∷ 1052194496 ∷ 1053537129 ∷ 1054887276 ∷ 1056243738 ∷ 1057602367 ∷ 1058961239 ∷ 1060316215 ∷ 1061665381 ∷ 1063005692
    ∷ 1064335971 ∷ 1065654906 ∷ 1066962527 ∷ 1068259335 ∷ 1069546640 ∷ 1070826366 ∷ 1072100830 ∷ 1073372741 ∷ 1074644908 ∷ 1075920140
    ∷ 1077201082 ∷ 1078490014 ∷ 1079788720 ∷ 1081098445 ∷ 1082419494 ∷ 1083751820 ∷ 1085093884 ∷ 1086444471 ∷ 1087800322 ∷ 1089159528
    ∷ 1090517852 ∷ 1091873417 ∷ 1093222137 ∷ 1094562910 ∷ 1095892844 ∷ 1097212097 ∷ 1098519458 ∷ 1099816491 ∷ 1101103568 ∷ 1102383480
    ∷ 1103657711 ∷ 1104929813 ∷ 1106201726
    ∷ []

abbrev moon_seconds : List ℕ
moon_seconds =
    1037601795 ∷ 1038264539 ∷ 1038948844 ∷ 1039547383 ∷ 1040158211 ∷ 1040848825 ∷ 1041502693 ∷ 1042083334 ∷ 1042722498 ∷ 1043430416
    ∷ 1044050463 ∷ 1044624924 ∷ 1045292724 ∷ 1046001258 ∷ 1046593483 ∷ 1047173296 ∷ 1047865117 ∷ 1048557059 ∷ 1049133170 ∷ 1049728507
    ∷ 1050434314 ∷ 1051098209 ∷ 1051670842 ∷ 1052289989 ∷ 1052995435 ∷ 1053628211 ∷ 1054208264 ∷ 1054856406 ∷ 1055546424 ∷ 1056151844
    ∷ 1056748094 ∷ 1057425199 ∷ 1058088586 ∷ 1058674106 ∷ 1059293626 ∷ 1059992815 ∷ 1060625334 ∷ 1061199848 ∷ 1061847660 ∷ 1062555892
    ∷ 1063160506 ∷ 1063733686 ∷ 1064410858 ∷ 1065112438 ∷ 1065697160 ∷ 1066279720 ∷ 1066980577 ∷ 1067662053 ∷ 1068237197 ∷ 1068840600
    ∷ 1069551619 ∷ 1070205385 ∷ 1070781796 ∷ 1071415751 ∷ 1072118860 ∷ 1072743678 ∷ 1073332098 ∷ 1073999895 ∷ 1074679364 ∷ 1075278790
    ∷ 1075889144 ∷ 1076584211 ∷ 1077232287 ∷ 1077813322 ∷ 1078452681 ∷ 1079160339 ∷ 1079777746 ∷ 1080350381 ∷ 1081020004 ∷ 1081723581
    ∷ 1082316425 ∷ 1082892954 ∷ 1083586614 ∷ 1084273045 ∷ 1084850026 ∷ 1085443126 ∷ 1086148512 ∷ 1086810309 ∷ 1087381628 ∷ 1088001381
    ∷ 1088703944 ∷ 1089338415 ∷ 1089915387 ∷ 1090566374 ∷ 1091253342 ∷ 1091861490 ∷ 1092455655 ∷ 1093135473 ∷ 1093798229 ∷ 1094384555
    ∷ 1095005700 ∷ 1095705642 ∷ 1096340281 ∷ 1096913154 ∷ 1097566431 ∷ 1098273851 ∷ 1098881022 ∷ 1099452511 ∷ 1100135846 ∷ 1100836960
    ∷ 1101422002 ∷ 1102006057 ∷ 1102709737 ∷ 1103391969 ∷ 1103964941 ∷ 1104573732 ∷ 1105283058 ∷ 1105937196
    ∷ []

abbrev sun_marks : ℤ → List Mark
sun_marks later = marks_at later (pos 808) sun_seconds

abbrev moon_marks : ℤ → List Mark
moon_marks later = marks_at later (pos 1630) moon_seconds

-- the sui of a year by those marks, so many days later
abbrev sui_at : ℤ → ℤ → Verdict SuiDays
sui_at later year = days_by_marks table utc8 (sun_marks later) (moon_marks later) year

abbrev sui_by : List Mark → List Mark → ℤ → Verdict SuiDays
sui_by = days_by_marks table utc8

-- sui 2033: from 2032-12-03 to 2033-11-21
abbrev moons2033 : List ℕ
moons2033 = 12025 ∷ 12054 ∷ 12084 ∷ 12113 ∷ 12143 ∷ 12172 ∷ 12201 ∷ 12231 ∷ 12260 ∷ 12290 ∷ 12319 ∷ 12349 ∷ 12379 ∷ []

abbrev zhongqi2033 : List ℕ
zhongqi2033 = 12043 ∷ 12073 ∷ 12102 ∷ 12132 ∷ 12163 ∷ 12194 ∷ 12225 ∷ 12256 ∷ 12288 ∷ 12319 ∷ 12349 ∷ 12379 ∷ 12408 ∷ []

-- sui 2034: from 2033-11-22 to 2034-12-10
abbrev moons2034 : List ℕ
moons2034 = 12379 ∷ 12409 ∷ 12438 ∷ 12468 ∷ 12497 ∷ 12527 ∷ 12556 ∷ 12585 ∷ 12615 ∷ 12644 ∷ 12674 ∷ 12703 ∷ 12733 ∷ 12763 ∷ []

abbrev zhongqi2034 : List ℕ
zhongqi2034 = 12408 ∷ 12438 ∷ 12467 ∷ 12497 ∷ 12528 ∷ 12559 ∷ 12590 ∷ 12622 ∷ 12653 ∷ 12684 ∷ 12714 ∷ 12744 ∷ 12774 ∷ []

-- the first of January of 2033 and of the years at the ends of the range are so many days apart
abbrev to1700 : ℤ
to1700 = negsuc 121625

abbrev to2500 : ℤ
to2500 = pos 170568

-- the same for a Sun with one solstice more, or a Moon with two new moons fewer
abbrev doubled : List Mark
doubled = marked (pos 786) (pos 1040000000) ∷ sun_marks (pos 0)

abbrev fewer : List Mark
fewer = take 20 (moon_marks (pos 0)) ++ drop 28 (moon_marks (pos 0))

-- a segment with c1 alone
abbrev one : ℤ → List ℤ
one c1 = pos 0 ∷ c1 ∷ replicate 12 (pos 0)

unfoldable pub examples : List Bool
unfolding
    is_solstice is_zhongqi is_new_moon one_solstice new_moon_days_of solstices_of zhongqi_days_of days_by_marks sui_days sui_for select
    days_of days_found not_after by_first by_second is_missing moon_missing month_count twelve_or_thirteen count_of year_in_range
    month_length is_within zhongqi_in zhongqi_of without first_without first_from first_below leap_month number_at leap_mark handle handle_at month_of month_at numbered
    good_length bad_month first_bad_month lengths_judged sui_of
    day_in day_of_milli count_in read_off reading local_milli tai inserted inserted_by any holds_from holds entry_used last_below
    leap_years_to new_year year_or_next year_of floor_div floor_mod
    judged_in zone_judged is_zone inputs_judged leap_judged leap_lawful whole_pairs first_entry next_entry good_entry every series_judged first_bad value slope sum P
examples =
    -- which mark is which; remainders are never negative
    is_solstice (at (pos 18))
    ∷ is_solstice (at (pos 810))
    ∷ is_solstice (at (negsuc 5))
    ∷ not (is_solstice (at (pos 17)))
    ∷ not (is_solstice (at (pos 6)))
    ∷ not (is_solstice (at (negsuc 17)))
    ∷ is_zhongqi (at (pos 22))
    ∷ is_zhongqi (at (negsuc 1))
    ∷ not (is_zhongqi (at (pos 23)))
    ∷ not (is_zhongqi (at (negsuc 0)))
    ∷ is_new_moon (at (pos 0))
    ∷ is_new_moon (at (negsuc 3))
    ∷ not (is_new_moon (at (pos 1)))
    ∷ not (is_new_moon (at (pos 2)))
    ∷ not (is_new_moon (at (negsuc 0)))
    -- a solstice missing or doubled
    ∷ is_mark (one_solstice (at (pos 18) ∷ [])) (pos 18)
    ∷ is_refused (one_solstice []) 8
    ∷ is_refused (one_solstice (at (pos 18) ∷ at (pos 42) ∷ [])) 8
    -- its year is that of its day in the zone: in UTC+8 second -28,735 is the first of 2000 and -28,736 the last of 1999; in UTC+7 and in UTC both are of 1999
    ∷ is_mark (one_solstice (solstices_of table utc8 (marked (pos 18) (negsuc 28735) ∷ marked (pos 42) (negsuc 28734) ∷ []) (pos 1999))) (pos 18)
    ∷ is_mark (one_solstice (solstices_of table utc8 (marked (pos 18) (negsuc 28735) ∷ marked (pos 42) (negsuc 28734) ∷ []) (pos 2000))) (pos 42)
    ∷ is_refused (one_solstice (solstices_of table (pos 420) (marked (pos 18) (negsuc 28735) ∷ marked (pos 42) (negsuc 28734) ∷ []) (pos 1999))) 8
    ∷ is_refused (one_solstice (solstices_of table (pos 0) (marked (pos 18) (negsuc 28735) ∷ marked (pos 42) (negsuc 28734) ∷ []) (pos 1999))) 8
    -- two real suis
    ∷ is_days (sui_at (pos 0) (pos 2033)) (pos 0) 12 moons2033 zhongqi2033
    ∷ is_days (sui_at (pos 0) (pos 2034)) (pos 0) 13 moons2034 zhongqi2034
    -- a zhongqi belongs to the month that has its day: mark 836 comes before the new moon of its day, 12,438, so the month at 12,409 has none: leap 11
    ∷ is_month (sui_at (pos 0) (pos 2034) then sui_of (pos 2034)) 1 65111 12409 29
    ∷ is_month (sui_at (pos 0) (pos 2034) then sui_of (pos 2034)) 2 65112 12438 30
    -- the month at 12,290 has none either, in a sui of 12: it is month 8
    ∷ is_month (sui_at (pos 0) (pos 2033) then sui_of (pos 2033)) 9 65072 12290 29
    -- no solstice in the year before, none in the year, two in one year
    ∷ is_refused (sui_at (pos 0) (pos 2032)) 8
    ∷ is_refused (sui_at (pos 0) (pos 2035)) 8
    ∷ is_refused (sui_by doubled (moon_marks (pos 0)) (pos 2033)) 8
    -- a new moon for month 11 and one behind the second solstice, there or missing
    ∷ is_days (sui_by (sun_marks (pos 0)) (drop 2 (moon_marks (pos 0))) (pos 2033)) (pos 0) 12 moons2033 zhongqi2033
    ∷ is_refused (sui_by (sun_marks (pos 0)) (drop 3 (moon_marks (pos 0))) (pos 2033)) 8
    ∷ is_days (sui_by (sun_marks (pos 0)) (take 107 (moon_marks (pos 0))) (pos 2034)) (pos 0) 13 moons2034 zhongqi2034
    ∷ is_refused (sui_by (sun_marks (pos 0)) (take 106 (moon_marks (pos 0))) (pos 2034)) 8
    -- neither 12 nor 13 months; 8 before 9
    ∷ is_refused (sui_by (sun_marks (pos 0)) fewer (pos 2033)) 9
    ∷ is_refused (sui_by doubled fewer (pos 2033)) 8
    -- Y from 1700 to 2500
    ∷ is_days (sui_at to1700 (pos 1700)) to1700 12 moons2033 zhongqi2033
    ∷ is_refused (sui_at (to1700 -ℤ pos 365) (pos 1699)) 8
    ∷ is_days (sui_at to2500 (pos 2500)) to2500 12 moons2033 zhongqi2033
    ∷ is_refused (sui_at (to2500 +ℤ pos 365) (pos 2501)) 8
    -- 15 before 1; 1, the Sun's 4 and the Moon's 3 before 8
    ∷ is_refused (sui_for (inputs (pos 0 ∷ pos 1001 ∷ []) (pos 0) (one (pos 552960000)) (pos 0) (one (pos 864000000))) (pos 841) (pos 1699)) 15
    ∷ is_refused (sui_for (inputs (pos 0 ∷ pos 1001 ∷ []) (pos 0) (one (pos 552960000)) (pos 0) (one (pos 864000000))) (pos 840) (pos 1699)) 1
    ∷ is_refused (sui_for (inputs (pos 0 ∷ pos 1001 ∷ []) (pos 0) (one (pos 552960000)) (pos 0) (one (pos 864000000))) utc8 (pos 1699)) 1
    ∷ is_refused_at (sui_for (inputs table (pos 0) (one (pos 1)) (pos 0) (one (pos 5000000000))) utc8 (pos 1699)) 4 0
    ∷ is_refused_at (sui_for (inputs table (pos 0) (one (pos 552960000)) (pos 0) (one (pos 5000000000))) utc8 (pos 1699)) 3 0
    ∷ []

pub examples_hold : T (all examples)
unfolding examples
examples_hold = tt
