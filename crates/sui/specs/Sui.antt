-- A sui from leap table, Sun and Moon (document 01, "Months of a sui"): which of the listed marks are its solstices, zhongqi and new moons, and their days in
-- a zone (minutes). What follows from days alone is the month rule of `months`. Assumes nothing: these are definitions.
use Rattle.std.specs.Prelude.{Bool, not, ◌&&◌, List, [], ◌∷◌, map, eqb, ℤ, pos, ◌-ℤ◌}
use Rattle.whole.specs.Floor.{floor_mod}
use Rattle.whole.specs.Tests.{in_range, is_exactly}
use Rattle.refusals.specs.Verdict.{Verdict, answered, refused, refuse_when, ◌before◌, ◌then◌}
use Rattle.dates.specs.Calendar.{year_of}
use Rattle.clock.specs.Clock.{day_in}
use Rattle.marks.specs.Marks.{Mark}
use Rattle.marks.specs.Listed.{listed_marks}
use Rattle.inputs.specs.Inputs.{Inputs, sun, moon, second, judged_in}
use Rattle.months.specs.declared.SuiDays.{SuiDays}
use Rattle.months.specs.declared.Sui.{Sui}
use Rattle.months.specs.Months.{days_of, sui_of}
use Rattle.months.specs.Limits.{year_in_range}
use Rattle.whole.specs.Selected.{select}

-- ---- which mark is which (document 01, "Marks")
-- "Sun index modulo 24 (never negative): 18 is the winter solstice Z11; even indices are zhongqi."
unfoldable pub is_solstice : Mark → Bool
is_solstice m = eqb (floor_mod m.index 24) 18

unfoldable pub is_zhongqi : Mark → Bool
is_zhongqi m = eqb (floor_mod m.index 2) 0

-- "Moon index modulo 4: 0 new"
unfoldable pub is_new_moon : Mark → Bool
is_new_moon m = eqb (floor_mod m.index 4) 0

-- "the one listed solstice": 8 for "a solstice missing or doubled"
unfoldable pub one_solstice : List Mark → Verdict Mark
one_solstice [] = refused 8 0
one_solstice (m ∷ []) = answered m
one_solstice (m ∷ n ∷ marks) = refused 8 0

-- ---- by the listed marks of Sun and Moon, whatever they are
module _ (leap : List ℤ) (zone : ℤ) where
  -- the day of a mark
  abbrev pub mark_day : Mark → ℤ
  mark_day m = (day_in leap (second m) zone).0

  -- the days of the new moons among the Moon's marks
  unfoldable pub new_moon_days_of : List Mark → List ℤ
  new_moon_days_of moon_marks = map mark_day (select is_new_moon moon_marks)

  -- the solstices among the Sun's marks with their day in a Gregorian year
  unfoldable pub solstices_of : List Mark → ℤ → List Mark
  solstices_of sun_marks year = select (λ m. is_solstice m && is_exactly year (year_of (mark_day m))) sun_marks

  -- the days of the zhongqi among them from one solstice to another, both ends included
  unfoldable pub zhongqi_days_of : List Mark → Mark → Mark → List ℤ
  zhongqi_days_of sun_marks first last = map mark_day (select (λ m. is_zhongqi m && in_range first.index last.index m.index) sun_marks)

  -- "Sui Y (1700 to 2500) uses the one listed solstice with its day in Gregorian year Y-1 and the one in Y"; then the month rule: 8 for a new moon that is
  -- missing, 9
  unfoldable pub days_by_marks : List Mark → List Mark → ℤ → Verdict SuiDays
  days_by_marks sun_marks moon_marks year =
      refuse_when (not (year_in_range year)) 8
      before (one_solstice (solstices_of sun_marks (year -ℤ pos 1)) then λ first. one_solstice (solstices_of sun_marks year) then λ last. days_of (new_moon_days_of moon_marks) (zhongqi_days_of sun_marks first last))

-- ---- by a leap table and two series
module _ (i : Inputs) (zone : ℤ) where
  abbrev pub day_is : Mark → ℤ
  day_is = mark_day i.leap zone

  abbrev pub new_moon_days : List ℤ
  new_moon_days = new_moon_days_of i.leap zone (listed_marks (moon i))

  abbrev pub solstices_in : ℤ → List Mark
  solstices_in = solstices_of i.leap zone (listed_marks (sun i))

  abbrev pub zhongqi_days : Mark → Mark → List ℤ
  zhongqi_days = zhongqi_days_of i.leap zone (listed_marks (sun i))

  unfoldable pub sui_days : ℤ → Verdict SuiDays
  sui_days = days_by_marks i.leap zone (listed_marks (sun i)) (listed_marks (moon i))

  -- the sui: 8 to 10
  abbrev pub sui_of_year : ℤ → Verdict Sui
  sui_of_year year = sui_days year then sui_of year

-- the whole: 15; 1; Sun 2 to 5; Moon 2 to 5; 7; 8; 9; 10
unfoldable pub sui_for : Inputs → ℤ → ℤ → Verdict Sui
sui_for i zone year = judged_in i zone before sui_of_year i zone year
