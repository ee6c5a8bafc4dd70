-- What every build begins with: a leap table, the Sun's series and the Moon's, judged together in a build's order (document 01, "Refusal numbers"): 1, then 2 to 5
-- for the whole Sun series, then for the whole Moon series, then 7 for any listed mark; 15 for a zone before all of it. And the day of a mark. Assumes nothing: these
-- are definitions.
use Rattle.std.specs.Prelude.{◌≡◌, Bool, false, ◌||◌, List, [], ◌∷◌, ℤ}
use Rattle.refusals.specs.Verdict.{Verdict, accepted, refuse_when, ◌before◌}
use Rattle.times.specs.declared.Day.{Day}
use Rattle.times.specs.declared.Second.{Second}
use Rattle.clock.specs.Clock.{early, day_in}
use Rattle.clock.specs.Answers.{zone_judged, leap_judged}
use Rattle.series.specs.declared.Body.{Body}
use Rattle.series.specs.declared.Body.TheVariants.{Sun, Moon}
use Rattle.series.specs.Series.{Series, series}
use Rattle.series.specs.Acceptance.{series_judged}
use Rattle.marks.specs.Marks.{Mark}
use Rattle.marks.specs.Listed.{listed_marks, second_of_mark}

pub record Inputs : Type 0 where
  pub leap : List ℤ
  pub sun_start : ℤ
  pub sun_coefs : List ℤ
  pub moon_start : ℤ
  pub moon_coefs : List ℤ

abbrev pub inputs : List ℤ → ℤ → List ℤ → ℤ → List ℤ → Inputs
inputs leap sun_start sun_coefs moon_start moon_coefs = record { leap = leap; sun_start = sun_start; sun_coefs = sun_coefs; moon_start = moon_start; moon_coefs = moon_coefs }

-- the two series
abbrev pub sun : Inputs → Series
sun i = series Sun i.sun_start i.sun_coefs

abbrev pub moon : Inputs → Series
moon i = series Moon i.moon_start i.moon_coefs

abbrev pub series_of : Inputs → Body → Series
series_of i Sun = sun i
series_of i Moon = moon i

-- ---- 7: an instant before the first leap entry, for any listed mark
abbrev pub second : Mark → Second
second m = record { 0 = m.second }

unfoldable pub any_early : List ℤ → List Mark → Bool
any_early leap [] = false
any_early leap (m ∷ marks) = early leap (second m) || any_early leap marks

-- ---- the judgement
unfoldable pub inputs_judged : Inputs → Verdict (Unit {0})
inputs_judged i =
    leap_judged i.leap
    before series_judged (sun i)
    before series_judged (moon i)
    before refuse_when (any_early i.leap (listed_marks (sun i)) || any_early i.leap (listed_marks (moon i))) 7

-- for a call that answers in a zone: "zone out of range, checked first of all" (document 02, order 5)
unfoldable pub judged_in : Inputs → ℤ → Verdict (Unit {0})
judged_in i zone = zone_judged zone before inputs_judged i

abbrev pub InputsAccepted : Inputs → Type 0
InputsAccepted i = inputs_judged i ≡ accepted

-- ---- the day of mark j of a series, in a zone
unfoldable pub day_of_mark : List ℤ → Series → ℤ → ℤ → Day
day_of_mark leap s zone j = day_in leap (record { 0 = second_of_mark s j }) zone
