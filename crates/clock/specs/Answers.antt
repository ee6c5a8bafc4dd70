-- What the entry points of this crate answer: 15 for a zone out of range, first of all (document 02, order 5), 1 for a leap table that breaks its rule, then 6 for a
-- second outside the conversion range, then 7 for an instant before the first entry (document 01, "Refusal numbers"). Assumes nothing: these are definitions.
use Rattle.std.specs.Prelude.{not, List, ℤ}
use Rattle.refusals.specs.Verdict.{Verdict, answered, refuse_when, ◌before◌}
use Rattle.times.specs.declared.Day.{Day}
use Rattle.times.specs.declared.Second.{Second}
use Rattle.times.specs.declared.Milli.{Milli}
use Rattle.clock.specs.declared.ShownTime.{ShownTime}
use Rattle.clock.specs.Leap.{leap_lawful}
use Rattle.clock.specs.Clock.{is_zone, convertible, early, milli_in, day_in, shown_in}

-- what is judged first of all, wherever a zone is given
unfoldable pub zone_judged : ℤ → Verdict (Unit {0})
zone_judged zone = refuse_when (not (is_zone zone)) 15

unfoldable pub leap_judged : List ℤ → Verdict (Unit {0})
leap_judged leap = refuse_when (not (leap_lawful leap)) 1

-- what is judged before a second is converted
unfoldable pub clock_judged : List ℤ → Second → ℤ → Verdict (Unit {0})
clock_judged leap s zone = zone_judged zone before leap_judged leap before refuse_when (not (convertible s)) 6 before refuse_when (early leap s) 7

unfoldable pub milli_of : List ℤ → Second → ℤ → Verdict Milli
milli_of leap s zone = clock_judged leap s zone before answered (milli_in leap s zone)

unfoldable pub day_of_second : List ℤ → Second → ℤ → Verdict Day
day_of_second leap s zone = clock_judged leap s zone before answered (day_in leap s zone)

unfoldable pub shown_of : List ℤ → Second → ℤ → Verdict ShownTime
shown_of leap s zone = clock_judged leap s zone before answered (shown_in leap s zone)
