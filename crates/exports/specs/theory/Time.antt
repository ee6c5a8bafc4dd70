-- Days, dates and the clock: the numbers of their answers and refusals fit a word. Assumes nothing.
use Rattle.std.specs.Prelude.{ℕ, ◌≤◌, Bool, true, false, not, ◌&&◌, List, ℤ}
use Rattle.std.proofs.Common.{arith}
use Rattle.whole.specs.Floor.{floor_mod}
use Rattle.whole.proofs.Floor.{floor_mod_lt}
use Rattle.times.specs.declared.Day.{Day}
use Rattle.times.specs.declared.Second.{Second}
use Rattle.dates.specs.declared.Date.{Date}
use Rattle.dates.specs.Calendar.{valid, day_number}
use Rattle.dates.specs.Answers.{has_date, date_of, day_of}
use Rattle.clock.specs.Leap.{leap_lawful, inserted}
use Rattle.clock.specs.Clock.{is_zone, convertible, tai, early, reading, count_in, second_said, shown_by, shown_in}
use Rattle.clock.specs.Answers.{zone_judged, leap_judged, clock_judged, milli_of, day_of_second, shown_of}
use Rattle.answers.specs.Fits.{Fits, none, shown_size, answer, test, ◌and◌}

-- ---- days and dates
pub date_fits : (n : Day) → Fits none (date_of n)
unfolding date_of
date_fits n = test (not (has_date n.0)) 6 tt and answer (omega arith)

pub day_fits : (d : Date) → Fits none (day_of d)
unfolding day_of
day_fits d = test (not (valid d && has_date (day_number d))) 6 tt and answer (omega arith)

-- ---- the clock
second_fits : (inserted : Bool) (rest : ℕ) → second_said inserted rest ≤ 60
unfolding second_said
second_fits true rest = omega arith
second_fits false rest = omega arith

pub zone_fits : (zone : ℤ) → Fits none (zone_judged zone)
unfolding zone_judged
zone_fits zone = test (not (is_zone zone)) 15 tt

module _ (leap : List ℤ) where
  pub leap_fits : Fits none (leap_judged leap)
  unfolding leap_judged
  leap_fits = test (not (leap_lawful leap)) 1 tt

  module _ (s : Second) (zone : ℤ) where
    clock_fits : Fits none (clock_judged leap s zone)
    unfolding clock_judged
    clock_fits = zone_fits zone and leap_fits and test (not (convertible s)) 6 tt and test (early leap s) 7 tt

    pub milli_fits : Fits none (milli_of leap s zone)
    unfolding milli_of
    milli_fits = clock_fits and answer (omega arith)

    pub day_of_second_fits : Fits none (day_of_second leap s zone)
    unfolding day_of_second
    day_of_second_fits = clock_fits and answer (omega arith)

    -- the millisecond of the day, and what is read off it, is less than a day
    pub shown_fits : Fits shown_size (shown_of leap s zone)
    unfolding shown_of shown_in shown_by count_in reading
    shown_fits =
        let rest = floor_mod (count_in leap s zone).0 86400000 in
        clock_fits and answer (omega (arith, floor_mod_lt (count_in leap s zone).0 86400000 (omega arith), second_fits (inserted leap (tai s)) rest))
