-- From a TDB second to local milliseconds, days and shown times (document 01, "Three counts of time", as orders 2 and 5 amend it), for any table, second and zone: what
-- is refused is judged before (`Answers`). The zone is in minutes east of UTC; UTC+8 is 480. Assumes nothing: these are definitions.
use Rattle.std.specs.Prelude.{ℕ, ◌/◌, ◌%◌, ◌≡◌, Bool, true, false, not, cond, List, ℤ, pos, negsuc, ◌+ℤ◌, ◌-ℤ◌, ◌*ℤ◌}
use Rattle.whole.specs.Floor.{floor_div, floor_mod}
use Rattle.whole.specs.Ranges.{Within}
use Rattle.whole.specs.Tests.{in_range}
use Rattle.times.specs.declared.Day.{Day}
use Rattle.times.specs.declared.Second.{Second}
use Rattle.times.specs.declared.Milli.{Milli}
use Rattle.dates.specs.Calendar.{date_for}
use Rattle.clock.specs.declared.Reading.{Reading}
use Rattle.clock.specs.declared.ShownTime.{ShownTime}
use Rattle.clock.specs.Leap.{leap_lawful, offset, holds, entry_used, inserted}

-- zones are -720 to 840 minutes
unfoldable pub is_zone : ℤ → Bool
is_zone zone = in_range (negsuc 719) (pos 840) zone

-- the zone of UTC+8
abbrev pub utc8 : ℤ
utc8 = pos 480

-- conversion takes TDB seconds -10,000,000,000 to 16,000,000,000
unfoldable pub convertible : Second → Bool
convertible s = in_range (negsuc 9999999999) (pos 16000000000) s.0

-- the TAI millisecond of a TDB second; TT = TAI + 32.184 s
unfoldable pub tai : Second → ℤ
tai s = pos 1000 *ℤ s.0 -ℤ pos 32184

-- an instant before the first leap entry
unfoldable pub early : List ℤ → Second → Bool
early leap s = not (holds leap (tai s) 0)

-- ---- one reading of the clock: the count in the zone, and whether the second is an inserted one. The count cannot say an inserted second: it says the one after it
-- the local millisecond of a TAI millisecond under an offset: "28,800,000 becomes 60,000 times the zone"
unfoldable pub local_milli : ℤ → ℤ → ℤ → Milli
local_milli t o zone = record { 0 = t -ℤ pos 1000 *ℤ o +ℤ pos 60000 *ℤ zone }

unfoldable pub reading : List ℤ → Second → ℤ → Reading
reading leap s zone = record { milli = local_milli (tai s) (offset leap (entry_used leap (tai s))) zone; inserted = inserted leap (tai s) }

-- ---- what is read off it
unfoldable pub milli_in : List ℤ → Second → ℤ → Milli
milli_in leap s zone = (reading leap s zone).milli

-- the count off which day and time are read: inside an inserted second it is a second less, so that it lies in the minute that this second ends
unfoldable pub read_off : Reading → Milli
read_off r = record { 0 = cond r.inserted (r.milli.0 -ℤ pos 1000) r.milli.0 }

unfoldable pub count_in : List ℤ → Second → ℤ → Milli
count_in leap s zone = read_off (reading leap s zone)

-- the day of a millisecond, rounded down
unfoldable pub day_of_milli : Milli → Day
day_of_milli m = record { 0 = floor_div m.0 86400000 }

-- the day is that of the time shown: an inserted second belongs to the day that it ends
unfoldable pub day_in : List ℤ → Second → ℤ → Day
day_in leap s zone = day_of_milli (count_in leap s zone)

-- the second that is said when so many milliseconds of the day are over; an inserted one is 60
unfoldable pub second_said : Bool → ℕ → ℕ
second_said inserted rest = cond inserted 60 (rest / 1000 % 60)

-- date, hour, minute, second and millisecond
unfoldable pub shown_by : Reading → ShownTime
shown_by r =
    let rest = floor_mod (read_off r).0 86400000 in
    record {
      date = date_for (day_of_milli (read_off r)).0;
      hour = rest / 3600000;
      minute = rest / 60000 % 60;
      second = second_said r.inserted rest;
      millisecond = rest % 1000;
    }

unfoldable pub shown_in : List ℤ → Second → ℤ → ShownTime
shown_in leap s zone = shown_by (reading leap s zone)

-- ---- what is known once zone, table and second are judged: what the inner functions ask. The zones -720 to 840 are within 1,000 minutes
pub record Readable (leap : List ℤ) (s : Second) (zone : ℤ) : Type 0 where
  pub lawful_table : leap_lawful leap ≡ true
  pub in_range : convertible s ≡ true
  pub not_early : early leap s ≡ false
  pub zone_small : Within 1000 zone
