-- What the entry points of this crate answer (document 01, "Three counts of time" and refusal 6): the date of a day and the day of a date.
-- Assumes nothing: these are definitions.
use Rattle.std.specs.Prelude.{Bool, not, ◌&&◌, ℤ, pos, negsuc}
use Rattle.whole.specs.Tests.{in_range}
use Rattle.refusals.specs.Verdict.{Verdict, answered, refuse_when, ◌before◌}
use Rattle.dates.specs.declared.Date.{Date}
use Rattle.times.specs.declared.Day.{Day}
use Rattle.dates.specs.Calendar.{valid, day_number, date_for}

-- days -150,000 to 200,000 have dates
unfoldable pub has_date : ℤ → Bool
has_date n = in_range (negsuc 149999) (pos 200000) n

-- the date of a day; 6 when the day is outside its range
unfoldable pub date_of : Day → Verdict Date
date_of n = refuse_when (not (has_date n.0)) 6 before answered (date_for n.0)

-- the day of a date; 6 when there is no such date, or its day is outside the range
unfoldable pub day_of : Date → Verdict Day
day_of d = refuse_when (not (valid d && has_date (day_number d))) 6 before answered (record { 0 = day_number d })
