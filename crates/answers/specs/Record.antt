-- The answer record, nine words that C reads: the number of the refusal, 0 where there is none; the segment that a refusal names; the numbers of the answer, and
-- zeros behind them. Which numbers an answer has. Assumes nothing: these are definitions.
use Rattle.std.specs.Prelude.{Bool, cond, List, [], ◌∷◌, ◌++◌, ℕ, ℤ, pos, take, replicate}
use Rattle.refusals.specs.Verdict.{Verdict, answered, refused}
use Rattle.times.specs.declared.Day.{Day}
use Rattle.times.specs.declared.Milli.{Milli}
use Rattle.dates.specs.declared.Date.{Date}
use Rattle.clock.specs.declared.ShownTime.{ShownTime}
use Rattle.series.specs.declared.Body.{Body}
use Rattle.series.specs.declared.Body.TheVariants.{Sun, Moon}
use Rattle.served.specs.declared.Served.{Served}
use Rattle.served.specs.declared.Side.{Side}
use Rattle.served.specs.declared.Side.TheVariants.{Near, Long}
use Rattle.almanac.specs.declared.Counts.{Counts}
use Rattle.rebuilt.specs.declared.Rebuilt.{Rebuilt}

-- what a call returns
abbrev pub number_of : {A : Type 0} → Verdict A → ℤ
number_of (answered a) = pos 0
number_of (refused number segment) = pos number

-- what it leaves in the record
abbrev pub record_of : {A : Type 0} → Verdict A → (A → List ℤ) → List ℤ
record_of (answered a) numbers = pos 0 ∷ pos 0 ∷ take 7 (numbers a ++ replicate 7 (pos 0))
record_of (refused number segment) numbers = pos number ∷ pos segment ∷ replicate 7 (pos 0)

-- ---- the numbers of an answer, in the record's order
-- of a judge: none
abbrev pub no_numbers : Unit {0} → List ℤ
no_numbers accepted = []

abbrev pub date_numbers : Date → List ℤ
date_numbers d = d.year ∷ d.month ∷ d.day ∷ []

abbrev pub day_numbers : Day → List ℤ
day_numbers n = n.0 ∷ []

abbrev pub milli_numbers : Milli → List ℤ
milli_numbers m = m.0 ∷ []

abbrev pub shown_numbers : ShownTime → List ℤ
shown_numbers t = t.date.year ∷ t.date.month ∷ t.date.day ∷ pos t.hour ∷ pos t.minute ∷ pos t.second ∷ pos t.millisecond ∷ []

-- of a series: its value
abbrev pub value_numbers : ℤ → List ℤ
value_numbers value = value ∷ []

-- of two series: which one serves, near 0 and long 1, and by which segment
abbrev pub side_number : Side → ℤ
side_number Near = pos 0
side_number Long = pos 1

abbrev pub served_numbers : Served → List ℤ
served_numbers g = side_number g.side ∷ pos g.segment ∷ []

-- how many marks, or bytes
abbrev pub count_numbers : ℕ → List ℤ
count_numbers n = pos n ∷ []

abbrev pub file_numbers : Counts → List ℤ
file_numbers n = pos n.entries ∷ pos n.suis ∷ pos n.months ∷ []

-- how many bytes, and how many years are listed
abbrev pub rebuilt_numbers : Rebuilt → List ℤ
rebuilt_numbers n = pos n.bytes ∷ pos n.years ∷ []

-- ---- which body a flag says
abbrev pub body_of : Bool → Body
body_of moon = cond moon Moon Sun
