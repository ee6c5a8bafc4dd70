-- The rules of `Content` as a walk meets them, record after record: what the records before this one ask of it is carried along. `theory.Walk` says that they
-- are the same rules. Assumes nothing: these are definitions.
use Rattle.std.specs.Prelude.{Bool, cond, Option, Some, None, ◌&&◌, List, ℕ, zero, suc, ◌+◌, ◌-◌, ◌*◌, ◌/◌, eqb, leb, ℤ, pos, ◌+ℤ◌, ◌-ℤ◌, ◌*ℤ◌, length}
use Rattle.whole.specs.Floor.{floor_mod}
use Rattle.whole.specs.Tests.{in_range, is_exactly}
use Rattle.whole.specs.Below.{every}
use Rattle.dates.specs.Answers.{has_date}
use Rattle.months.specs.Handles.{ordinal, handle, handle_at}
use Rattle.content.specs.declared.inner.Walked.{Walked}
use Rattle.content.specs.Content.{year_at, month_at, months_before, good_sui, good_handle, good_sui_months}

-- ---- suis: the year that sui i must have; the first has the one that it has
unfoldable pub year_due : List ℤ → ℕ → ℤ
year_due suis zero = year_at suis zero
year_due suis (suc i) = year_at suis i +ℤ pos 1

unfoldable pub sui_after : ℤ → ℤ → ℤ → Bool
sui_after due year count = in_range (pos 1700) (pos 2500) year && (is_exactly due year && in_range (pos 12) (pos 13) count)

-- ---- days: the day on which month k must begin; the first begins where it does, on a day that has a date
unfoldable pub day_due : List ℤ → ℕ → ℤ
day_due months zero = (month_at months zero).first
day_due months (suc k) = (month_at months k).first +ℤ (month_at months k).length

unfoldable pub days_after : ℤ → ℤ → ℤ → Bool
days_after due first length = is_exactly due first && (in_range (pos 29) (pos 30) length && has_date (first +ℤ length -ℤ pos 1))

-- ---- handles: of the ordinary month at a place that no leap month came before
abbrev pub ordinary : ℤ → ℕ → ℤ
ordinary year place = handle year (ordinal place) 0

-- and of the one after it: month 1 comes after month 12
unfoldable pub handle_after : ℤ → ℤ → ℤ
handle_after year h = cond (is_exactly (pos 32 *ℤ year +ℤ pos 24) h) (h -ℤ pos 22) (h +ℤ pos 2)

-- a leap month's
unfoldable pub leap_handle : ℤ → ℤ → ℕ → ℕ → ℤ → Bool
leap_handle year count leaps place h = is_exactly (pos 13) count && (eqb leaps 0 && (leb 1 place && is_exactly (handle_at year place place) h))

-- ---- one month more: where the walk then stands, if the month is good
unfoldable pub walked_on : ℤ → ℤ → ℕ → ℕ → ℤ → ℤ → ℤ → ℤ → Option Walked
walked_on year count leaps place due h first length =
    cond
    (days_after due first length && good_handle year count leaps place h)
    (Some (record { leaps = leaps + floor_mod h 2; next = ordinary year (place + 1 - (leaps + floor_mod h 2)); due = first +ℤ length }))
    None

-- ---- all suis and their months
unfoldable pub suis_lawful : List ℤ → List ℤ → Bool
suis_lawful suis months =
    every (good_sui suis) (length suis / 2)
    && (eqb (length months) (3 * months_before suis (length suis / 2))
    && every (good_sui_months suis months) (length suis / 2))
