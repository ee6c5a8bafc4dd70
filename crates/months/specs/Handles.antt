-- Numbers, leap marks and handles of the months of a sui, and the month record (document 01, "Months of a sui"). A place is counted from the sui's first
-- month, 0. Assumes nothing: these are definitions.
use Rattle.std.specs.Prelude.{cond, ℕ, ◌+◌, ◌*◌, ◌%◌, eqb, ltb, ℤ, pos, ◌+ℤ◌, ◌-ℤ◌, ◌*ℤ◌}
use Rattle.months.specs.declared.Month.{Month}

-- months number 11, 12, 1, .. 10
abbrev pub ordinal : ℕ → ℕ
ordinal place = (place + 10) % 12 + 1

-- with the leap month at place `leap`: it takes the number before it (11 places on is one place back), and so those behind it go on by one less
unfoldable pub number_at : ℕ → ℕ → ℕ
number_at leap place = cond (ltb place leap) (ordinal place) (ordinal (place + 11))

unfoldable pub leap_mark : ℕ → ℕ → ℕ
leap_mark leap place = cond (eqb place leap) 1 0

-- 32Y + 2 x number + 1 if leap
unfoldable pub handle : ℤ → ℕ → ℕ → ℤ
handle year number mark = pos 32 *ℤ year +ℤ pos (2 * number + mark)

unfoldable pub handle_at : ℤ → ℕ → ℕ → ℤ
handle_at year leap place = handle year (number_at leap place) (leap_mark leap place)

-- a month runs from its new-moon day to the day before the next
unfoldable pub month_of : ℤ → ℕ → ℕ → ℤ → ℤ → Month
month_of year leap place first next = record { handle = handle_at year leap place; first = first; length = next -ℤ first }

-- what stands where there is no month
abbrev pub no_month : Month
no_month = record { handle = pos 0; first = pos 0; length = pos 0 }
