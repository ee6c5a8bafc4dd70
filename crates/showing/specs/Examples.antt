-- Worked lines and a worked file, byte by byte, each a computed fact, and all of them checked at once: an ordinary month, a leap month, the 133 bytes of the almanac's
-- example shown whole, and 13 before 12. What is shown is written out as bytes, not taken from the definitions. Assumes nothing.
use Rattle.std.specs.Prelude.{Bool, false, List, [], ◌∷◌, ◌++◌, ℕ, T, eqb, ℤ, pos, negsuc, set, take}
use Rattle.whole.specs.Floor.{floor_div, floor_mod}
use Rattle.whole.specs.Below.{every}
use Rattle.whole.specs.Evaluated.{all, same_numbers}
use Rattle.refusals.specs.Verdict.{Verdict, answered, refused}
use Rattle.refusals.specs.Evaluated.{is_refused}
use Rattle.dates.specs.Answers.{has_date}
use Rattle.dates.specs.Calendar.{leap_year, leap_years_to, new_year, month_lengths, year_or_next, year_of, months_over, date_in_year, date_for}
use Rattle.clock.specs.Leap.{first_entry, next_entry, good_entry, whole_pairs, leap_lawful}
use Rattle.months.specs.declared.Month.{Month}
use Rattle.months.specs.Handles.{number_at, leap_mark, handle, handle_at}
use Rattle.content.specs.Content.{months_before, follows_year, good_sui, leaps_before, good_handle, good_start, good_days, good_month, good_months, good_sui_months, whole_suis, lawful}
use Rattle.almanac.specs.Fields.{times, numbers_in}
use Rattle.almanac.specs.Layout.{counts_of, content_at, content_of, file_of}
use Rattle.showing.specs.Shown.{line, lines, text_of}
use Rattle.showing.specs.Answers.{text_shown, shown}

abbrev month : ℤ → ℤ → ℤ → Month
month handle first length = record { handle = handle; first = first; length = length }

-- shown as these bytes, or as so many
abbrev is_shown : Verdict (List ℕ) → List ℕ → Bool
is_shown (answered bytes) expected = same_numbers bytes expected
is_shown (refused number segment) expected = false

abbrev is_counted : Verdict ℕ → ℕ → Bool
is_counted (answered bytes) expected = eqb bytes expected
is_counted (refused number segment) expected = false

-- the file: one leap entry, the sui 2001, twelve months
abbrev file : List ℕ
file =
    (1 ∷ 0 ∷ 0 ∷ 0 ∷ 0 ∷ 0 ∷ 0 ∷ 0 ∷ 10 ∷ 0 ∷ 0 ∷ 0 ∷ [])
    ++ (1 ∷ 0 ∷ 0 ∷ 0 ∷ 209 ∷ 7 ∷ 0 ∷ 0 ∷ 12 ∷ [])
    ++ (12 ∷ 0 ∷ 0 ∷ 0 ∷ [])
    ++ (54 ∷ 250 ∷ 0 ∷ 0 ∷ 248 ∷ 42 ∷ 0 ∷ 0 ∷ 30 ∷ [])
    ++ (56 ∷ 250 ∷ 0 ∷ 0 ∷ 22 ∷ 43 ∷ 0 ∷ 0 ∷ 29 ∷ [])
    ++ (34 ∷ 250 ∷ 0 ∷ 0 ∷ 51 ∷ 43 ∷ 0 ∷ 0 ∷ 30 ∷ [])
    ++ (36 ∷ 250 ∷ 0 ∷ 0 ∷ 81 ∷ 43 ∷ 0 ∷ 0 ∷ 29 ∷ [])
    ++ (38 ∷ 250 ∷ 0 ∷ 0 ∷ 110 ∷ 43 ∷ 0 ∷ 0 ∷ 30 ∷ [])
    ++ (40 ∷ 250 ∷ 0 ∷ 0 ∷ 140 ∷ 43 ∷ 0 ∷ 0 ∷ 29 ∷ [])
    ++ (42 ∷ 250 ∷ 0 ∷ 0 ∷ 169 ∷ 43 ∷ 0 ∷ 0 ∷ 30 ∷ [])
    ++ (44 ∷ 250 ∷ 0 ∷ 0 ∷ 199 ∷ 43 ∷ 0 ∷ 0 ∷ 29 ∷ [])
    ++ (46 ∷ 250 ∷ 0 ∷ 0 ∷ 228 ∷ 43 ∷ 0 ∷ 0 ∷ 30 ∷ [])
    ++ (48 ∷ 250 ∷ 0 ∷ 0 ∷ 2 ∷ 44 ∷ 0 ∷ 0 ∷ 29 ∷ [])
    ++ (50 ∷ 250 ∷ 0 ∷ 0 ∷ 31 ∷ 44 ∷ 0 ∷ 0 ∷ 30 ∷ [])
    ++ (52 ∷ 250 ∷ 0 ∷ 0 ∷ 61 ∷ 44 ∷ 0 ∷ 0 ∷ 29 ∷ [])

-- its text
abbrev shown_file : List ℕ
shown_file =
    --  sui  month  leap  handle  first day   days
    (32 ∷ 115 ∷ 117 ∷ 105 ∷ 32 ∷ 32 ∷ 109 ∷ 111 ∷ 110 ∷ 116 ∷ 104 ∷ 32 ∷ 32 ∷ 108 ∷ 101 ∷ 97 ∷ 112 ∷ 32 ∷ 32 ∷ 104 ∷ 97 ∷ 110 ∷ 100 ∷ 108 ∷ 101 ∷ 32 ∷ 32 ∷ 102 ∷ 105 ∷ 114 ∷ 115 ∷ 116 ∷ 32 ∷ 100 ∷ 97 ∷ 121 ∷ 32 ∷ 32 ∷ 32 ∷ 100 ∷ 97 ∷ 121 ∷ 115 ∷ 10 ∷ [])
    -- 2001     11         64054  2030-02-12    30
    ++ (50 ∷ 48 ∷ 48 ∷ 49 ∷ 32 ∷ 32 ∷ 32 ∷ 32 ∷ 32 ∷ 49 ∷ 49 ∷ 32 ∷ 32 ∷ 32 ∷ 32 ∷ 32 ∷ 32 ∷ 32 ∷ 32 ∷ 32 ∷ 54 ∷ 52 ∷ 48 ∷ 53 ∷ 52 ∷ 32 ∷ 32 ∷ 50 ∷ 48 ∷ 51 ∷ 48 ∷ 45 ∷ 48 ∷ 50 ∷ 45 ∷ 49 ∷ 50 ∷ 32 ∷ 32 ∷ 32 ∷ 32 ∷ 51 ∷ 48 ∷ 10 ∷ [])
    -- 2001     12         64056  2030-03-14    29
    ++ (50 ∷ 48 ∷ 48 ∷ 49 ∷ 32 ∷ 32 ∷ 32 ∷ 32 ∷ 32 ∷ 49 ∷ 50 ∷ 32 ∷ 32 ∷ 32 ∷ 32 ∷ 32 ∷ 32 ∷ 32 ∷ 32 ∷ 32 ∷ 54 ∷ 52 ∷ 48 ∷ 53 ∷ 54 ∷ 32 ∷ 32 ∷ 50 ∷ 48 ∷ 51 ∷ 48 ∷ 45 ∷ 48 ∷ 51 ∷ 45 ∷ 49 ∷ 52 ∷ 32 ∷ 32 ∷ 32 ∷ 32 ∷ 50 ∷ 57 ∷ 10 ∷ [])
    -- 2001      1         64034  2030-04-12    30
    ++ (50 ∷ 48 ∷ 48 ∷ 49 ∷ 32 ∷ 32 ∷ 32 ∷ 32 ∷ 32 ∷ 32 ∷ 49 ∷ 32 ∷ 32 ∷ 32 ∷ 32 ∷ 32 ∷ 32 ∷ 32 ∷ 32 ∷ 32 ∷ 54 ∷ 52 ∷ 48 ∷ 51 ∷ 52 ∷ 32 ∷ 32 ∷ 50 ∷ 48 ∷ 51 ∷ 48 ∷ 45 ∷ 48 ∷ 52 ∷ 45 ∷ 49 ∷ 50 ∷ 32 ∷ 32 ∷ 32 ∷ 32 ∷ 51 ∷ 48 ∷ 10 ∷ [])
    -- 2001      2         64036  2030-05-12    29
    ++ (50 ∷ 48 ∷ 48 ∷ 49 ∷ 32 ∷ 32 ∷ 32 ∷ 32 ∷ 32 ∷ 32 ∷ 50 ∷ 32 ∷ 32 ∷ 32 ∷ 32 ∷ 32 ∷ 32 ∷ 32 ∷ 32 ∷ 32 ∷ 54 ∷ 52 ∷ 48 ∷ 51 ∷ 54 ∷ 32 ∷ 32 ∷ 50 ∷ 48 ∷ 51 ∷ 48 ∷ 45 ∷ 48 ∷ 53 ∷ 45 ∷ 49 ∷ 50 ∷ 32 ∷ 32 ∷ 32 ∷ 32 ∷ 50 ∷ 57 ∷ 10 ∷ [])
    -- 2001      3         64038  2030-06-10    30
    ++ (50 ∷ 48 ∷ 48 ∷ 49 ∷ 32 ∷ 32 ∷ 32 ∷ 32 ∷ 32 ∷ 32 ∷ 51 ∷ 32 ∷ 32 ∷ 32 ∷ 32 ∷ 32 ∷ 32 ∷ 32 ∷ 32 ∷ 32 ∷ 54 ∷ 52 ∷ 48 ∷ 51 ∷ 56 ∷ 32 ∷ 32 ∷ 50 ∷ 48 ∷ 51 ∷ 48 ∷ 45 ∷ 48 ∷ 54 ∷ 45 ∷ 49 ∷ 48 ∷ 32 ∷ 32 ∷ 32 ∷ 32 ∷ 51 ∷ 48 ∷ 10 ∷ [])
    -- 2001      4         64040  2030-07-10    29
    ++ (50 ∷ 48 ∷ 48 ∷ 49 ∷ 32 ∷ 32 ∷ 32 ∷ 32 ∷ 32 ∷ 32 ∷ 52 ∷ 32 ∷ 32 ∷ 32 ∷ 32 ∷ 32 ∷ 32 ∷ 32 ∷ 32 ∷ 32 ∷ 54 ∷ 52 ∷ 48 ∷ 52 ∷ 48 ∷ 32 ∷ 32 ∷ 50 ∷ 48 ∷ 51 ∷ 48 ∷ 45 ∷ 48 ∷ 55 ∷ 45 ∷ 49 ∷ 48 ∷ 32 ∷ 32 ∷ 32 ∷ 32 ∷ 50 ∷ 57 ∷ 10 ∷ [])
    -- 2001      5         64042  2030-08-08    30
    ++ (50 ∷ 48 ∷ 48 ∷ 49 ∷ 32 ∷ 32 ∷ 32 ∷ 32 ∷ 32 ∷ 32 ∷ 53 ∷ 32 ∷ 32 ∷ 32 ∷ 32 ∷ 32 ∷ 32 ∷ 32 ∷ 32 ∷ 32 ∷ 54 ∷ 52 ∷ 48 ∷ 52 ∷ 50 ∷ 32 ∷ 32 ∷ 50 ∷ 48 ∷ 51 ∷ 48 ∷ 45 ∷ 48 ∷ 56 ∷ 45 ∷ 48 ∷ 56 ∷ 32 ∷ 32 ∷ 32 ∷ 32 ∷ 51 ∷ 48 ∷ 10 ∷ [])
    -- 2001      6         64044  2030-09-07    29
    ++ (50 ∷ 48 ∷ 48 ∷ 49 ∷ 32 ∷ 32 ∷ 32 ∷ 32 ∷ 32 ∷ 32 ∷ 54 ∷ 32 ∷ 32 ∷ 32 ∷ 32 ∷ 32 ∷ 32 ∷ 32 ∷ 32 ∷ 32 ∷ 54 ∷ 52 ∷ 48 ∷ 52 ∷ 52 ∷ 32 ∷ 32 ∷ 50 ∷ 48 ∷ 51 ∷ 48 ∷ 45 ∷ 48 ∷ 57 ∷ 45 ∷ 48 ∷ 55 ∷ 32 ∷ 32 ∷ 32 ∷ 32 ∷ 50 ∷ 57 ∷ 10 ∷ [])
    -- 2001      7         64046  2030-10-06    30
    ++ (50 ∷ 48 ∷ 48 ∷ 49 ∷ 32 ∷ 32 ∷ 32 ∷ 32 ∷ 32 ∷ 32 ∷ 55 ∷ 32 ∷ 32 ∷ 32 ∷ 32 ∷ 32 ∷ 32 ∷ 32 ∷ 32 ∷ 32 ∷ 54 ∷ 52 ∷ 48 ∷ 52 ∷ 54 ∷ 32 ∷ 32 ∷ 50 ∷ 48 ∷ 51 ∷ 48 ∷ 45 ∷ 49 ∷ 48 ∷ 45 ∷ 48 ∷ 54 ∷ 32 ∷ 32 ∷ 32 ∷ 32 ∷ 51 ∷ 48 ∷ 10 ∷ [])
    -- 2001      8         64048  2030-11-05    29
    ++ (50 ∷ 48 ∷ 48 ∷ 49 ∷ 32 ∷ 32 ∷ 32 ∷ 32 ∷ 32 ∷ 32 ∷ 56 ∷ 32 ∷ 32 ∷ 32 ∷ 32 ∷ 32 ∷ 32 ∷ 32 ∷ 32 ∷ 32 ∷ 54 ∷ 52 ∷ 48 ∷ 52 ∷ 56 ∷ 32 ∷ 32 ∷ 50 ∷ 48 ∷ 51 ∷ 48 ∷ 45 ∷ 49 ∷ 49 ∷ 45 ∷ 48 ∷ 53 ∷ 32 ∷ 32 ∷ 32 ∷ 32 ∷ 50 ∷ 57 ∷ 10 ∷ [])
    -- 2001      9         64050  2030-12-04    30
    ++ (50 ∷ 48 ∷ 48 ∷ 49 ∷ 32 ∷ 32 ∷ 32 ∷ 32 ∷ 32 ∷ 32 ∷ 57 ∷ 32 ∷ 32 ∷ 32 ∷ 32 ∷ 32 ∷ 32 ∷ 32 ∷ 32 ∷ 32 ∷ 54 ∷ 52 ∷ 48 ∷ 53 ∷ 48 ∷ 32 ∷ 32 ∷ 50 ∷ 48 ∷ 51 ∷ 48 ∷ 45 ∷ 49 ∷ 50 ∷ 45 ∷ 48 ∷ 52 ∷ 32 ∷ 32 ∷ 32 ∷ 32 ∷ 51 ∷ 48 ∷ 10 ∷ [])
    -- 2001     10         64052  2031-01-03    29
    ++ (50 ∷ 48 ∷ 48 ∷ 49 ∷ 32 ∷ 32 ∷ 32 ∷ 32 ∷ 32 ∷ 49 ∷ 48 ∷ 32 ∷ 32 ∷ 32 ∷ 32 ∷ 32 ∷ 32 ∷ 32 ∷ 32 ∷ 32 ∷ 54 ∷ 52 ∷ 48 ∷ 53 ∷ 50 ∷ 32 ∷ 32 ∷ 50 ∷ 48 ∷ 51 ∷ 49 ∷ 45 ∷ 48 ∷ 49 ∷ 45 ∷ 48 ∷ 51 ∷ 32 ∷ 32 ∷ 32 ∷ 32 ∷ 50 ∷ 57 ∷ 10 ∷ [])

unfoldable pub examples : List Bool
unfolding floor_div floor_mod every has_date leap_year leap_years_to new_year month_lengths year_or_next year_of months_over date_in_year date_for first_entry next_entry good_entry whole_pairs leap_lawful number_at leap_mark handle handle_at months_before follows_year good_sui leaps_before good_handle good_start good_days good_month good_months good_sui_months whole_suis lawful times numbers_in counts_of content_at content_of file_of line lines text_of text_shown shown
examples =
    -- an ordinary month, with a number of two digits
    -- 1900     11         60822  1899-12-03    29
    same_numbers (line (month (pos 60822) (negsuc 36552) (pos 29))) (49 ∷ 57 ∷ 48 ∷ 48 ∷ 32 ∷ 32 ∷ 32 ∷ 32 ∷ 32 ∷ 49 ∷ 49 ∷ 32 ∷ 32 ∷ 32 ∷ 32 ∷ 32 ∷ 32 ∷ 32 ∷ 32 ∷ 32 ∷ 54 ∷ 48 ∷ 56 ∷ 50 ∷ 50 ∷ 32 ∷ 32 ∷ 49 ∷ 56 ∷ 57 ∷ 57 ∷ 45 ∷ 49 ∷ 50 ∷ 45 ∷ 48 ∷ 51 ∷ 32 ∷ 32 ∷ 32 ∷ 32 ∷ 50 ∷ 57 ∷ 10 ∷ [])
    -- with a number of one digit
    -- 1900      1         60802  1900-01-31    30
    ∷ same_numbers (line (month (pos 60802) (negsuc 36493) (pos 30))) (49 ∷ 57 ∷ 48 ∷ 48 ∷ 32 ∷ 32 ∷ 32 ∷ 32 ∷ 32 ∷ 32 ∷ 49 ∷ 32 ∷ 32 ∷ 32 ∷ 32 ∷ 32 ∷ 32 ∷ 32 ∷ 32 ∷ 32 ∷ 54 ∷ 48 ∷ 56 ∷ 48 ∷ 50 ∷ 32 ∷ 32 ∷ 49 ∷ 57 ∷ 48 ∷ 48 ∷ 45 ∷ 48 ∷ 49 ∷ 45 ∷ 51 ∷ 49 ∷ 32 ∷ 32 ∷ 32 ∷ 32 ∷ 51 ∷ 48 ∷ 10 ∷ [])
    -- a leap month
    -- 1903      5  leap   60907  1903-06-25    29
    ∷ same_numbers (line (month (pos 60907) (negsuc 35253) (pos 29))) (49 ∷ 57 ∷ 48 ∷ 51 ∷ 32 ∷ 32 ∷ 32 ∷ 32 ∷ 32 ∷ 32 ∷ 53 ∷ 32 ∷ 32 ∷ 108 ∷ 101 ∷ 97 ∷ 112 ∷ 32 ∷ 32 ∷ 32 ∷ 54 ∷ 48 ∷ 57 ∷ 48 ∷ 55 ∷ 32 ∷ 32 ∷ 49 ∷ 57 ∷ 48 ∷ 51 ∷ 45 ∷ 48 ∷ 54 ∷ 45 ∷ 50 ∷ 53 ∷ 32 ∷ 32 ∷ 32 ∷ 32 ∷ 50 ∷ 57 ∷ 10 ∷ [])
    -- the smallest handle
    -- 1700      1         54402  1699-12-04    30
    ∷ same_numbers (line (month (pos 54402) (negsuc 109599) (pos 30))) (49 ∷ 55 ∷ 48 ∷ 48 ∷ 32 ∷ 32 ∷ 32 ∷ 32 ∷ 32 ∷ 32 ∷ 49 ∷ 32 ∷ 32 ∷ 32 ∷ 32 ∷ 32 ∷ 32 ∷ 32 ∷ 32 ∷ 32 ∷ 53 ∷ 52 ∷ 52 ∷ 48 ∷ 50 ∷ 32 ∷ 32 ∷ 49 ∷ 54 ∷ 57 ∷ 57 ∷ 45 ∷ 49 ∷ 50 ∷ 45 ∷ 48 ∷ 52 ∷ 32 ∷ 32 ∷ 32 ∷ 32 ∷ 51 ∷ 48 ∷ 10 ∷ [])
    -- the largest handle and the last day
    -- 2500     12  leap   80025  2547-07-04    29
    ∷ same_numbers (line (month (pos 80025) (pos 199972) (pos 29))) (50 ∷ 53 ∷ 48 ∷ 48 ∷ 32 ∷ 32 ∷ 32 ∷ 32 ∷ 32 ∷ 49 ∷ 50 ∷ 32 ∷ 32 ∷ 108 ∷ 101 ∷ 97 ∷ 112 ∷ 32 ∷ 32 ∷ 32 ∷ 56 ∷ 48 ∷ 48 ∷ 50 ∷ 53 ∷ 32 ∷ 32 ∷ 50 ∷ 53 ∷ 52 ∷ 55 ∷ 45 ∷ 48 ∷ 55 ∷ 45 ∷ 48 ∷ 52 ∷ 32 ∷ 32 ∷ 32 ∷ 32 ∷ 50 ∷ 57 ∷ 10 ∷ [])
    -- the whole file, in room for 13 lines and in one byte less
    ∷ is_shown (text_shown file 572) shown_file
    ∷ is_counted (shown file 572) 572
    ∷ is_counted (shown file 100000) 572
    ∷ is_refused (shown file 571) 12
    ∷ is_refused (shown file 0) 12
    -- no lawful file: one byte less, one more, no byte, one changed (a month of 29 days for one of 30); 13 before 12
    ∷ is_refused (shown (take 132 file) 572) 13
    ∷ is_refused (shown (file ++ (0 ∷ [])) 572) 13
    ∷ is_refused (shown [] 572) 13
    ∷ is_refused (shown (set file 33 29) 0) 13
    ∷ []

pub examples_hold : T (all examples)
unfolding examples
examples_hold = tt
