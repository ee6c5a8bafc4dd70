-- Worked lines, byte by byte, each a computed fact, and all of them checked at once: kept and made, the first and the last year there may be, a whole file in the least
-- room and in one byte less, and 13 before 12. What is listed is written out as bytes, not taken from the definitions. Assumes nothing.
use Rattle.std.specs.Prelude.{Bool, false, not, List, [], ◌∷◌, ◌++◌, ℕ, T, pos, set, take}
use Rattle.whole.specs.Floor.{floor_div, floor_mod}
use Rattle.whole.specs.Below.{every}
use Rattle.whole.specs.Evaluated.{all, same_numbers}
use Rattle.refusals.specs.Verdict.{Verdict, answered, refused}
use Rattle.refusals.specs.Evaluated.{is_refused}
use Rattle.dates.specs.Answers.{has_date}
use Rattle.clock.specs.Leap.{first_entry, next_entry, good_entry, whole_pairs, leap_lawful}
use Rattle.months.specs.Handles.{number_at, leap_mark, handle, handle_at}
use Rattle.content.specs.Content.{months_before, follows_year, good_sui, leaps_before, good_handle, good_start, good_days, good_month, good_months, good_sui_months, whole_suis, lawful}
use Rattle.almanac.specs.Fields.{times, numbers_in}
use Rattle.almanac.specs.Layout.{counts_of, content_at, content_of, file_of}
use Rattle.kept_years.specs.KeptYears.{is_among, row, line, lines, lines_of}
use Rattle.kept_years.specs.Answers.{lines_listed}

-- listed as these bytes
abbrev is_listed : Verdict (List ℕ) → List ℕ → Bool
is_listed (answered bytes) expected = same_numbers bytes expected
is_listed (refused number segment) expected = false

-- the file: one leap entry, the sui 2001, twelve months
abbrev file : List ℕ
file =
    (1 ∷ 0 ∷ 0 ∷ 0 ∷ 0 ∷ 0 ∷ 0 ∷ 0 ∷ 10 ∷ 0 ∷ 0 ∷ 0 ∷ [])
    ++ (1 ∷ 0 ∷ 0 ∷ 0 ∷ 209 ∷ 7 ∷ 0 ∷ 0 ∷ 12 ∷ [])
    ++ (12 ∷ 0 ∷ 0 ∷ 0 ∷ [])
    ++ (54 ∷ 250 ∷ 0 ∷ 0 ∷ 248 ∷ 42 ∷ 0 ∷ 0 ∷ 30 ∷ [])
    ++ (56 ∷ 250 ∷ 0 ∷ 0 ∷ 22 ∷ 43 ∷ 0 ∷ 0 ∷ 29 ∷ [])
    ++ (34 ∷ 250 ∷ 0 ∷ 0 ∷ 51 ∷ 43 ∷ 0 ∷ 0 ∷ 30 ∷ [])
    ++ (36 ∷ 250 ∷ 0 ∷ 0 ∷ 81 ∷ 43 ∷ 0 ∷ 0 ∷ 29 ∷ [])
    ++ (38 ∷ 250 ∷ 0 ∷ 0 ∷ 110 ∷ 43 ∷ 0 ∷ 0 ∷ 30 ∷ [])
    ++ (40 ∷ 250 ∷ 0 ∷ 0 ∷ 140 ∷ 43 ∷ 0 ∷ 0 ∷ 29 ∷ [])
    ++ (42 ∷ 250 ∷ 0 ∷ 0 ∷ 169 ∷ 43 ∷ 0 ∷ 0 ∷ 30 ∷ [])
    ++ (44 ∷ 250 ∷ 0 ∷ 0 ∷ 199 ∷ 43 ∷ 0 ∷ 0 ∷ 29 ∷ [])
    ++ (46 ∷ 250 ∷ 0 ∷ 0 ∷ 228 ∷ 43 ∷ 0 ∷ 0 ∷ 30 ∷ [])
    ++ (48 ∷ 250 ∷ 0 ∷ 0 ∷ 2 ∷ 44 ∷ 0 ∷ 0 ∷ 29 ∷ [])
    ++ (50 ∷ 250 ∷ 0 ∷ 0 ∷ 31 ∷ 44 ∷ 0 ∷ 0 ∷ 30 ∷ [])
    ++ (52 ∷ 250 ∷ 0 ∷ 0 ∷ 61 ∷ 44 ∷ 0 ∷ 0 ∷ 29 ∷ [])

unfoldable pub examples : List Bool
unfolding floor_div floor_mod every has_date first_entry next_entry good_entry whole_pairs leap_lawful number_at leap_mark handle handle_at months_before follows_year good_sui leaps_before good_handle good_start good_days good_month good_months good_sui_months whole_suis lawful times numbers_in counts_of content_at content_of file_of is_among row line lines lines_of lines_listed
examples =
    -- among none, the first, the last; its neighbours
    not (is_among (pos 1985) [])
    ∷ is_among (pos 1985) (pos 1985 ∷ pos 1986 ∷ [])
    ∷ is_among (pos 1986) (pos 1985 ∷ pos 1986 ∷ [])
    ∷ not (is_among (pos 1984) (pos 1985 ∷ pos 1986 ∷ []))
    ∷ not (is_among (pos 1987) (pos 1985 ∷ pos 1986 ∷ []))
    -- 1700 kept
    ∷ same_numbers (line (pos 1700) (pos 1700 ∷ [])) (49 ∷ 55 ∷ 48 ∷ 48 ∷ 32 ∷ 107 ∷ 101 ∷ 112 ∷ 116 ∷ 10 ∷ [])
    -- 2500 made
    ∷ same_numbers (line (pos 2500) (pos 1700 ∷ [])) (50 ∷ 53 ∷ 48 ∷ 48 ∷ 32 ∷ 109 ∷ 97 ∷ 100 ∷ 101 ∷ 10 ∷ [])
    -- of three suis, 12, 13 and 12 months, the second is kept, and a year that is none of theirs
    -- 1985 made
    -- 1986 kept
    -- 1987 made
    ∷ same_numbers (lines (pos 1985 ∷ pos 12 ∷ pos 1986 ∷ pos 13 ∷ pos 1987 ∷ pos 12 ∷ []) (pos 12 ∷ pos 1986 ∷ []) 3)
    ((49 ∷ 57 ∷ 56 ∷ 53 ∷ 32 ∷ 109 ∷ 97 ∷ 100 ∷ 101 ∷ 10 ∷ []) ++ (49 ∷ 57 ∷ 56 ∷ 54 ∷ 32 ∷ 107 ∷ 101 ∷ 112 ∷ 116 ∷ 10 ∷ []) ++ (49 ∷ 57 ∷ 56 ∷ 55 ∷ 32 ∷ 109 ∷ 97 ∷ 100 ∷ 101 ∷ 10 ∷ []))
    -- 2001 kept, or made: the whole file, in its room, in more, and in one byte less
    ∷ is_listed (lines_listed file (pos 2001 ∷ []) 10) (50 ∷ 48 ∷ 48 ∷ 49 ∷ 32 ∷ 107 ∷ 101 ∷ 112 ∷ 116 ∷ 10 ∷ [])
    ∷ is_listed (lines_listed file [] 1280) (50 ∷ 48 ∷ 48 ∷ 49 ∷ 32 ∷ 109 ∷ 97 ∷ 100 ∷ 101 ∷ 10 ∷ [])
    ∷ is_refused (lines_listed file (pos 2001 ∷ []) 9) 12
    ∷ is_refused (lines_listed file (pos 2001 ∷ []) 0) 12
    -- no lawful file: one byte less, one more, no byte, one changed (a month of 29 days for one of 30); 13 before 12
    ∷ is_refused (lines_listed (take 132 file) [] 10) 13
    ∷ is_refused (lines_listed (file ++ (0 ∷ [])) [] 10) 13
    ∷ is_refused (lines_listed [] [] 10) 13
    ∷ is_refused (lines_listed (set file 33 29) [] 0) 13
    ∷ []

pub examples_hold : T (all examples)
unfolding examples
examples_hold = tt
