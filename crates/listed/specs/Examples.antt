-- The layout of the input on both sides of its bounds, 13 before the other refusals, the line of a mark with a negative index, and the Sun's lines before the Moon's:
-- computed facts, checked at once. (The marks of a listing are stepped second by second, and run by programs.) Assumes nothing.
use Rattle.std.specs.Prelude.{Bool, true, false, ◌&&◌, List, [], ◌∷◌, ◌++◌, ℕ, zero, suc, T, eqb, ℤ, pos, negsuc, replicate}
use Rattle.refusals.specs.Verdict.{Verdict, answered, refused, ◌then◌}
use Rattle.refusals.specs.Evaluated.{is_refused}
use Rattle.whole.specs.Evaluated.{same, all, same_numbers, same_words}
use Rattle.whole.specs.Floor.{floor_div, floor_mod}
use Rattle.whole.specs.Below.{every, any, last_below}
use Rattle.words.specs.Words.{words}
use Rattle.text.specs.Text.{line, date, time}
use Rattle.dates.specs.Calendar.{leap_year, leap_years_to, new_year, month_lengths, year_or_next, year_of, months_over, date_in_year, date_for}
use Rattle.clock.specs.Leap.{leap_lawful, whole_pairs, first_entry, next_entry, good_entry, holds_from, holds, entry_used, inserted_by, inserted}
use Rattle.clock.specs.Clock.{is_zone, utc8, tai, local_milli, reading, read_off, day_of_milli, second_said, shown_by, shown_in}
use Rattle.clock.specs.Answers.{zone_judged, leap_judged}
use Rattle.series.specs.declared.Body.TheVariants.{Sun, Moon}
use Rattle.marks.specs.Marks.{Mark}
use Rattle.inputs.specs.Inputs.{Inputs, inputs_judged}
use Rattle.layout.specs.declared.inner.Places.{Places}
use Rattle.layout.specs.Layout.{section_end, places, inputs_at}
use Rattle.listed.specs.Listing.{line_of, lines_by, listed, listed_words, listed_bytes}

abbrev is_places : ℕ → ℕ → Verdict Places → Bool
is_places sun moon (answered p) = eqb p.sun sun && eqb p.moon moon
is_places sun moon (refused number segment) = false

-- n words, counted from k on
abbrev counted : ℕ → ℕ → List ℤ
counted k zero = []
counted k (suc n) = pos k ∷ counted (suc k) n

-- an entry, a segment of the Sun and one of the Moon, each word another
abbrev given : List ℤ
given = pos 1 ∷ counted 11 2 ++ pos 1 ∷ pos 20 ∷ counted 21 14 ++ pos 1 ∷ pos 40 ∷ counted 41 14

-- which of them are which
abbrev is_inputs : Verdict Inputs → Bool
is_inputs (answered i) =
    same_words i.leap (counted 11 2)
    && (same i.sun_start (pos 20)
    && (same_words i.sun_coefs (counted 21 14)
    && (same i.moon_start (pos 40)
    && same_words i.moon_coefs (counted 41 14))))
is_inputs (refused number segment) = false

-- one segment of zeros, with its count and start
abbrev one : List ℤ
one = pos 1 ∷ pos 0 ∷ replicate 14 (pos 0)

abbrev leap : List ℤ
leap = pos 1 ∷ pos 0 ∷ pos 32 ∷ []

-- a table whose offset is out of range
abbrev bad_leap : List ℤ
bad_leap = pos 1 ∷ pos 0 ∷ pos 1001 ∷ []

-- two lists of lines
abbrev same_lines : List (List ℕ) → List (List ℕ) → Bool
same_lines [] [] = true
same_lines [] (l ∷ ls) = false
same_lines (k ∷ ks) [] = false
same_lines (k ∷ ks) (l ∷ ls) = same_numbers k l && same_lines ks ls

-- mark -1, in the last second of 1999
abbrev minus_one : Mark
minus_one = record { index = negsuc 0; second = negsuc 28735 }

abbrev table : List ℤ
table = negsuc 364 ∷ pos 32 ∷ []

-- a line of that second, by its letter and its index
abbrev line_then : ℕ → ℕ → List ℕ
line_then letter index = line letter index (date 1999 12 31) (time 23 59 59 816)

-- a second is inserted before 2006-01-01, and a new moon lies inside it
abbrev longer : List ℤ
longer = negsuc 364 ∷ pos 32 ∷ pos 2192 ∷ pos 33 ∷ []

abbrev inside : Mark
inside = record { index = pos 0; second = pos 189388865 }

unfoldable pub examples : List Bool
unfolding section_end places line_of listed listed_words listed_bytes words inputs_judged leap_judged leap_lawful whole_pairs first_entry next_entry good_entry every zone_judged is_zone leap_year leap_years_to new_year month_lengths year_or_next year_of months_over date_in_year date_for floor_div floor_mod holds_from holds last_below entry_used any inserted_by inserted tai local_milli reading read_off day_of_milli second_said shown_by shown_in
examples =
    -- where the sections stand; a word less, a word more
    is_places 3 19 (places (leap ++ one ++ one))
    ∷ is_refused (places (leap ++ one ++ pos 1 ∷ pos 0 ∷ replicate 13 (pos 0))) 13
    ∷ is_refused (places (leap ++ one ++ one ++ pos 0 ∷ [])) 13
    -- which words are which: leap table, then the Sun's start and coefficients, then the Moon's
    ∷ is_inputs (places given then λ p. answered (inputs_at given p))
    -- no entry and no segment keep the layout; a negative count does not
    ∷ is_places 1 3 (places (pos 0 ∷ pos 0 ∷ pos 0 ∷ pos 0 ∷ pos 0 ∷ []))
    ∷ is_refused (places (negsuc 0 ∷ pos 0 ∷ pos 0 ∷ pos 0 ∷ pos 0 ∷ [])) 13
    ∷ is_refused (places (pos 0 ∷ negsuc 0 ∷ pos 0 ∷ pos 0 ∷ pos 0 ∷ [])) 13
    ∷ is_refused (places (pos 0 ∷ pos 0 ∷ pos 0 ∷ negsuc 0 ∷ pos 0 ∷ [])) 13
    ∷ is_refused (places []) 13
    -- 13 before 1, and 1 where the layout is kept
    ∷ is_refused (listed_words (bad_leap ++ one ++ one ++ pos 0 ∷ []) utc8) 13
    ∷ is_refused (listed_words (bad_leap ++ one ++ one) utc8) 1
    -- a part of a word; no words
    ∷ is_refused (listed_bytes (replicate 41 0) utc8) 13
    ∷ is_refused (listed_bytes (replicate 40 0) utc8) 1
    ∷ is_refused (listed_bytes [] utc8) 13
    -- 15 before 13 and before 1, on both sides of the zones
    ∷ is_refused (listed_bytes [] (pos 841)) 15
    ∷ is_refused (listed_bytes [] (pos 840)) 13
    ∷ is_refused (listed_bytes (replicate 40 0) (negsuc 720)) 15
    ∷ is_refused (listed_bytes (replicate 40 0) (negsuc 719)) 1
    -- S 23 and M 3: mark -1 is the last of a circle
    ∷ same_numbers (line_of Sun table utc8 minus_one) (line_then 83 23)
    ∷ same_numbers (line_of Moon table utc8 minus_one) (line_then 77 3)
    -- in UTC+7 an hour less is shown
    ∷ same_numbers (line_of Sun table (pos 420) minus_one) (line 83 23 (date 1999 12 31) (time 22 59 59 816))
    -- an inserted second is the sixtieth
    ∷ same_numbers (line_of Moon longer utc8 inside) (line 77 0 (date 2006 1 1) (time 7 59 60 816))
    -- all of the Sun's lines, then the Moon's
    ∷ same_lines (lines_by table utc8 (minus_one ∷ minus_one ∷ []) (minus_one ∷ [])) (line_then 83 23 ∷ line_then 83 23 ∷ line_then 77 3 ∷ [])
    ∷ []

pub examples_hold : T (all examples)
unfolding examples
examples_hold = tt
