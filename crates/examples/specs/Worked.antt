-- Document 01's worked listing ("The listing program"), whole: from the bytes of its input to its three lines; and 7 for the same series under a later leap
-- table. Assumes nothing.
use Rattle.std.specs.Prelude.{◌≡◌, refl, ◌||◌, List, [], ◌∷◌, ◌++◌, ℕ, ℤ, pos}
use Rattle.std.proofs.Common.{ap, ap₂, ◌∙◌}
use Rattle.whole.specs.Below.{every, any, last_below}
use Rattle.whole.specs.Floor.{floor_div, floor_mod}
use Rattle.refusals.specs.Verdict.{Verdict, answered, refused, accepted, refuse_when, ◌before◌}
use Rattle.refusals.specs.Search.{first_bad}
use Rattle.words.specs.Words.{words, bytes8}
use Rattle.text.specs.Text.{line, date, time}
use Rattle.dates.specs.Calendar.{leap_year, leap_years_to, new_year, month_lengths, year_or_next, year_of, months_over, date_in_year, date_for}
use Rattle.clock.specs.Leap.{first_entry, next_entry, good_entry, whole_pairs, leap_lawful, holds_from, holds, entry_used, inserted_by, inserted}
use Rattle.clock.specs.Clock.{is_zone, utc8, tai, early, local_milli, reading, read_off, day_of_milli, second_said, shown_by, shown_in}
use Rattle.clock.specs.Answers.{zone_judged, leap_judged}
use Rattle.clock.specs.Examples.{table}
use Rattle.chebyshev.specs.Polynomials.{P}
use Rattle.chebyshev.specs.Segment.{sum, value, slope}
use Rattle.series.specs.Acceptance.{series_judged}
use Rattle.series.specs.Examples.{sun, moon}
use Rattle.marks.specs.Marks.{Mark}
use Rattle.inputs.specs.Inputs.{Inputs, inputs, any_early, inputs_judged}
use Rattle.layout.specs.Layout.{section_end, places}
use Rattle.listed.specs.Listing.{line_of, lines_by, lines_of, listed, listed_words, listed_bytes, printed, listing}
use Rattle.examples.specs.Listed.{sun_lists, moon_lists}

-- the input: leap (-365, 32), a segment of the Sun and one of the Moon, each with its count and start
abbrev input_words : List ℤ
input_words = (pos 1 ∷ table) ++ (pos 1 ∷ sun.start ∷ sun.coefs) ++ (pos 1 ∷ moon.start ∷ moon.coefs)

abbrev in_bytes : List ℤ → List ℕ
in_bytes [] = []
in_bytes (z ∷ zs) = bytes8 z ++ in_bytes zs

abbrev under : List ℤ → Inputs
under leap = inputs leap sun.start sun.coefs moon.start moon.coefs

-- how it is judged, by the marks that are listed
abbrev judged_by : List ℤ → List Mark → List Mark → Verdict (Unit {0})
judged_by leap suns moons = leap_judged leap before series_judged sun before series_judged moon before refuse_when (any_early leap suns || any_early leap moons) 7

all_good : inputs_judged (under table) ≡ accepted
unfolding inputs_judged any_early early tai holds_from holds leap_judged leap_lawful whole_pairs first_entry next_entry good_entry every series_judged first_bad value slope sum P floor_div
all_good = ap₂ (judged_by table) sun_lists moon_lists

-- S 1 2000-01-16 22:58:55.816
-- S 2 2000-02-01 13:58:55.816
-- M 1 2000-01-01 07:58:56.816
abbrev pub three_lines : List (List ℕ)
three_lines =
    line 83 1 (date 2000 1 16) (time 22 58 55 816)
    ∷ line 83 2 (date 2000 2 1) (time 13 58 55 816)
    ∷ line 77 1 (date 2000 1 1) (time 7 58 56 816)
    ∷ []

lines_are : lines_of (under table) utc8 ≡ three_lines
unfolding line_of leap_year leap_years_to new_year month_lengths year_or_next year_of months_over date_in_year date_for floor_div floor_mod holds_from holds last_below entry_used any inserted_by inserted tai local_milli reading read_off day_of_milli second_said shown_by shown_in
lines_are = ap₂ (lines_by table utc8) sun_lists moon_lists

is_listed_lem : listed (under table) utc8 ≡ answered three_lines
unfolding listed
is_listed_lem = ap₂ (λ (v : Verdict (Unit {0})) (l : List (List ℕ)). v before answered l) all_good lines_are

bytes_are : listed_bytes (in_bytes input_words) utc8 ≡ listed (under table) utc8
unfolding listed_bytes zone_judged is_zone listed_words words places section_end
bytes_are = refl

pub worked_listing : listing (in_bytes input_words) utc8 ≡ three_lines
worked_listing = ap printed (bytes_are ∙ is_listed_lem)

-- a table that begins on day 0 is later than the Moon's mark, at second 1, and no other
pub worked_early : inputs_judged (under (pos 0 ∷ pos 32 ∷ [])) ≡ refused 7 0
unfolding inputs_judged any_early early tai holds_from holds leap_judged leap_lawful whole_pairs first_entry next_entry good_entry every series_judged first_bad value slope sum P floor_div
worked_early = ap₂ (judged_by (pos 0 ∷ pos 32 ∷ [])) sun_lists moon_lists
