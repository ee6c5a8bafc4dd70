-- What is taken of an input on both sides of its bounds, and 13 for either input: computed facts, checked at once. (What is rebuilt from accepted series is stepped
-- second by second, and run by programs.) Assumes nothing.
use Rattle.std.specs.Prelude.{Bool, false, ◌&&◌, List, [], ◌∷◌, ◌++◌, T, ℤ, pos, negsuc, replicate}
use Rattle.whole.specs.Tests.{is_exactly}
use Rattle.whole.specs.Evaluated.{all, same_words}
use Rattle.refusals.specs.Verdict.{Verdict, answered, refused}
use Rattle.refusals.specs.Evaluated.{is_refused}
use Rattle.words.specs.Words.{words}
use Rattle.clock.specs.Clock.{is_zone, utc8}
use Rattle.clock.specs.Answers.{zone_judged}
use Rattle.inputs.specs.Inputs.{Inputs}
use Rattle.layout.specs.Layout.{section_end, places}
use Rattle.building.specs.Building.{length_kept, all_taken}
use Rattle.almanac.specs.Layout.{counts_of, content_of, file_of}
use Rattle.rebuilt.specs.Rebuild.{given_by, rebuilt_by}
use Rattle.rebuilt_from.specs.RebuiltFrom.{inputs_of_words, inputs_of, inputs_taken, rebuilt_from, rebuilt_from_taken}

-- these inputs are found
abbrev is_found : Verdict Inputs → List ℤ → ℤ → List ℤ → ℤ → List ℤ → Bool
is_found (answered i) leap sun_start sun moon_start moon =
    same_words i.leap leap && (is_exactly sun_start i.sun_start && (same_words i.sun_coefs sun && (is_exactly moon_start i.moon_start && same_words i.moon_coefs moon)))
is_found (refused number segment) leap sun_start sun moon_start moon = false

-- first Y, count, a leap table of one entry, a Sun of one segment, a Moon of none
abbrev asked : ℤ → ℤ → List ℤ
asked year count = year ∷ count ∷ pos 1 ∷ negsuc 364 ∷ pos 32 ∷ pos 1 ∷ pos 7 ∷ replicate 14 (pos 3) ++ pos 0 ∷ pos 9 ∷ []

-- seven words that keep the layout: no leap entry, no segment
abbrev least : List ℤ
least = replicate 7 (pos 0)

unfoldable pub examples : List Bool
unfolding zone_judged is_zone length_kept all_taken inputs_of_words inputs_of inputs_taken words section_end places rebuilt_from rebuilt_from_taken rebuilt_by given_by file_of content_of counts_of
examples =
    -- leap table, Sun and Moon, whatever first Y and count are
    is_found (inputs_of_words (asked (pos 2000) (pos 1))) (negsuc 364 ∷ pos 32 ∷ []) (pos 7) (replicate 14 (pos 3)) (pos 9) []
    ∷ is_found (inputs_of_words (asked (negsuc 9) (pos 129))) (negsuc 364 ∷ pos 32 ∷ []) (pos 7) (replicate 14 (pos 3)) (pos 9) []
    ∷ is_found (inputs_of_words least) [] (pos 0) [] (pos 0) []
    -- too few words, one left over, a negative count of a section
    ∷ is_refused (inputs_of_words []) 13
    ∷ is_refused (inputs_of_words (pos 0 ∷ [])) 13
    ∷ is_refused (inputs_of_words (pos 0 ∷ pos 0 ∷ [])) 13
    ∷ is_refused (inputs_of_words (replicate 6 (pos 0))) 13
    ∷ is_refused (inputs_of_words (replicate 8 (pos 0))) 13
    ∷ is_refused (inputs_of_words (pos 0 ∷ pos 0 ∷ negsuc 0 ∷ replicate 4 (pos 0))) 13
    -- a part of a word, before and behind
    ∷ is_refused (inputs_of (replicate 55 0)) 13
    ∷ is_found (inputs_of (replicate 56 0)) [] (pos 0) [] (pos 0) []
    ∷ is_refused (inputs_of (replicate 57 0)) 13
    -- once taken: of eight words the seven of 56 bytes; a part of a word behind them; seven words, and one too few
    ∷ is_found (inputs_taken (least ++ pos 1 ∷ []) 56) [] (pos 0) [] (pos 0) []
    ∷ is_refused (inputs_taken (least ++ pos 1 ∷ []) 57) 13
    ∷ is_found (inputs_taken least 56) [] (pos 0) [] (pos 0) []
    ∷ is_refused (inputs_taken (replicate 6 (pos 0)) 56) 13
    ∷ is_refused (inputs_taken least 48) 13
    -- 13 for the old input, for the new one, and for an old file that is none
    ∷ is_refused (rebuilt_from_taken [] least 57 least 56 utc8 200 200) 13
    ∷ is_refused (rebuilt_from_taken [] least 56 least 57 utc8 200 200) 13
    ∷ is_refused (rebuilt_from_taken [] least 56 least 56 utc8 200 200) 13
    ∷ is_refused (rebuilt_from [] (replicate 57 0) (replicate 56 0) utc8 200 200) 13
    ∷ is_refused (rebuilt_from [] (replicate 56 0) (replicate 57 0) utc8 200 200) 13
    ∷ is_refused (rebuilt_from [] (replicate 56 0) (replicate 56 0) utc8 200 200) 13
    -- 15 before 13 for either input and for the old file; zones from -720 to 840
    ∷ is_refused (rebuilt_from_taken [] least 57 least 57 (pos 841) 200 200) 15
    ∷ is_refused (rebuilt_from_taken [] least 56 least 56 (pos 841) 200 200) 15
    ∷ is_refused (rebuilt_from_taken [] least 56 least 56 (pos 840) 200 200) 13
    ∷ is_refused (rebuilt_from [] (replicate 57 0) (replicate 56 0) (negsuc 720) 200 200) 15
    ∷ is_refused (rebuilt_from [] (replicate 56 0) (replicate 56 0) (negsuc 719) 200 200) 13
    ∷ []

pub examples_hold : T (all examples)
unfolding examples
examples_hold = tt
