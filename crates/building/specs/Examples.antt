-- The input of the build program on both sides of its bounds, and whose series is refused: computed facts, checked at once. (What is built from accepted series is
-- stepped second by second, and run by programs.) Assumes nothing.
use Rattle.std.specs.Prelude.{Bool, true, false, not, List, [], ◌∷◌, ◌++◌, T, ℤ, pos, negsuc, replicate, Option, Some, None}
use Rattle.whole.specs.Floor.{floor_div}
use Rattle.whole.specs.Below.{every}
use Rattle.whole.specs.Evaluated.{all}
use Rattle.refusals.specs.Search.{first_bad}
use Rattle.refusals.specs.Evaluated.{is_refused, is_refused_at}
use Rattle.words.specs.Words.{words}
use Rattle.clock.specs.Leap.{leap_lawful, whole_pairs, first_entry, next_entry, good_entry}
use Rattle.clock.specs.Clock.{is_zone, utc8}
use Rattle.clock.specs.Answers.{zone_judged, leap_judged}
use Rattle.chebyshev.specs.Polynomials.{P}
use Rattle.chebyshev.specs.Segment.{sum, value, slope}
use Rattle.series.specs.declared.Body.{Body}
use Rattle.series.specs.declared.Body.TheVariants.{Sun, Moon}
use Rattle.series.specs.Acceptance.{series_judged}
use Rattle.inputs.specs.Inputs.{inputs_judged, judged_in}
use Rattle.layout.specs.Layout.{section_end, places}
use Rattle.built.specs.Build.{built_by}
use Rattle.building.specs.Building.{built_from_rest, built_from_words, length_kept, built_from, all_taken, built_from_taken}
use Rattle.building.specs.Refused.{refused_of, refused_in_rest, refused_in_words, refused_series, refused_in_taken}

abbrev is_sun : Option Body → Bool
is_sun (Some Sun) = true
is_sun (Some Moon) = false
is_sun None = false

abbrev is_moon : Option Body → Bool
is_moon (Some Sun) = false
is_moon (Some Moon) = true
is_moon None = false

abbrev is_neither : Option Body → Bool
is_neither (Some Sun) = false
is_neither (Some Moon) = false
is_neither None = true

-- a series of one segment with c1 alone
abbrev one : ℤ → List ℤ
one c1 = pos 1 ∷ pos 0 ∷ pos 0 ∷ c1 ∷ replicate 12 (pos 0)

-- first Y, count, a leap table of one entry, Sun and Moon
abbrev asked : ℤ → ℤ → ℤ → List ℤ
asked offset sunRise moonRise = pos 2000 ∷ pos 1 ∷ pos 1 ∷ pos 0 ∷ offset ∷ (one sunRise ++ one moonRise)

unfoldable pub examples : List Bool
unfolding zone_judged is_zone judged_in length_kept all_taken built_from_taken refused_in_taken built_from built_from_words built_from_rest built_by refused_of refused_in_rest refused_in_words refused_series words section_end places inputs_judged leap_judged leap_lawful whole_pairs first_entry next_entry good_entry every series_judged first_bad value slope sum P floor_div
examples =
    -- too few words: none, one, and two with nothing behind them; seven keep the layout, and their leap table of no entry is 1
    is_refused (built_from_words [] utc8 200) 13
    ∷ is_refused (built_from_words (pos 2000 ∷ []) utc8 200) 13
    ∷ is_refused (built_from_words (pos 2000 ∷ pos 1 ∷ []) utc8 200) 13
    ∷ is_refused (built_from_words (pos 2000 ∷ pos 1 ∷ replicate 4 (pos 0)) utc8 200) 13
    ∷ is_refused (built_from_words (pos 2000 ∷ pos 1 ∷ replicate 5 (pos 0)) utc8 200) 1
    ∷ is_refused (built_from_words (pos 2000 ∷ pos 1 ∷ replicate 6 (pos 0)) utc8 200) 13
    -- the longest input, one byte less, one word more
    ∷ length_kept 2017080
    ∷ not (length_kept 2017079)
    ∷ not (length_kept 2017088)
    -- a part of a word, before and behind; a negative count of a section
    ∷ is_refused (built_from (replicate 55 0) utc8 200) 13
    ∷ is_refused (built_from (replicate 56 0) utc8 200) 1
    ∷ is_refused (built_from (replicate 57 0) utc8 200) 13
    ∷ is_refused (built_from_words (pos 2000 ∷ pos 1 ∷ negsuc 0 ∷ replicate 4 (pos 0)) utc8 200) 13
    -- 15 before 13, and before 1; zones from -720 to 840
    ∷ is_refused (built_from (replicate 55 0) (pos 841) 200) 15
    ∷ is_refused (built_from (replicate 55 0) (pos 840) 200) 13
    ∷ is_refused (built_from (replicate 56 0) (negsuc 720) 200) 15
    ∷ is_refused (built_from (replicate 56 0) (negsuc 719) 200) 1
    ∷ is_refused (built_from_taken (pos 2000 ∷ pos 1 ∷ replicate 5 (pos 0)) 56 (pos 841) 200) 15
    ∷ is_refused (built_from_taken (pos 2000 ∷ pos 1 ∷ replicate 5 (pos 0)) 57 (pos 841) 200) 15
    -- the Sun's 4 before the Moon's 3; the Moon's 3 where the Sun is accepted
    ∷ is_refused_at (built_from_words (asked (pos 32) (pos 138239999) (pos 4000000001)) utc8 200) 4 0
    ∷ is_sun (refused_in_words (asked (pos 32) (pos 138239999) (pos 4000000001)))
    ∷ is_refused_at (built_from_words (asked (pos 32) (pos 552960000) (pos 4000000001)) utc8 200) 3 0
    ∷ is_moon (refused_in_words (asked (pos 32) (pos 552960000) (pos 4000000001)))
    -- neither where both are accepted, where the leap table is refused, where the layout is broken
    ∷ is_neither (refused_in_words (asked (pos 32) (pos 552960000) (pos 864000000)))
    ∷ is_neither (refused_in_words (asked (pos 1001) (pos 138239999) (pos 4000000001)))
    ∷ is_neither (refused_in_words (asked (pos 32) (pos 138239999) (pos 4000000001) ++ pos 0 ∷ []))
    ∷ is_neither (refused_in_words (pos 2000 ∷ []))
    ∷ is_neither (refused_series (replicate 57 0) utc8)
    -- once taken: of eight words the seven of 56 bytes; a part of a word behind them; seven words, and one too few
    ∷ is_refused (built_from_taken (pos 2000 ∷ pos 1 ∷ replicate 6 (pos 0)) 56 utc8 200) 1
    ∷ is_refused (built_from_taken (pos 2000 ∷ pos 1 ∷ replicate 6 (pos 0)) 57 utc8 200) 13
    ∷ is_refused (built_from_taken (pos 2000 ∷ pos 1 ∷ replicate 5 (pos 0)) 56 utc8 200) 1
    ∷ is_refused (built_from_taken (pos 2000 ∷ pos 1 ∷ replicate 4 (pos 0)) 56 utc8 200) 13
    ∷ is_sun (refused_in_taken (asked (pos 32) (pos 138239999) (pos 4000000001)) 296 utc8)
    ∷ is_moon (refused_in_taken (asked (pos 32) (pos 552960000) (pos 4000000001)) 296 utc8)
    ∷ is_neither (refused_in_taken (asked (pos 32) (pos 138239999) (pos 4000000001)) 295 utc8)
    ∷ is_neither (refused_in_taken (asked (pos 32) (pos 138239999) (pos 4000000001)) 304 utc8)
    -- where the zone is none, neither is to blame
    ∷ is_neither (refused_in_taken (asked (pos 32) (pos 138239999) (pos 4000000001)) 296 (pos 841))
    ∷ is_neither (refused_series (replicate 57 0) (pos 841))
    ∷ []

pub examples_hold : T (all examples)
unfolding examples
examples_hold = tt
