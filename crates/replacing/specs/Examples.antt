-- Replacing a segment on both sides of each bound and in the order of its refusals, each a computed fact, and all of them checked at once. The series are those of
-- the examples of `series`. Assumes nothing.
use Rattle.std.specs.Prelude.{Bool, false, List, [], ◌∷◌, ◌++◌, ℕ, T, ℤ, pos, neg_ℤ, replicate, take}
use Rattle.whole.specs.Evaluated.{all, same_words}
use Rattle.whole.specs.Floor.{floor_div}
use Rattle.refusals.specs.Verdict.{Verdict, answered, refused}
use Rattle.refusals.specs.Search.{first_bad}
use Rattle.refusals.specs.Evaluated.{is_refused, is_refused_at, is_accepted}
use Rattle.chebyshev.specs.Polynomials.{P}
use Rattle.chebyshev.specs.Segment.{sum, value, slope}
use Rattle.series.specs.declared.Body.TheVariants.{Sun}
use Rattle.series.specs.Series.{Series, series}
use Rattle.series.specs.Acceptance.{series_judged}
use Rattle.series.specs.Examples.{three, sun_segment, sun, moon, joined}
use Rattle.replacing.specs.Replaced.{replaced, segment_replaced, segment_checked, held_after}

-- ---- how the examples are written
-- so many words alike
abbrev words : ℕ → ℕ → List ℤ
words n w = replicate n (pos w)

-- a segment that goes as fast as the Sun's of the examples, by its c0
abbrev even : ℕ → List ℤ
even c0 = three (pos c0) (pos 552960000) (pos 0)

-- a Sun of these coefficients
abbrev sun_of : List ℤ → Series
sun_of coefs = series Sun (pos 0) coefs

-- a start that is out of range
abbrev late : Series
late = series Sun (pos 10000000001) sun_segment

abbrev is_now : Verdict (List ℤ) → List ℤ → Bool
is_now (answered new) coefs = same_words new coefs
is_now (refused number segment) coefs = false

unfoldable pub examples : List Bool
unfolding series_judged value slope sum P floor_div first_bad segment_replaced
examples =
    -- the part stands where segment k stood, and all else stays: the first of three, the middle one, the last, and a word behind it
    same_words (replaced (words 14 1 ++ words 14 2 ++ words 14 3) 0 (words 14 9)) (words 14 9 ++ words 14 2 ++ words 14 3)
    ∷ same_words (replaced (words 14 1 ++ words 14 2 ++ words 14 3) 1 (words 14 9)) (words 14 1 ++ words 14 9 ++ words 14 3)
    ∷ same_words (replaced (words 14 1 ++ words 14 2 ++ words 15 3) 2 (words 14 9)) (words 14 1 ++ words 14 2 ++ words 14 9 ++ words 1 3)
    -- a segment by itself, and by another
    ∷ is_now (segment_replaced (joined 1658880000) 1 (even 1658880000)) (sun_segment ++ even 1658880000)
    ∷ is_now (segment_replaced (joined 1658880000) 1 (even 1658880100)) (sun_segment ++ even 1658880100)
    ∷ is_now (segment_replaced moon 0 (three (pos 5) (pos 864000000) (pos 0))) (three (pos 5) (pos 864000000) (pos 0))
    -- 6 from the number of segments on
    ∷ is_accepted (segment_replaced sun 0 sun_segment)
    ∷ is_refused (segment_replaced sun 1 sun_segment) 6
    ∷ is_refused (segment_replaced (joined 1658880000) 2 (even 1658880000)) 6
    ∷ is_refused (segment_replaced sun 18446744073709551615 sun_segment) 6
    -- no segment: no word, 13 words; 15 have one, and break 2
    ∷ is_refused (segment_replaced (sun_of []) 0 sun_segment) 6
    ∷ is_refused (segment_replaced (sun_of (take 13 sun_segment)) 0 sun_segment) 6
    ∷ is_refused (segment_replaced (sun_of (sun_segment ++ words 1 0)) 0 sun_segment) 2
    -- 3 and 4 of the part, at its own segment
    ∷ is_accepted (segment_replaced sun 0 (three (pos 0) (pos 4000000000) (pos 0)))
    ∷ is_refused_at (segment_replaced sun 0 (three (pos 0) (pos 4000000001) (pos 0))) 3 0
    ∷ is_refused_at (segment_replaced (joined 1658880000) 1 (three (pos 1658880000) (pos 552960000) (neg_ℤ (pos 4000000001)))) 3 1
    ∷ is_accepted (segment_replaced sun 0 (three (pos 0) (pos 138240000) (pos 0)))
    ∷ is_refused_at (segment_replaced sun 0 (three (pos 0) (pos 138239999) (pos 0))) 4 0
    ∷ is_accepted (segment_replaced moon 0 (three (pos 0) (pos 17280000) (pos 0)))
    ∷ is_refused_at (segment_replaced moon 0 (three (pos 0) (pos 17279999) (pos 0))) 4 0
    -- 5 of its joints: 200 and 199 with the segment before it, and with the one behind it, which is the later
    ∷ is_accepted (segment_replaced (joined 1658880000) 1 (even 1658879800))
    ∷ is_refused_at (segment_replaced (joined 1658880000) 1 (even 1658879799)) 5 1
    ∷ is_accepted (segment_replaced (joined 1658880000) 0 (even 552960200))
    ∷ is_refused_at (segment_replaced (joined 1658880000) 0 (even 552960201)) 5 1
    -- the new series is judged, and not the old: a part may mend a series, and one that is bad elsewhere stays refused
    ∷ is_now (segment_replaced (joined 1658879000) 1 (even 1658880000)) (sun_segment ++ even 1658880000)
    ∷ is_refused_at (segment_replaced (joined 1658879000) 0 sun_segment) 5 1
    ∷ is_refused (segment_replaced late 0 sun_segment) 2
    -- 6 before 2, by a word too many and by the start; 6 before 3; 2 before 3
    ∷ is_refused (segment_replaced (sun_of (sun_segment ++ words 1 0)) 1 sun_segment) 6
    ∷ is_refused (segment_replaced late 1 sun_segment) 6
    ∷ is_refused (segment_replaced sun 1 (three (pos 0) (pos 4000000001) (pos 0))) 6
    ∷ is_refused (segment_replaced late 0 (three (pos 0) (pos 4000000001) (pos 0))) 2
    -- what is returned, and what the lent coefficients are
    ∷ is_accepted (segment_checked (joined 1658880000) 1 (even 1658880100))
    ∷ is_refused_at (segment_checked (joined 1658880000) 1 (even 1658879799)) 5 1
    ∷ same_words (held_after (segment_replaced (joined 1658880000) 1 (even 1658880100)) (joined 1658880000).coefs) (sun_segment ++ even 1658880100)
    ∷ same_words (held_after (segment_replaced (joined 1658880000) 1 (even 1658879799)) (joined 1658880000).coefs) (sun_segment ++ even 1658880000)
    ∷ same_words (held_after (segment_replaced sun 1 sun_segment) sun_segment) sun_segment
    ∷ []

pub examples_hold : T (all examples)
unfolding examples
examples_hold = tt
