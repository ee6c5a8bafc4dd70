-- Each number, each bound and each order of refusals of a series (document 01, "Segments") on both sides, evaluated; document 01's starred examples stand in
-- the crate `examples`. Assumes nothing.
use Rattle.std.specs.Prelude.{Bool, false, List, [], ◌∷◌, ◌++◌, ℕ, T, eqb, ℤ, pos, neg_ℤ}
use Rattle.whole.specs.Floor.{floor_div}
use Rattle.refusals.specs.Verdict.{Verdict, answered, refused}
use Rattle.refusals.specs.Search.{first_bad}
use Rattle.refusals.specs.Evaluated.{is_accepted, is_refused, is_refused_at}
use Rattle.whole.specs.Evaluated.{same, all}
use Rattle.chebyshev.specs.Polynomials.{S, P}
use Rattle.chebyshev.specs.Segment.{sum, value, slope}
use Rattle.series.specs.declared.Body.{Body}
use Rattle.series.specs.declared.Body.TheVariants.{Sun, Moon}
use Rattle.series.specs.Bodies.{numbers}
use Rattle.series.specs.Series.{Series, series, last_second, place_at, value_at}
use Rattle.series.specs.Acceptance.{judged_shape, series_judged, value_of}

-- a segment whose coefficients after c2 are 0
abbrev pub three : ℤ → ℤ → ℤ → List ℤ
three c0 c1 c2 = c0 ∷ c1 ∷ c2 ∷ pos 0 ∷ pos 0 ∷ pos 0 ∷ pos 0 ∷ pos 0 ∷ pos 0 ∷ pos 0 ∷ pos 0 ∷ pos 0 ∷ pos 0 ∷ pos 0 ∷ []

-- the two series of the listing example
abbrev pub sun_segment : List ℤ
sun_segment = three (pos 552960000) (pos 552960000) (pos 0)

abbrev pub sun : Series
sun = series Sun (pos 0) sun_segment

abbrev pub moon : Series
moon = series Moon (pos 0) (three (pos 4103999999) (pos 864000000) (pos 0))

-- the Sun's with a second segment, which joins by 400 where its c0 is 1,658,880,000
abbrev pub joined : ℕ → Series
joined c0 = series Sun (pos 0) (sun_segment ++ three (pos c0) (pos 552960000) (pos 0))

-- and with a third, behind one that ends with 2,211,839,700
abbrev thrice : ℕ → Series
thrice c0 = series Sun (pos 0) (sun_segment ++ three (pos 1658880100) (pos 552960000) (pos 0) ++ three (pos c0) (pos 552960000) (pos 0))

-- the Moon's likewise, whose first ends with 4,967,994,999
abbrev pub joined_moon : ℕ → Series
joined_moon c0 = series Moon (pos 0) (three (pos 4103999999) (pos 864000000) (pos 0) ++ three (pos c0) (pos 864000000) (pos 0))

abbrev starts_at : ℤ → Series
starts_at start = series Sun start sun_segment

abbrev pub alone : Body → ℤ → ℤ → Series
alone body c0 c1 = series body (pos 0) (three c0 c1 (pos 0))

-- c1 and c13 alone
abbrev bent_by : ℤ → ℤ → Series
bent_by c1 c13 = series Sun (pos 0) (pos 0 ∷ c1 ∷ pos 0 ∷ pos 0 ∷ pos 0 ∷ pos 0 ∷ pos 0 ∷ pos 0 ∷ pos 0 ∷ pos 0 ∷ pos 0 ∷ pos 0 ∷ pos 0 ∷ c13 ∷ [])

abbrev pub is_value : ℤ → Verdict ℤ → Bool
is_value z (answered v) = same z v
is_value z (refused number segment) = false

-- the numbers of the Sun and the Moon, where they show
unfoldable pub bodies : List Bool
unfolding series_judged value_of value_at value slope sum P floor_div first_bad
bodies =
    eqb S 66355200
    ∷ same (place_at sun (pos 0)) (neg_ℤ (pos 66355200))
    ∷ same (place_at sun (pos 1382400)) (pos 0)
    ∷ same (place_at sun (pos 2764799)) (pos 66355152)
    ∷ same (place_at sun (pos 2764800)) (neg_ℤ (pos 66355200))
    ∷ same (place_at moon (pos 172801)) (pos 384)
    ∷ same (place_at moon (pos 345600)) (neg_ℤ (pos 66355200))
    ∷ same (last_second (starts_at (neg_ℤ (pos 5)))) (pos 2764794)
    ∷ same (last_second moon) (pos 345599)
    ∷ is_value (pos 3239999999) (value_of moon (pos 0))
    ∷ is_value (pos 3240004999) (value_of moon (pos 1))
    ∷ is_accepted (series_judged (alone Moon (pos 0) (pos 17280000)))
    ∷ is_refused_at (series_judged (alone Moon (pos 0) (pos 17279999))) 4 0
    ∷ eqb (numbers Sun).circle 24
    ∷ eqb (numbers Moon).circle 4
    ∷ []

-- each bound, on both sides
unfoldable pub both_sides : List Bool
unfolding series_judged value_of value_at value slope sum P floor_div first_bad
both_sides =
    is_accepted (series_judged (starts_at (pos 10000000000)))
    ∷ is_refused (series_judged (starts_at (pos 10000000001))) 2
    ∷ is_accepted (series_judged (starts_at (neg_ℤ (pos 10000000000))))
    ∷ is_refused (series_judged (starts_at (neg_ℤ (pos 10000000001)))) 2
    ∷ is_refused (judged_shape Sun (pos 0) 0) 2
    ∷ is_refused (judged_shape Sun (pos 0) 13) 2
    ∷ is_accepted (judged_shape Sun (pos 0) 14)
    ∷ is_refused (judged_shape Sun (pos 0) 15) 2
    ∷ is_accepted (judged_shape Sun (pos 0) 28000)
    ∷ is_refused (judged_shape Sun (pos 0) 28014) 2
    ∷ is_accepted (judged_shape Moon (pos 0) 224000)
    ∷ is_refused (judged_shape Moon (pos 0) 224014) 2
    ∷ is_accepted (series_judged (alone Sun (pos 1000000000000000) (pos 552960000)))
    ∷ is_refused_at (series_judged (alone Sun (pos 1000000000000001) (pos 552960000))) 3 0
    ∷ is_accepted (series_judged (alone Sun (neg_ℤ (pos 1000000000000000)) (pos 552960000)))
    ∷ is_refused_at (series_judged (alone Sun (neg_ℤ (pos 1000000000000001)) (pos 552960000))) 3 0
    ∷ is_accepted (series_judged (alone Sun (pos 0) (pos 4000000000)))
    ∷ is_refused_at (series_judged (alone Sun (pos 0) (neg_ℤ (pos 4000000000)))) 4 0
    ∷ is_refused_at (series_judged (alone Sun (pos 0) (neg_ℤ (pos 4000000001)))) 3 0
    -- a coefficient takes away its square times its size, whatever its sign: 169 for c13 = 1 or -1
    ∷ is_accepted (series_judged (bent_by (pos 138240169) (pos 1)))
    ∷ is_refused_at (series_judged (bent_by (pos 138240168) (pos 1))) 4 0
    ∷ is_accepted (series_judged (bent_by (pos 138240169) (neg_ℤ (pos 1))))
    ∷ is_refused_at (series_judged (bent_by (pos 138240168) (neg_ℤ (pos 1)))) 4 0
    -- a joint of 200 to 100,000
    ∷ is_accepted (series_judged (joined 1658979600))
    ∷ is_refused_at (series_judged (joined 1658979601)) 5 1
    ∷ is_accepted (series_judged (joined_moon 5831995199))
    ∷ is_refused_at (series_judged (joined_moon 5831995198)) 5 1
    ∷ is_accepted (series_judged (joined_moon 5832094999))
    ∷ is_refused_at (series_judged (joined_moon 5832095000)) 5 1
    -- a joint is with the segment before it: 200 and 199 at the third of three
    ∷ is_accepted (series_judged (thrice 2764799900))
    ∷ is_refused_at (series_judged (thrice 2764799899)) 5 2
    ∷ is_refused (value_of sun (neg_ℤ (pos 1))) 6
    ∷ is_value (pos 1105919600) (value_of sun (pos 2764799))
    ∷ is_refused (value_of sun (pos 2764800)) 6
    ∷ is_value (pos 1105920100) (value_of (joined 1658880100) (pos 2764800))
    ∷ is_value (pos 2211839700) (value_of (joined 1658880100) (pos 5529599))
    ∷ is_refused (value_of (joined 1658880100) (pos 5529600)) 6
    ∷ []

-- the lowest number wins, over the whole series, and then the first segment
unfoldable pub order : List Bool
unfolding series_judged value_of value_at value slope sum P floor_div first_bad
order =
    -- 2 before 3: too late, and a coefficient out of range
    is_refused (series_judged (series Sun (pos 10000000001) (three (pos 0) (pos 5000000000) (pos 0)))) 2
    -- 3 before 4: segment 0 slow, a coefficient of segment 1 out of range
    ∷ is_refused_at (series_judged (series Sun (pos 0) (three (pos 0) (pos 1) (pos 0) ++ three (pos 0) (pos 5000000000) (pos 0)))) 3 1
    -- 4 before 5: segment 1 badly joined, segment 2 slow
    ∷ is_refused_at (series_judged (series Sun (pos 0) (sun_segment ++ sun_segment ++ three (pos 0) (pos 1) (pos 0)))) 4 2
    -- 3 before 5: segment 1 badly joined, a coefficient of segment 2 out of range
    ∷ is_refused_at (series_judged (series Sun (pos 0) (sun_segment ++ sun_segment ++ three (pos 0) (pos 5000000000) (pos 0)))) 3 2
    -- of two segments out of range, the first
    ∷ is_refused_at (series_judged (series Sun (pos 0) (sun_segment ++ three (pos 0) (pos 5000000000) (pos 0) ++ three (pos 0) (pos 5000000000) (pos 0)))) 3 1
    -- of two slow segments, the first; of two bad joints, the later segment of the first
    ∷ is_refused_at (series_judged (series Sun (pos 0) (sun_segment ++ three (pos 0) (pos 1) (pos 0) ++ three (pos 0) (pos 1) (pos 0)))) 4 1
    ∷ is_refused_at (series_judged (series Sun (pos 0) (sun_segment ++ sun_segment ++ sun_segment))) 5 1
    -- 2 to 5 before 6
    ∷ is_refused (value_of (starts_at (pos 10000000001)) (pos 0)) 2
    ∷ is_refused_at (value_of (joined 1658879000) (neg_ℤ (pos 1))) 5 1
    ∷ []

unfoldable pub examples : List Bool
examples = bodies ++ both_sides ++ order

pub examples_hold : T (all examples)
unfolding examples bodies both_sides order
examples_hold = tt
