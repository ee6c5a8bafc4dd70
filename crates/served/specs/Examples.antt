-- Which of two series serves, on both sides of each bound and in the order of the refusals, and which part is given back: each a computed fact, and all of them checked
-- at once. The series are made of those of the examples of `series`. Assumes nothing.
use Rattle.std.specs.Prelude.{Bool, true, false, ◌&&◌, List, [], ◌∷◌, ℕ, T, eqb, ℤ, pos, neg_ℤ}
use Rattle.whole.specs.Evaluated.{all}
use Rattle.whole.specs.Floor.{floor_div}
use Rattle.refusals.specs.Verdict.{Verdict, answered, refused}
use Rattle.refusals.specs.Search.{first_bad}
use Rattle.refusals.specs.Evaluated.{is_refused, is_refused_at}
use Rattle.chebyshev.specs.Polynomials.{P}
use Rattle.chebyshev.specs.Segment.{sum, value, slope}
use Rattle.series.specs.declared.Body.TheVariants.{Sun}
use Rattle.series.specs.Series.{Series, series}
use Rattle.series.specs.Acceptance.{series_judged}
use Rattle.series.specs.Examples.{three, sun_segment, sun, moon, joined, joined_moon}
use Rattle.served.specs.declared.Served.{Served}
use Rattle.served.specs.declared.Side.{Side}
use Rattle.served.specs.declared.Side.TheVariants.{Near, Long}
use Rattle.served.specs.Served.{serves, Part, part_served}

-- ---- how the examples are written
-- one segment of the Sun from this second on: it has 2,764,800 seconds
abbrev from : ℤ → Series
from start = series Sun start sun_segment

-- two segments of the Sun, 0 to 5,529,599; and with a joint that is 5 at segment 1
abbrev two : Series
two = joined 1658880000

abbrev torn : Series
torn = joined 1658879000

-- a segment that is 4, and a start that is 2
abbrev slow : Series
slow = series Sun (pos 0) (three (pos 0) (pos 1) (pos 0))

abbrev late : Series
late = from (pos 10000000001)

abbrev is_side : Side → Side → Bool
is_side Near Near = true
is_side Near Long = false
is_side Long Near = false
is_side Long Long = true

abbrev is_served : Verdict Served → Side → ℕ → Bool
is_served (answered g) side k = is_side g.side side && eqb g.segment k
is_served (refused number segment) side k = false

abbrev is_part : Part → Side → ℕ → ℕ → Bool
is_part p side first count = is_side p.side side && (eqb p.from first && eqb p.count count)

unfoldable pub examples : List Bool
unfolding series_judged value slope sum P floor_div first_bad serves
examples =
    -- the near series from 1,000,000 to 3,764,799, the long one from 0 to 5,529,599
    is_served (serves (from (pos 1000000)) two (pos 1000000)) Near 0
    ∷ is_served (serves (from (pos 1000000)) two (pos 999999)) Long 0
    ∷ is_served (serves (from (pos 1000000)) two (pos 3764799)) Near 0
    ∷ is_served (serves (from (pos 1000000)) two (pos 3764800)) Long 1
    -- the segments of the long one
    ∷ is_served (serves (from (pos 9000000)) two (pos 2764799)) Long 0
    ∷ is_served (serves (from (pos 9000000)) two (pos 2764800)) Long 1
    ∷ is_served (serves (from (pos 9000000)) two (pos 0)) Long 0
    ∷ is_served (serves (from (pos 9000000)) two (pos 5529599)) Long 1
    -- and of a near one of two segments; the Moon's are of 345,600 seconds
    ∷ is_served (serves two two (pos 2764799)) Near 0
    ∷ is_served (serves two two (pos 2764800)) Near 1
    ∷ is_served (serves (joined_moon 5831999999) moon (pos 345600)) Near 1
    ∷ is_served (serves moon (joined_moon 5831999999) (pos 345599)) Near 0
    ∷ is_served (serves moon (joined_moon 5831999999) (pos 345600)) Long 1
    -- neither: before both, behind both, and between them
    ∷ is_refused (serves (from (pos 1000000)) two (neg_ℤ (pos 1))) 18
    ∷ is_refused (serves (from (pos 1000000)) two (pos 5529600)) 18
    ∷ is_refused (serves (from (pos 9000000)) two (pos 8999999)) 18
    -- a near one that reaches further than the long one
    ∷ is_served (serves (from (pos 5000000)) two (pos 5529600)) Near 0
    ∷ is_served (serves (from (neg_ℤ (pos 1))) sun (neg_ℤ (pos 1))) Near 0
    -- both are judged, also where near covers the second: the near one first
    ∷ is_refused_at (serves torn late (pos 0)) 5 1
    ∷ is_refused (serves late torn (pos 0)) 2
    ∷ is_refused_at (serves two torn (pos 0)) 5 1
    ∷ is_refused_at (serves two slow (pos 0)) 4 0
    ∷ is_refused_at (serves slow slow (pos 0)) 4 0
    -- 2 to 5 of either before 18
    ∷ is_refused_at (serves two torn (neg_ℤ (pos 1))) 5 1
    ∷ is_refused_at (serves torn two (neg_ℤ (pos 1))) 5 1
    ∷ is_refused (serves two late (neg_ℤ (pos 1))) 2
    -- the part: of which series, from which coefficient on, how many; none after a refusal
    ∷ is_part (part_served (serves two two (pos 0))) Near 0 14
    ∷ is_part (part_served (serves two two (pos 2764800))) Near 14 14
    ∷ is_part (part_served (serves (from (pos 9000000)) two (pos 0))) Long 0 14
    ∷ is_part (part_served (serves (from (pos 9000000)) two (pos 2764800))) Long 14 14
    ∷ is_part (part_served (serves two two (neg_ℤ (pos 1)))) Near 0 0
    ∷ is_part (part_served (serves two torn (pos 0))) Near 0 0
    ∷ is_part (part_served (serves late two (pos 2764800))) Near 0 0
    ∷ []

pub examples_hold : T (all examples)
unfolding examples
examples_hold = tt
