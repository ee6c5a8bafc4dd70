-- Worked values of a segment, checked by computation: at a segment's beginning, middle and end, where rounding shows, slope and exact sum (`values`); the
-- first and the last value (`ends`); refusal 3 on both sides (`ranges`). Document 01's starred values stand in the crate `examples`. Assumes nothing.
use Rattle.std.specs.Prelude.{Bool, not, List, [], ◌∷◌, ◌++◌, T, eqb, ℤ, pos, negsuc, neg_ℤ, ◌*ℤ◌}
use Rattle.whole.specs.Floor.{floor_div}
use Rattle.whole.specs.Evaluated.{same, all}
use Rattle.chebyshev.specs.Polynomials.{S, P, Q}
use Rattle.chebyshev.specs.Segment.{sum, value, exact, divisor, slope, out_of_range, allowance}
use Rattle.chebyshev.specs.EndValues.{even_sum, odd_sum, square_sum, first_value, last_value}

-- c0 - c1 + c2 at the beginning, c0 - c2 in the middle, c0 + c1 + c2 at the end
abbrev bent : List ℤ
bent = pos 400 ∷ pos 300 ∷ pos 20 ∷ []

-- P(4) at the place 1 is S - 1, and would be S if a division rounded toward zero
abbrev fourth : List ℤ
fourth = pos 0 ∷ pos 0 ∷ pos 0 ∷ pos 0 ∷ pos 1 ∷ []

-- the last division rounds down too
abbrev falling : List ℤ
falling = pos 0 ∷ negsuc 0 ∷ []

-- every coefficient counts, each with a weight of its own
abbrev wavy : List ℤ
wavy = pos 1000000000000 ∷ pos 987654321 ∷ neg_ℤ (pos 31000003) ∷ pos 2900017 ∷ neg_ℤ (pos 170029) ∷ pos 99991 ∷ pos 50021 ∷ neg_ℤ (pos 20011) ∷ pos 7919 ∷ neg_ℤ (pos 5003) ∷ pos 3001 ∷ neg_ℤ (pos 1999) ∷ pos 997 ∷ neg_ℤ (pos 499) ∷ []

-- a coefficient at its limit, and one over it
abbrev with13 : ℤ → List ℤ
with13 c13 = pos 0 ∷ pos 0 ∷ pos 0 ∷ pos 0 ∷ pos 0 ∷ pos 0 ∷ pos 0 ∷ pos 0 ∷ pos 0 ∷ pos 0 ∷ pos 0 ∷ pos 0 ∷ pos 0 ∷ c13 ∷ []

-- the first value and the last, of the Sun (48 before S, H = 1,382,400) and of the Moon (384 before S, H = 172,800): the closed forms, and the value itself
unfoldable pub ends : List Bool
unfolding value even_sum odd_sum square_sum first_value last_value sum P floor_div
ends =
    same (first_value bent) (pos 120)
    ∷ same (first_value wavy) (value wavy (neg_ℤ (pos S)))
    ∷ same (first_value wavy) (pos 998978265089)
    ∷ same (last_value 1382400 bent) (pos 719)
    ∷ same (last_value 1382400 wavy) (value wavy (pos 66355152))
    ∷ same (last_value 1382400 wavy) (pos 1000959518078)
    ∷ same (last_value 172800 wavy) (value wavy (pos 66354816))
    ∷ same (last_value 172800 wavy) (pos 1000959513569)
    -- rounded: ⌊-1/H⌋ is -1, ⌊1/H⌋ is 0
    ∷ same (last_value 1382400 (pos 0 ∷ pos 1 ∷ [])) (pos 0)
    ∷ same (value (pos 0 ∷ pos 1 ∷ []) (pos 66355152)) (pos 0)
    ∷ same (last_value 1382400 falling) (negsuc 0)
    ∷ same (value falling (pos 66355152)) (negsuc 0)
    ∷ same (last_value 172800 (pos 0 ∷ pos 1 ∷ [])) (pos 0)
    ∷ same (last_value 172800 falling) (negsuc 0)
    ∷ []

-- refusal 3, on both sides
unfoldable pub ranges : List Bool
ranges =
    not (out_of_range (pos 1000000000000000 ∷ []))
    ∷ out_of_range (pos 1000000000000001 ∷ [])
    ∷ not (out_of_range (neg_ℤ (pos 1000000000000000) ∷ []))
    ∷ out_of_range (neg_ℤ (pos 1000000000000001) ∷ [])
    ∷ not (out_of_range (with13 (pos 4000000000)))
    ∷ out_of_range (with13 (pos 4000000001))
    ∷ not (out_of_range (with13 (neg_ℤ (pos 4000000000))))
    ∷ out_of_range (with13 (neg_ℤ (pos 4000000001)))
    ∷ []

unfoldable pub values : List Bool
unfolding value exact divisor slope sum P Q floor_div
values =
    same (value bent (neg_ℤ (pos S))) (pos 120)
    ∷ same (value bent (pos 0)) (pos 380)
    ∷ same (value bent (pos S)) (pos 720)
    ∷ same (value fourth (pos 1)) (pos 0)
    ∷ same (value falling (pos 1)) (negsuc 0)
    ∷ same (value wavy (pos 12345678)) (pos 1000211018183)
    ∷ same (slope bent) (pos 220)
    ∷ same (slope wavy) (pos 827870685)
    ∷ same (exact bent (neg_ℤ (pos S))) (pos 120 *ℤ divisor)
    ∷ same (exact bent (pos 0)) (pos 380 *ℤ divisor)
    ∷ same (exact bent (pos S)) (pos 720 *ℤ divisor)
    ∷ same (exact wavy (pos 0)) (pos 1000030785868 *ℤ divisor)
    -- how far the value may be from the exact sum, in units
    ∷ eqb allowance 32
    ∷ []

unfoldable pub examples : List Bool
examples = values ++ ends ++ ranges

pub examples_hold : T (all examples)
unfolding examples values ends ranges
examples_hold = tt
