-- One segment of a series: its value and its exact sum at a place, its range, how fast it rises (document 01, "Segments"). Assumes nothing.
use Rattle.std.specs.Prelude.{Bool, false, ◌||◌, List, ℕ, zero, suc, ◌+◌, ◌*◌, ◌-◌, ◌^◌, ◌≤◌, ℤ, pos, nat_abs, ◌+ℤ◌, ◌-ℤ◌, ◌*ℤ◌, ltb, get_or}
use Rattle.whole.specs.Floor.{floor_div}
use Rattle.whole.specs.Ranges.{Within}
use Rattle.chebyshev.specs.Polynomials.{S, P, Q}

-- The coefficient c(n) of a segment's list c0, c1, .. c13; past the end stands 0.
abbrev pub coefficient : List ℤ → ℕ → ℤ
coefficient c n = get_or c n (pos 0)

-- The sum of `count` terms, the first at n = `first`.
unfoldable pub sum : ℕ → ℕ → (ℕ → ℤ) → ℤ
sum first zero term = pos 0
sum first (suc count) term = sum first count term +ℤ term (first + count)

-- The value: c0 plus the sum over n = 1..13 of c(n)·P(n), divided by S and rounded down.
unfoldable pub value : List ℤ → ℤ → ℤ
value c x = coefficient c 0 +ℤ floor_div (sum 1 13 (λ (n : ℕ). coefficient c n *ℤ P S x n)) S

-- The exact sum uses the true polynomials at x/S. Written over the common divisor S¹³ it is a whole number.
unfoldable pub divisor : ℤ
divisor = pos (S ^ 13)

unfoldable pub exact : List ℤ → ℤ → ℤ
exact c x = coefficient c 0 *ℤ divisor +ℤ sum 1 13 (λ (n : ℕ). coefficient c n *ℤ pos (S ^ (13 - n)) *ℤ Q (pos S) x n)

-- The value is less than this many units from the exact sum in every accepted series.
abbrev pub allowance : ℕ
allowance = 32

-- "|c0| ≤ 10^15, |cn| ≤ 4,000,000,000": how large a coefficient may be.
abbrev pub limit : ℕ → ℕ
limit zero = 1000000000000000
limit (suc n) = 4000000000

-- Whether one of `count` coefficients, from c(n) on, is larger; and one of all fourteen, which is refusal 3.
abbrev pub larger : List ℤ → ℕ → ℕ → Bool
larger c n zero = false
larger c n (suc count) = ltb (limit n) (nat_abs (coefficient c n)) || larger c (suc n) count

abbrev pub out_of_range : List ℤ → Bool
out_of_range c = larger c 0 14

-- What refusal 3 asks of a segment.
pub record InRange (c : List ℤ) : Type 0 where
  pub constant : Within 1000000000000000 (coefficient c 0)
  pub others : (n : ℕ) → 1 ≤ n → Within 4000000000 (coefficient c n)

-- c1 minus the sum over n ≥ 2 of n²·|c(n)|: refusal 4 asks that it is at least 100H.
unfoldable pub slope : List ℤ → ℤ
slope c = coefficient c 1 -ℤ sum 2 12 (λ (n : ℕ). pos (n * n * nat_abs (coefficient c n)))
