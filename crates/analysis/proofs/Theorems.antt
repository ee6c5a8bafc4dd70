-- What is proved of a segment (document 01, "Segments"): bounds of its polynomials, the value against the exact sum, and how both rise from one
-- second to the next. Here x is the place, H the half-length and q = S/H the step of one second; an exact sum is in units of 1/S¹³.
-- Assumes nothing.
use Rattle.std.specs.Prelude.{◌≡◌, ◌↔◌, false, List, [], ◌∷◌, ℕ, zero, suc, ◌+◌, ◌*◌, ◌-◌, ◌^◌, ◌≤◌, ◌<◌, ℤ, pos, neg_ℤ, nat_abs, ◌+ℤ◌, ◌-ℤ◌, ◌*ℤ◌, length}
use native.Mathlib.Omega.{arith}
use Rattle.whole.specs.Parts.{◌⩽◌, ◌≺◌}
use Rattle.whole.specs.Laws.{abs-+}
use Rattle.whole.specs.Solver.{⇑, ⇓, ring}
use Rattle.whole.specs.Floor.{floor_div}
use Rattle.whole.specs.Ranges.{Within}
use Rattle.chebyshev.specs.Polynomials.{S, P, Q, W}
use Rattle.chebyshev.specs.Segment.{coefficient, value, exact, divisor, allowance, out_of_range, InRange, slope}
use Rattle.chebyshev.specs.EndValues.{even_sum, odd_sum, square_sum, first_value, last_value}
use Rattle.analysis.specs.theory.Pell.{Q_within, W_within}
use Rattle.analysis.specs.theory.Forced.{Forced, forced_within}
use Rattle.analysis.specs.theory.Rounding.{P_within}
use Rattle.analysis.specs.theory.Bounds.{partial, partial_small, floor_small, even_sum_small, odd_sum_small, square_sum_small, weights_small}
use Rattle.analysis.specs.theory.Ends.{first_is, last_is}
use Rattle.analysis.specs.theory.Ranges.{in_range_lem, none_larger}
use Rattle.analysis.specs.theory.Nearness.{near}
use Rattle.analysis.specs.theory.Steps.{rises, rises_little}
use Rattle.analysis.specs.theory.Between.{abs_below, abs_above, values_rise, values_rise_little}

-- |Q(n)| ≤ Sⁿ
pub Q_bound : {x : ℤ} → Within S x → (n : ℕ) → nat_abs (Q (pos S) x n) ≤ S ^ n
Q_bound {x} h n = Q_within (pos S) x h.within n

-- |W(n)| ≤ (n+1)·Sⁿ
pub W_bound : {x : ℤ} → Within S x → (n : ℕ) → nat_abs (W (pos S) x n) ≤ suc n * S ^ n
W_bound {x} h n = W_within (pos S) x h.within n

-- The recurrence of Q with a term f(n) added at each step, from A(0) = 0 and A(1) = f(0): if |f(0)| ≤ a and |f(k)| ≤ F·Sᵏ after it, then
-- |A(n+1)| ≤ ((n+1)·a + F·n(n+1)/2)·Sⁿ. Rounding is bounded by it (a = 0, F = 1), and so are steps (a = 1, F = 2).
pub forced_bound : {y : ℤ} {f A : ℕ → ℤ} → Forced (pos S) y f A → Within S y → (a F : ℕ) → nat_abs (f 0) ≤ a → ((k : ℕ) → nat_abs (f (suc k)) ≤ F * S ^ suc k) → (n : ℕ) → 2 * nat_abs (A (suc n)) ≤ (2 * suc n * a + F * (n * suc n)) * S ^ n
forced_bound r h a F start drive n = forced_within r a F h.within start drive n

-- |P(n)| ≤ S + n(n-1)/2
pub P_bound : {x : ℤ} → Within S x → (n : ℕ) → 2 * nat_abs (P S x n) ≤ 2 * S + n * (n - 1)
P_bound {x} h zero = unfold P in omega arith
P_bound {x} h (suc n) = rw e (omega (arith, P_within S x (omega arith) h.within n))
  where
    e : suc n - 1 ≡ n
    e = omega arith

pub divisor_positive : pos 0 ≺ divisor
unfolding divisor
divisor_positive = record { lt = tt }

-- the values at a segment's first second and at its last
pub first_value_lem : (c : List ℤ) → value c (neg_ℤ (pos S)) ≡ first_value c
first_value_lem c = first_is c

pub last_value_lem : (c : List ℤ) (q H : ℕ) → q * H ≡ S → 2 * (q * q) * 144 < S → value c (pos S -ℤ pos q) ≡ last_value H c
last_value_lem c q H step few = last_is c q H step few

-- refusal 3 is not given exactly where the segment is in range
pub in_range_exactly : (c : List ℤ) → length c ≡ 14 → out_of_range c ≡ false ↔ InRange c
in_range_exactly c l = (in_range_lem c l, none_larger c)

module _ {c : List ℤ} (r : InRange c) where
  -- the value is no larger than this, so that a caller's sums of it fit
  pub value_bound : {x : ℤ} → Within S x → Within 1000100000000000 (value c x)
  unfolding value
  value_bound {x} h = record { within = omega (arith, abs-+ (coefficient c 0) (floor_div (partial c x 13) S), r.constant.within, floor_small (partial c x 13) (partial_small r h 13 (omega arith)).within) }

  -- and so are the sums of the closed forms
  pub even_sum_bound : Within 1000100000000000 (even_sum c)
  even_sum_bound = even_sum_small r

  pub odd_sum_bound : Within 100000000000 (odd_sum c)
  odd_sum_bound = odd_sum_small r

  pub square_sum_bound : Within 10000000000000 (square_sum c)
  square_sum_bound = square_sum_small r

  module _ (H : ℕ) (fast : pos (100 * H) ⩽ slope c) where
    module _ (q : ℕ) (step : q * H ≡ S) {x : ℤ} (h : Within S x) (k : Within S (x +ℤ pos q)) where
      -- from one second to the next the exact sum rises by at least 100 units
      pub exact_rises : exact c x +ℤ pos 100 *ℤ divisor ⩽ exact c (x +ℤ pos q)
      unfolding slope exact divisor
      exact_rises = rises S (λ (n : ℕ). coefficient c n) x H q step h.within k.within fast

      -- and by at most 8·10⁹/H - 100 units
      pub exact_rises_little : pos H *ℤ (exact c (x +ℤ pos q) -ℤ exact c x) ⩽ (pos 8000000000 -ℤ pos (100 * H)) *ℤ divisor
      unfolding slope exact divisor
      exact_rises_little = rises_little S (λ (n : ℕ). coefficient c n) x H q step h.within k.within fast 4000000000 (r.others 1 (omega arith)).within

    module _ (long : 172800 ≤ H) where
      -- the value is less than 32 units (`allowance`) from the exact sum
      pub value_near_exact : {x : ℤ} → Within S x → pos (nat_abs (divisor *ℤ value c x -ℤ exact c x)) ≺ pos allowance *ℤ divisor
      unfolding value exact divisor
      value_near_exact {x} h = near S (λ (n : ℕ). coefficient c n) x (omega arith) h.within allowance (weights_small r H long fast)

      -- the same, each side by itself
      pub value_under : {x : ℤ} → Within S x → divisor *ℤ value c x ≺ exact c x +ℤ pos allowance *ℤ divisor
      value_under {x} h = let ρ = divisor ∷ value c x ∷ exact c x ∷ [] in ⇑ ρ (search ring depth 9) (omega (arith, ⇓ ρ (abs_below (divisor *ℤ value c x -ℤ exact c x) (pos allowance *ℤ divisor) (value_near_exact h)) (search ring depth 9)))

      pub value_over : {x : ℤ} → Within S x → exact c x ≺ divisor *ℤ value c x +ℤ pos allowance *ℤ divisor
      value_over {x} h = let ρ = divisor ∷ value c x ∷ exact c x ∷ [] in ⇑ ρ (search ring depth 9) (omega (arith, ⇓ ρ (abs_above (divisor *ℤ value c x -ℤ exact c x) (pos allowance *ℤ divisor) (value_near_exact h)) (search ring depth 9)))

      module _ (q : ℕ) (step : q * H ≡ S) {x : ℤ} (h : Within S x) (k : Within S (x +ℤ pos q)) where
        -- from one second to the next the value rises by at least 37 units
        pub value_rises : value c x +ℤ pos 37 ⩽ value c (x +ℤ pos q)
        value_rises = values_rise divisor (value c x) (value c (x +ℤ pos q)) (exact c x) (exact c (x +ℤ pos q)) divisor_positive (value_under h) (value_over k) (exact_rises q step h k)

        -- and by less than 50,000 units
        pub value_rises_little : value c (x +ℤ pos q) ≺ value c x +ℤ pos 50000
        value_rises_little = values_rise_little divisor (value c x) (value c (x +ℤ pos q)) (exact c x) (exact c (x +ℤ pos q)) divisor_positive H long (value_under k) (value_over h) (exact_rises_little q step h k)
