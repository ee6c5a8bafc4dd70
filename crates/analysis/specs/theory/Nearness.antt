-- The value against the exact sum, at any scale s: 2·|s¹³·value - exact| ≤ s¹²·(Σ n²·|c(n)| + 2r), r the remainder of the last division.
-- Assumes nothing.
use Rattle.std.specs.Prelude.{◌≡◌, [], ◌∷◌, ℕ, zero, suc, ◌+◌, ◌*◌, ◌-◌, ◌^◌, ◌≤◌, ◌<◌, ℤ, pos, nat_abs, ◌+ℤ◌, ◌-ℤ◌, ◌*ℤ◌}
use Rattle.std.proofs.Common.{ap, ◌∙◌, arith, mul-le-mul_left, pow-add}
use Rattle.std.proofs.Math.Nat.{pow-succ', one-le-pow}
use Rattle.whole.specs.Parts.{◌≺◌, →<}
use Rattle.whole.specs.Laws.{abs-*, abs-+, abs--}
use Rattle.whole.specs.Solver.{⇑, ⇓, ring}
use Rattle.whole.specs.Floor.{floor_div, floor_mod}
use Rattle.whole.proofs.Floor.{floor_div_floor_mod, floor_mod_lt}
use Rattle.chebyshev.specs.Polynomials.{P, Q}
use Rattle.chebyshev.specs.Segment.{sum}
use Rattle.analysis.specs.theory.Rounding.{error, error_within, P_split}
use Rattle.analysis.specs.theory.Sums.{weights, sum_linear, sum_first, sum_weighed}

-- s¹² is s^(12-m)·s^m
pub power_apart : (s m : ℕ) → m ≤ 12 → s ^ 12 ≡ s ^ (12 - m) * s ^ m
power_apart s m l = ap (λ (i : ℕ). s ^ i) (omega arith) ∙ pow-add s (12 - m) m

module _ (s : ℕ) (c : ℕ → ℤ) (x : ℤ) where
  abbrev rounded : ℤ
  rounded = sum 1 13 (λ (n : ℕ). c n *ℤ P s x n)

  abbrev true_sum : ℤ
  true_sum = sum 1 13 (λ (n : ℕ). c n *ℤ pos (s ^ (13 - n)) *ℤ Q (pos s) x n)

  abbrev errors : ℤ
  errors = sum 1 13 (λ (n : ℕ). c n *ℤ pos (s ^ (13 - n)) *ℤ error s x n)

  module _ (h : 0 < s) where
    term_split : (n : ℕ) → 1 ≤ n → n < 14 → pos (s ^ 12) *ℤ (c n *ℤ P s x n) ≡ pos 1 *ℤ (c n *ℤ pos (s ^ (13 - n)) *ℤ Q (pos s) x n) +ℤ pos 1 *ℤ (c n *ℤ pos (s ^ (13 - n)) *ℤ error s x n)
    term_split zero l m = absurd (omega arith)
    term_split (suc n) l m =
        let ρ = pos (s ^ 12) ∷ pos (s ^ (12 - n)) ∷ pos (s ^ n) ∷ c (suc n) ∷ P s x (suc n) ∷ Q (pos s) x (suc n) ∷ error s x (suc n) ∷ [] in
        rw e
        (⇑ ρ (search ring depth 12)
        (omega (
          arith,
          ⇓ ρ (ap (λ (z : ℕ). pos z *ℤ (c (suc n) *ℤ P s x (suc n))) (power_apart s n (omega arith))) (search ring depth 12),
          ⇓ ρ (ap (λ (z : ℤ). c (suc n) *ℤ pos (s ^ (12 - n)) *ℤ z) (P_split s x h n)) (search ring depth 12),
        )))
      where
        e : 13 - suc n ≡ 12 - n
        e = omega arith

    -- s¹² times the rounded sum is the true sum and the errors
    rounded_split : pos (s ^ 12) *ℤ rounded ≡ pos 1 *ℤ true_sum +ℤ pos 1 *ℤ errors
    rounded_split = sum_linear (pos (s ^ 12)) (pos 1) (pos 1) 1 13 (λ (n : ℕ). c n *ℤ P s x n) (λ (n : ℕ). c n *ℤ pos (s ^ (13 - n)) *ℤ Q (pos s) x n) (λ (n : ℕ). c n *ℤ pos (s ^ (13 - n)) *ℤ error s x n) (λ n l m. term_split n l (omega arith))

    module _ (k : nat_abs x ≤ s) where
      error_weighed : (n : ℕ) → 2 ≤ n → n < 14 → 2 * nat_abs (c n *ℤ pos (s ^ (13 - n)) *ℤ error s x n) ≤ s ^ 12 * (n * n * nat_abs (c n))
      error_weighed zero l m = absurd (omega arith)
      error_weighed (suc n) l m =
          rw (e, abs-* (c (suc n) *ℤ pos (s ^ (12 - n))) (error s x (suc n)), abs-* (c (suc n)) (pos (s ^ (12 - n))))
          (counted n (nat_abs (c (suc n))) (s ^ (12 - n)) (s ^ n) (s ^ 12) (nat_abs (error s x (suc n))) (error_within s x h k n) (power_apart s n (omega arith)))
        where
          e : 13 - suc n ≡ 12 - n
          e = omega arith

          counted : (n a p t u e : ℕ) → 2 * e ≤ n * suc n * t → u ≡ p * t → 2 * (a * p * e) ≤ u * (suc n * suc n * a)
          counted n a p t u e l m = omega (arith, mul-le-mul_left (a * p) l, ap (λ (z : ℕ). a * n * z) m, ap (λ (z : ℕ). a * n * n * z) m)

      no_first_error : nat_abs (error s x 1) ≡ 0
      no_first_error = omega (arith, error_within s x h k 0)

      errors_weighed : 2 * nat_abs errors ≤ s ^ 12 * weights c
      errors_weighed =
          let f : ℕ → ℤ = λ (n : ℕ). c n *ℤ pos (s ^ (13 - n)) *ℤ error s x n in
          let first : nat_abs (f 1) ≡ 0 = abs-* (c 1 *ℤ pos (s ^ (13 - 1))) (error s x 1) ∙ rw no_first_error (omega arith) in
          omega (arith, first, abs-+ (f 1) (sum 2 12 f), ap nat_abs (sum_first 12 f), sum_weighed 2 (s ^ 12) 2 12 f (λ (n : ℕ). n * n * nat_abs (c n)) (λ n l m. error_weighed n l (omega arith)))

      apart : pos (s ^ 13) *ℤ (c 0 +ℤ floor_div rounded s) -ℤ (c 0 *ℤ pos (s ^ 13) +ℤ true_sum) ≡ errors -ℤ pos (s ^ 12) *ℤ pos (floor_mod rounded s)
      apart =
          let ρ = pos (s ^ 13) ∷ pos (s ^ 12) ∷ pos s ∷ c 0 ∷ floor_div rounded s ∷ pos (floor_mod rounded s) ∷ rounded ∷ true_sum ∷ errors ∷ [] in
          ⇑ ρ (search ring depth 12)
          (omega (
            arith,
            ⇓ ρ rounded_split (search ring depth 12),
            ⇓ ρ (ap (λ (z : ℤ). pos (s ^ 12) *ℤ z) (floor_div_floor_mod rounded s h)) (search ring depth 12),
            ⇓ ρ (ap (λ (z : ℕ). pos z *ℤ floor_div rounded s) (pow-succ' s 12)) (search ring depth 12),
          ))

      pub nearness : 2 * nat_abs (pos (s ^ 13) *ℤ (c 0 +ℤ floor_div rounded s) -ℤ (c 0 *ℤ pos (s ^ 13) +ℤ true_sum)) ≤ s ^ 12 * (weights c + 2 * floor_mod rounded s)
      nearness = rw apart (omega (arith, errors_weighed, abs-- errors (pos (s ^ 12) *ℤ pos (floor_mod rounded s)), abs-* (pos (s ^ 12)) (pos (floor_mod rounded s))))

      -- less than m from it, where the weights and twice the scale are at most 2m times the scale
      pub near : (m : ℕ) → weights c + 2 * s ≤ 2 * m * s → pos (nat_abs (pos (s ^ 13) *ℤ (c 0 +ℤ floor_div rounded s) -ℤ (c 0 *ℤ pos (s ^ 13) +ℤ true_sum))) ≺ pos m *ℤ pos (s ^ 13)
      near m l = →< (closed s (s ^ 12) (s ^ 13) m (nat_abs (pos (s ^ 13) *ℤ (c 0 +ℤ floor_div rounded s) -ℤ (c 0 *ℤ pos (s ^ 13) +ℤ true_sum))) (weights c + 2 * floor_mod rounded s) (one-le-pow 12 s h) (pow-succ' s 12) nearness (omega (arith, floor_mod_lt rounded s h)))
        where
          closed : (s p d m a k : ℕ) → 1 ≤ p → d ≡ s * p → 2 * a ≤ p * k → k < 2 * m * s → a + 0 < m * d + 0
          closed s p d m a k o e l i = omega (arith, mul-le-mul_left {m = suc k} {n = 2 * m * s} p (omega arith), ap (λ (z : ℕ). m * z) e)
