-- One turn of the slope's loop over ℤ: c1 less the weights passed. Assumes nothing.
use mathlib.Core.Path.{◌≡◌, refl, ap, ◌∙◌}
use mathlib.Core.List.{List, [], ◌∷◌}
use Prim.Native.Nat.{ℕ, suc, ◌+◌, ◌*◌, ◌-◌, ◌≤◌, ◌<◌}
use native.Mathlib.Omega.{arith}
use native.Mathlib.Nat.{mul-le-mul}
use lib.IntN.{ℤ, pos, nat_abs, ◌+ℤ◌, ◌-ℤ◌}
use mir.Syntax.{w64}
use mir.Val.{SFits}
use Rattle.whole.specs.Ranges.{Within, fits<, within, bounds}
use Rattle.whole.specs.Solver.{⇑, ⇓, ring}
use Rattle.chebyshev.specs.Segment.{coefficient, sum, InRange, slope}
use Rattle.analysis.specs.theory.Bounds.{sum_within}

abbrev passed : List ℤ → ℕ → ℤ
passed c count = sum 2 count (λ (n : ℕ). pos (n * n * nat_abs (coefficient c n)))

-- what is left before the turn at n
pub record Left (c : List ℤ) (left : ℤ) (n : ℕ) : Type 0 where
  pub low : 2 ≤ n
  pub high : n ≤ 14
  pub is : left ≡ coefficient c 1 -ℤ passed c (n - 2)

passed_at : (c : List ℤ) (n : ℕ) → 2 ≤ n → passed c (n - 1) ≡ passed c (n - 2) +ℤ pos (n * n * nat_abs (coefficient c n))
unfolding sum
passed_at c n l = ap (passed c) e ∙ ap (λ (k : ℕ). passed c (n - 2) +ℤ pos (k * k * nat_abs (coefficient c k))) k
  where
    e : n - 1 ≡ suc (n - 2)
    e = omega arith

    k : 2 + (n - 2) ≡ n
    k = omega arith

module _ {c : List ℤ} (r : InRange c) where
  pub left_start : Left c (coefficient c 1) 2
  unfolding sum
  left_start = record { low = omega arith; high = omega arith; is = ⇑ (coefficient c 1 ∷ []) (search ring depth 9) refl }

  each : (n : ℕ) → 2 ≤ n → n < 14 → n * n * nat_abs (coefficient c n) ≤ 676000000000
  each n l h = mul-le-mul {n₂ = 169} {m₂ = 4000000000} (mul-le-mul {n₁ = n} {m₁ = n} {n₂ = 13} {m₂ = 13} (omega arith) (omega arith)) (r.others n (omega arith)).within

  passed_small : (n : ℕ) → n ≤ 14 → Within 8112000000000 (passed c (n - 2))
  passed_small n l = record { within = omega (arith, sum_within 2 (n - 2) 676000000000 (λ (k : ℕ). pos (k * k * nat_abs (coefficient c k))) (λ k h j. each k h (omega arith))) }

  module _ {left : ℤ} {n : ℕ} (h : Left c left n) where
    pub left_small : Within 8116000000000 left
    left_small = let a = r.others 1 (omega arith) in let b = passed_small n h.high in rw h.is (within (search bounds) tt)

    pub left_end : 14 ≤ n → left ≡ slope c
    unfolding slope
    left_end l = h.is ∙ ap (λ (k : ℕ). coefficient c 1 -ℤ passed c k) (omega (arith, h.high))

    module _ (l : n < 14) where
      pub difference_fits : SFits w64 (left -ℤ pos (n * n * nat_abs (coefficient c n)))
      difference_fits = let a = left_small in fits< (search bounds) (omega (arith, each n h.low l))

      less : left -ℤ pos (n * n * nat_abs (coefficient c n)) ≡ coefficient c 1 -ℤ passed c (n - 1)
      less =
          let ρ = left ∷ coefficient c 1 ∷ passed c (n - 2) ∷ passed c (n - 1) ∷ pos (n * n * nat_abs (coefficient c n)) ∷ [] in
          ⇑ ρ (search ring depth 9) (omega (arith, ⇓ ρ h.is (search ring depth 9), ⇓ ρ (passed_at c n h.low) (search ring depth 9)))

      pub left_turn : Left c (left -ℤ pos (n * n * nat_abs (coefficient c n))) (n + 1)
      left_turn = record { low = omega (arith, h.low); high = omega arith; is = less ∙ ap (λ (k : ℕ). coefficient c 1 -ℤ passed c k) (omega arith) }
