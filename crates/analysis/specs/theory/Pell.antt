-- Pell's equation for Q and W, and from it |Q n| ≤ |s|ⁿ and |W n| ≤ (n+1)·|s|ⁿ where |x| ≤ |s|. Assumes nothing.
use Rattle.std.specs.Prelude.{◌≡◌, pos, negsuc, nat_abs, ◌+ℤ◌, ◌-ℤ◌, ◌*ℤ◌, ◌≤ℤ◌}
use Rattle.std.proofs.Math.Path.{refl, ap}
use Rattle.std.proofs.Common.{sym, ◌∙◌, arith}
use mathlib.Core.List.{List, [], ◌∷◌}
use Prim.Native.Nat.{ℕ, zero, suc, ◌*◌, ◌^◌, ◌≤◌}
use Rattle.std.proofs.Math.Nat.{mul-le-mul, pow-succ', pow-zero}
use Rattle.std.proofs.Math.Decide.{dec_le}
use Rattle.std.proofs.Math.IntN.{ℤ}
use Rattle.whole.specs.Parts.{→≤, ≤→, ≡→}
use Rattle.whole.specs.Laws.{sq_nonneg, *_nonneg, abs-*, abs-+}
use Rattle.whole.specs.Solver.{⇑, ⇓, ring}
use Rattle.chebyshev.specs.Polynomials.{Q, W}

unfoldable pub power : ℤ → ℕ → ℤ
power s zero = pos 1
power s (suc n) = s *ℤ power s n

module _ (s x : ℤ) where
  -- the next W by the one before and the next Q
  pub W_step : (n : ℕ) → W s x (suc n) ≡ x *ℤ W s x n +ℤ Q s x (suc n)
  unfolding Q W
  W_step zero = ⇑ (x ∷ []) (search ring depth 9) refl
  W_step (suc zero) = ⇑ (s ∷ x ∷ []) (search ring depth 9) refl
  W_step (suc (suc n)) =
      let ρ = s ∷ x ∷ W s x (suc n) ∷ W s x n ∷ Q s x (suc n) ∷ Q s x n ∷ [] in
      ⇑ ρ (search ring depth 20) (omega (arith, ⇓ ρ (ap (λ (z : ℤ). s *ℤ s *ℤ z) (W_step n)) (search ring depth 20), ⇓ ρ (ap (λ (z : ℤ). x *ℤ z) (W_step (suc n))) (search ring depth 20)))

  W_next : (n : ℕ) → W s x (suc (suc n)) ≡ pos 2 *ℤ x *ℤ W s x (suc n) -ℤ s *ℤ s *ℤ W s x n
  W_next n = unfold W in refl

  -- the next Q by the one before and W
  pub Q_step : (n : ℕ) → Q s x (suc (suc n)) ≡ x *ℤ Q s x (suc n) -ℤ (s *ℤ s -ℤ x *ℤ x) *ℤ W s x n
  Q_step n =
      let ρ = s ∷ x ∷ W s x (suc (suc n)) ∷ W s x (suc n) ∷ W s x n ∷ Q s x (suc (suc n)) ∷ Q s x (suc n) ∷ [] in
      ⇑ ρ (search ring depth 20) (omega (arith, ⇓ ρ (W_step (suc n)) (search ring depth 20), ⇓ ρ (W_next n) (search ring depth 20), ⇓ ρ (ap (λ (z : ℤ). x *ℤ z) (W_step n)) (search ring depth 20)))

  pub pell : (n : ℕ) → Q s x (suc n) *ℤ Q s x (suc n) +ℤ (s *ℤ s -ℤ x *ℤ x) *ℤ (W s x n *ℤ W s x n) ≡ power s (suc n) *ℤ power s (suc n)
  unfolding power
  pell zero = unfold Q W in ⇑ (s ∷ x ∷ []) (search ring depth 9) refl
  pell (suc n) =
      let ρ = s ∷ x ∷ W s x n ∷ Q s x (suc n) ∷ power s n ∷ [] in
      rw (Q_step n, W_step n) (⇑ ρ (search ring depth 20) (omega (arith, ⇓ ρ (ap (λ (z : ℤ). s *ℤ s *ℤ z) (pell n)) (search ring depth 20))))

-- ---- a square's order is that of the sizes
root_le : (a b : ℕ) → a * a ≤ b * b → a ≤ b
root_le a b h = go (dec_le a b)
  where
    go : Dec (a ≤ b) → a ≤ b
    go (yes k) = k
    go (no k) = absurd (omega (arith, mul-le-mul {n₁ = suc b} {m₁ = suc b} {n₂ = a} {m₂ = a} (omega arith) (omega arith)))

square_pos : (z : ℤ) → z *ℤ z ≡ pos (nat_abs z * nat_abs z)
square_pos (pos n) = refl
square_pos (negsuc n) = refl

abs_of_square : (z y : ℤ) → (z *ℤ z) ≤ℤ (y *ℤ y) → nat_abs z ≤ nat_abs y
abs_of_square z y h = root_le (nat_abs z) (nat_abs y) (omega (arith, ≤→ h, ≡→ (square_pos z), ≡→ (square_pos y)))

square_of_abs : (z y : ℤ) → nat_abs z ≤ nat_abs y → (z *ℤ z) ≤ℤ (y *ℤ y)
square_of_abs z y h = →≤ (omega (arith, mul-le-mul h h, ≡→ (square_pos z), ≡→ (square_pos y)))

pub abs_power : (s : ℤ) (n : ℕ) → nat_abs (power s n) ≡ nat_abs s ^ n
unfolding power
abs_power s zero = sym (pow-zero (nat_abs s))
abs_power s (suc n) = abs-* s (power s n) ∙ ap (λ (k : ℕ). nat_abs s * k) (abs_power s n) ∙ sym (pow-succ' (nat_abs s) n)

pub power_pos : (s n : ℕ) → power (pos s) n ≡ pos (s ^ n)
unfolding power
power_pos s zero = ap pos (sym (pow-zero s))
power_pos s (suc n) = rw (power_pos s n, pow-succ' s n) refl

-- ---- the bounds
module _ (s x : ℤ) (h : nat_abs x ≤ nat_abs s) where
  gap : pos 0 ≤ℤ (s *ℤ s -ℤ x *ℤ x)
  gap = let ρ = s ∷ x ∷ [] in ⇑ ρ (search ring depth 9) (omega (arith, ⇓ ρ (square_of_abs x s h) (search ring)))

  pub Q_within : (n : ℕ) → nat_abs (Q s x n) ≤ nat_abs s ^ n
  Q_within zero = unfold Q in omega (arith, pow-zero (nat_abs s))
  Q_within (suc n) = rw (← abs_power s (suc n)) (abs_of_square (Q s x (suc n)) (power s (suc n)) (⇑ ρ (search ring depth 9) (omega (arith, ⇓ ρ (*_nonneg gap (sq_nonneg (W s x n))) (search ring depth 9), ⇓ ρ (pell s x n) (search ring depth 9)))))
    where
      ρ : List ℤ
      ρ = s ∷ x ∷ Q s x (suc n) ∷ W s x n ∷ power s (suc n) ∷ []

  pub W_within : (n : ℕ) → nat_abs (W s x n) ≤ suc n * nat_abs s ^ n
  W_within zero = unfold W in omega (arith, pow-zero (nat_abs s))
  W_within (suc n) = rw (W_step s x n) (omega (arith, abs-+ (x *ℤ W s x n) (Q s x (suc n)), abs-* x (W s x n), Q_within (suc n), mul-le-mul h (W_within n), pow-succ' (nat_abs s) n, ap (λ (k : ℕ). n * k) (pow-succ' (nat_abs s) n)))
