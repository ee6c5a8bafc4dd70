-- The forced recurrence A(n+2) = 2y·A(n+1) - s²·A(n) + f(n+1), solved once by W and bounded. Assumes nothing.
use Rattle.std.specs.Prelude.{◌≡◌, ℤ, pos, neg_ℤ, ◌+ℤ◌, ◌-ℤ◌, ◌*ℤ◌}
use Rattle.std.proofs.Math.Path.{refl}
use Rattle.std.proofs.Common.{sym, ap, ◌∙◌, mul-le-mul, le_refl, pow-add}
use mathlib.Core.List.{[], ◌∷◌}
use Prim.Native.Nat.{ℕ, zero, suc, ◌+◌, ◌*◌, ◌-◌, ◌^◌, ◌≤◌, ◌<◌}
use native.Mathlib.Omega.{arith}
use Rattle.std.proofs.Math.IntN.{nat_abs}
use Rattle.whole.specs.Laws.{abs-*, abs-+}
use Rattle.whole.specs.Solver.{⇑, ⇓, ring}
use Rattle.chebyshev.specs.Polynomials.{W}
use Rattle.analysis.specs.theory.Pell.{W_within}

-- ---- sums of the first n terms
unfoldable pub total : (ℕ → ℤ) → ℕ → ℤ
total g zero = pos 0
total g (suc n) = total g n +ℤ g n

unfoldable pub totalℕ : (ℕ → ℕ) → ℕ → ℕ
totalℕ g zero = 0
totalℕ g (suc n) = totalℕ g n + g n

-- if g = a·g₁ + b·g₂ below n, then so are the sums
total_linear : (a b : ℤ) (g g₁ g₂ : ℕ → ℤ) (n : ℕ) → ((k : ℕ) → k < n → g k ≡ a *ℤ g₁ k +ℤ b *ℤ g₂ k) → total g n ≡ a *ℤ total g₁ n +ℤ b *ℤ total g₂ n
unfolding total
total_linear a b g g₁ g₂ zero h = ⇑ (a ∷ b ∷ []) (search ring depth 9) refl
total_linear a b g g₁ g₂ (suc n) h =
    let ρ = a ∷ b ∷ g n ∷ g₁ n ∷ g₂ n ∷ total g n ∷ total g₁ n ∷ total g₂ n ∷ [] in
    ⇑ ρ (search ring depth 9) (omega (arith, ⇓ ρ (h n (omega arith)) (search ring depth 9), ⇓ ρ (total_linear a b g g₁ g₂ n (λ k l. h k (omega arith))) (search ring depth 9)))

total_abs : (g : ℕ → ℤ) (b : ℕ → ℕ) (n : ℕ) → ((k : ℕ) → k < n → nat_abs (g k) ≤ b k) → nat_abs (total g n) ≤ totalℕ b n
unfolding total totalℕ
total_abs g b zero h = omega arith
total_abs g b (suc n) h = omega (arith, abs-+ (total g n) (g n), h n (omega arith), total_abs g b n (λ k l. h k (omega arith)))

-- ---- the solution
module _ (s y : ℤ) (f : ℕ → ℤ) where
  unfoldable pub term : ℕ → ℕ → ℤ
  term n k = W s y (n - suc k) *ℤ f k

  -- Σ W(n - 1 - k)·f(k) over k < n
  unfoldable pub response : ℕ → ℤ
  response n = total (term n) n

  term_next : (n k : ℕ) → k < n → term (suc (suc n)) k ≡ (pos 2 *ℤ y) *ℤ term (suc n) k +ℤ neg_ℤ (s *ℤ s) *ℤ term n k
  unfolding term
  term_next n k l = rw (e₂, e₁) (unfold W in ⇑ (s ∷ y ∷ W s y (suc (n - suc k)) ∷ W s y (n - suc k) ∷ f k ∷ []) (search ring depth 9) refl)
    where
      e₂ : suc (suc n) - suc k ≡ suc (suc (n - suc k))
      e₂ = omega arith

      e₁ : suc n - suc k ≡ suc (n - suc k)
      e₁ = omega arith

  last : (n k : ℕ) → n ≡ suc k → term n k ≡ f k
  unfolding term
  last n k e = rw (e₀) (unfold W in ⇑ (f k ∷ []) (search ring depth 9) refl)
    where
      e₀ : n - suc k ≡ 0
      e₀ = omega arith

  last_but_one : (n k : ℕ) → n ≡ suc (suc k) → term n k ≡ pos 2 *ℤ y *ℤ f k
  unfolding term
  last_but_one n k e = rw (e₀) (unfold W in refl)
    where
      e₀ : n - suc k ≡ 1
      e₀ = omega arith

  response_next : (n : ℕ) → response (suc (suc n)) ≡ pos 2 *ℤ y *ℤ response (suc n) -ℤ s *ℤ s *ℤ response n +ℤ f (suc n)
  unfolding response total term
  response_next n =
      let ρ = s ∷ y ∷ total (term (suc (suc n))) n ∷ total (term (suc n)) n ∷ total (term n) n ∷ term (suc (suc n)) n ∷ term (suc (suc n)) (suc n) ∷ term (suc n) n ∷ f n ∷ f (suc n) ∷ [] in
      ⇑ ρ (search ring depth 12)
      (omega (
        arith,
        ⇓ ρ (total_linear (pos 2 *ℤ y) (neg_ℤ (s *ℤ s)) (term (suc (suc n))) (term (suc n)) (term n) n (term_next n)) (search ring depth 12),
        ⇓ ρ (last_but_one (suc (suc n)) n refl) (search ring depth 12),
        ⇓ ρ (last (suc (suc n)) (suc n) refl) (search ring depth 12),
        ⇓ ρ (ap (λ (z : ℤ). y *ℤ z) (last (suc n) n refl)) (search ring depth 12),
      ))

-- A is driven by f
pub record Forced (s y : ℤ) (f A : ℕ → ℤ) : Type 0 where
  pub none : A 0 ≡ pos 0
  pub first : A 1 ≡ f 0
  pub next : (n : ℕ) → A (suc (suc n)) ≡ pos 2 *ℤ y *ℤ A (suc n) -ℤ s *ℤ s *ℤ A n +ℤ f (suc n)

-- one more term of the sum of the weights
counted : (m i r F a p t w : ℕ) → m ≡ r + i → 2 * t + F * (i * suc i) * p ≤ (2 * suc m * a + 2 * F * (i * suc m)) * p → w ≤ r * p * F → 2 * (t + w) + F * (suc i * suc (suc i)) * p ≤ (2 * suc m * a + 2 * F * (suc i * suc m)) * p
counted m i r F a p t w e h k = omega (arith, ap (λ (z : ℕ). F * z * p) e)

module _ {s y : ℤ} {f A : ℕ → ℤ} (r : Forced s y f A) where
  -- A(n) is Σ W(n - 1 - k)·f(k) over k < n
  pub forced : (n : ℕ) → A n ≡ response s y f n
  forced zero = r.none ∙ unfold response total in refl
  forced (suc zero) = r.first ∙ unfold response total term W in ⇑ (f 0 ∷ []) (search ring depth 9) refl
  forced (suc (suc n)) = r.next n ∙ rw (forced n, forced (suc n)) (sym (response_next s y f n))

  abbrev weight : ℕ → ℕ → ℕ
  weight n k = (n - k) * nat_abs s ^ (n - suc k) * nat_abs (f k)

  by_weights : nat_abs y ≤ nat_abs s → (n : ℕ) → nat_abs (A n) ≤ totalℕ (weight n) n
  by_weights h n = rw (forced n) (unfold response in total_abs (term s y f n) (weight n) n each)
    where
      each : (k : ℕ) → k < n → nat_abs (term s y f n k) ≤ weight n k
      each k l = unfold term in rw (abs-* (W s y (n - suc k)) (f k), e) (mul-le-mul (W_within s y h (n - suc k)) (omega arith))
        where
          e : n - k ≡ suc (n - suc k)
          e = omega arith

  module _ (a F : ℕ) (h : nat_abs y ≤ nat_abs s) (start : nat_abs (f 0) ≤ a) (drive : (k : ℕ) → nat_abs (f (suc k)) ≤ F * nat_abs s ^ suc k) where
    -- with p = |s|ᵐ: each weight is at most (m - k)·p·F but for the first, which is at most (m + 1)·p·a
    first_weight : (m : ℕ) → weight (suc m) 0 ≤ suc m * nat_abs s ^ m * a
    first_weight m = rw (e₀, e₁) (mul-le-mul (le_refl (suc m * nat_abs s ^ m)) start)
      where
        e₀ : suc m - 0 ≡ suc m
        e₀ = omega arith

        e₁ : suc m - 1 ≡ m
        e₁ = omega arith

    later_weight : (m k : ℕ) → k < m → weight (suc m) (suc k) ≤ (m - k) * nat_abs s ^ m * F
    later_weight m k l = rw (e₀, e₁) (omega (arith, mul-le-mul (le_refl ((m - k) * nat_abs s ^ (m - suc k))) (drive k), ap (λ (z : ℕ). (m - k) * z * F) e))
      where
        e₀ : suc m - suc k ≡ m - k
        e₀ = omega arith

        e₁ : suc m - suc (suc k) ≡ m - suc k
        e₁ = omega arith

        e : nat_abs s ^ m ≡ nat_abs s ^ (m - suc k) * nat_abs s ^ suc k
        e = ap (λ (i : ℕ). nat_abs s ^ i) (omega arith) ∙ pow-add (nat_abs s) (m - suc k) (suc k)

    -- the sum of the first i + 1 weights, doubled
    weights : (m i : ℕ) → i ≤ m → 2 * totalℕ (weight (suc m)) (suc i) + F * (i * suc i) * nat_abs s ^ m ≤ (2 * suc m * a + 2 * F * (i * suc m)) * nat_abs s ^ m
    unfolding totalℕ
    weights m zero l = omega (arith, first_weight m)
    weights m (suc i) l = counted m i (m - i) F a (nat_abs s ^ m) (totalℕ (weight (suc m)) (suc i)) (weight (suc m) (suc i)) (omega arith) (weights m i (omega arith)) (later_weight m i (omega arith))

    -- 2·|A(n+1)| ≤ (2(n+1)·a + F·n(n+1))·|s|ⁿ
    pub forced_within : (n : ℕ) → 2 * nat_abs (A (suc n)) ≤ (2 * suc n * a + F * (n * suc n)) * nat_abs s ^ n
    forced_within n = omega (arith, by_weights h (suc n), weights n n (omega arith))
