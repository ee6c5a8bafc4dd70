-- The rounded polynomials against the true ones: 2·|s^(n-1)·P(n) - Q(n)| ≤ n(n-1)·s^(n-1), and from it the bound of P(n). Assumes nothing.
use Rattle.std.specs.Prelude.{◌≡◌, ℤ, neg_ℤ, ◌+ℤ◌, ◌-ℤ◌, ◌*ℤ◌}
use Rattle.std.proofs.Math.Path.{refl}
use Rattle.std.proofs.Common.{ap, arith, le_of_eq}
use mathlib.Core.List.{[], ◌∷◌}
use Prim.Native.Nat.{ℕ, zero, suc, ◌+◌, ◌*◌, ◌^◌, ◌≤◌, ◌<◌}
use Rattle.std.proofs.Math.Nat.{mul-le-mul, pow-succ', pow-suc, le_of_mul-le-mul_left, one-le-pow}
use Rattle.std.proofs.Math.IntN.{pos, nat_abs}
use Rattle.whole.specs.Laws.{abs-*, abs-+, abs_neg}
use Rattle.whole.specs.Solver.{⇑, ⇓, ring}
use Rattle.whole.specs.Floor.{floor_div, floor_mod}
use Rattle.whole.proofs.Floor.{floor_div_floor_mod, floor_mod_lt}
use Rattle.chebyshev.specs.Polynomials.{P, Q}
use Rattle.analysis.specs.theory.Pell.{power, abs_power, power_pos, Q_within}
use Rattle.analysis.specs.theory.Forced.{Forced, forced_within}

module _ (s : ℕ) (x : ℤ) where
  -- the remainder dropped by the step to P(n+2)
  unfoldable pub dropped : ℕ → ℕ
  dropped n = floor_mod (pos 2 *ℤ x *ℤ P s x (suc n)) s

  -- what rounding changes in P(n), times s^(n-1)
  unfoldable pub error : ℕ → ℤ
  error zero = pos 0
  error (suc n) = power (pos s) n *ℤ P s x (suc n) -ℤ Q (pos s) x (suc n)

  unfoldable pub loss : ℕ → ℤ
  loss zero = pos 0
  loss (suc n) = neg_ℤ (power (pos s) n *ℤ pos (dropped n))

  P_none : P s x 0 ≡ pos s
  P_none = unfold P in refl

  P_one : P s x 1 ≡ x
  P_one = unfold P in refl

  module _ (h : 0 < s) where
    P_next : (n : ℕ) → pos s *ℤ P s x (suc (suc n)) ≡ pos 2 *ℤ x *ℤ P s x (suc n) -ℤ pos s *ℤ P s x n -ℤ pos (dropped n)
    unfolding P dropped
    P_next n =
        let t = pos 2 *ℤ x *ℤ P s x (suc n) in
        let ρ = pos s ∷ x ∷ P s x (suc n) ∷ P s x n ∷ floor_div t s ∷ pos (floor_mod t s) ∷ [] in
        ⇑ ρ (search ring depth 20) (omega (arith, ⇓ ρ (floor_div_floor_mod t s h) (search ring depth 20)))

    error_next : (n : ℕ) → error (suc (suc n)) ≡ pos 2 *ℤ x *ℤ error (suc n) -ℤ pos s *ℤ pos s *ℤ error n +ℤ loss (suc n)
    unfolding error loss power Q
    error_next zero =
        let ρ = pos s ∷ x ∷ P s x 0 ∷ P s x 1 ∷ P s x 2 ∷ pos (dropped 0) ∷ [] in
        ⇑ ρ (search ring depth 20) (omega (arith, ⇓ ρ (P_next 0) (search ring depth 20), ⇓ ρ (ap (λ (z : ℤ). pos s *ℤ z) P_none) (search ring), ⇓ ρ (ap (λ (z : ℤ). x *ℤ z) P_one) (search ring)))
    error_next (suc n) =
        let ρ = pos s ∷ x ∷ P s x (suc n) ∷ P s x (suc (suc n)) ∷ P s x (suc (suc (suc n))) ∷ pos (dropped (suc n)) ∷ power (pos s) n ∷ Q (pos s) x (suc n) ∷ Q (pos s) x n ∷ [] in
        ⇑ ρ (search ring depth 20) (omega (arith, ⇓ ρ (ap (λ (z : ℤ). pos s *ℤ power (pos s) n *ℤ z) (P_next (suc n))) (search ring depth 20)))

    error_first : error 1 ≡ loss 0
    unfolding error loss power Q
    error_first = let ρ = x ∷ P s x 1 ∷ [] in ⇑ ρ (search ring depth 9) (omega (arith, ⇓ ρ P_one (search ring)))

    error_forced : Forced (pos s) x loss error
    error_forced = record { none = unfold error in refl; first = error_first; next = error_next }

    loss_within : (k : ℕ) → nat_abs (loss (suc k)) ≤ 1 * s ^ suc k
    unfolding loss dropped
    loss_within k =
        let t = pos 2 *ℤ x *ℤ P s x (suc k) in
        omega (arith, abs_neg (power (pos s) k *ℤ pos (floor_mod t s)), abs-* (power (pos s) k) (pos (floor_mod t s)), mul-le-mul {n₁ = nat_abs (power (pos s) k)} {m₁ = floor_mod t s} {n₂ = s ^ k} {m₂ = s} (le_of_eq (abs_power (pos s) k)) (omega (arith, floor_mod_lt t s h)), pow-suc s k)

    pub error_within : nat_abs x ≤ s → (n : ℕ) → 2 * nat_abs (error (suc n)) ≤ n * suc n * s ^ n
    error_within l n = omega (arith, forced_within error_forced 0 1 l (unfold loss in omega arith) loss_within n)

    -- s^n·P(n+1) is Q(n+1) and the error
    pub P_split : (n : ℕ) → pos (s ^ n) *ℤ P s x (suc n) ≡ Q (pos s) x (suc n) +ℤ error (suc n)
    unfolding error
    P_split n = rw (← power_pos s n) (⇑ (power (pos s) n ∷ P s x (suc n) ∷ Q (pos s) x (suc n) ∷ []) (search ring depth 9) refl)

    pub P_within : nat_abs x ≤ s → (n : ℕ) → 2 * nat_abs (P s x (suc n)) ≤ 2 * s + n * suc n
    P_within l n = le_of_mul-le-mul_left {k = s ^ n} (omega (arith, abs-* (pos (s ^ n)) (P s x (suc n)), ap nat_abs (P_split n), abs-+ (Q (pos s) x (suc n)) (error (suc n)), Q_within (pos s) x l (suc n), error_within l n, pow-succ' s n)) (one-le-pow n s h)
