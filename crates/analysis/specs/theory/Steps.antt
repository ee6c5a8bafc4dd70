-- From one place to another, at any scale s: Q(n) at y less Q(n) at x is (y - x)·G(n) with |G(n)| ≤ n²·s^(n-1), so the exact sum rises as c1 and the
-- weights of the others say. Assumes nothing.
use Rattle.std.specs.Prelude.{◌≡◌, ℤ, neg_ℤ, ◌+ℤ◌, ◌-ℤ◌, ◌*ℤ◌}
use Rattle.std.proofs.Math.Path.{refl}
use Rattle.std.proofs.Common.{sym, ap, ◌∙◌, mul-le-mul_left}
use mathlib.Core.List.{[], ◌∷◌}
use Prim.Native.Nat.{ℕ, zero, suc, ◌*◌, ◌-◌, ◌^◌, ◌≤◌, ◌<◌}
use native.Mathlib.Omega.{arith}
use Rattle.std.proofs.Math.Nat.{pow-succ'}
use Rattle.std.proofs.Math.IntN.{pos, nat_abs}
use Rattle.whole.specs.Parts.{◌⩽◌, →≤}
use Rattle.whole.specs.Laws.{abs-*, abs→, *_nonneg}
use Rattle.whole.specs.Solver.{⇑, ⇓, ring}
use Rattle.chebyshev.specs.Polynomials.{Q}
use Rattle.chebyshev.specs.Segment.{sum}
use Rattle.analysis.specs.theory.Pell.{Q_within}
use Rattle.analysis.specs.theory.Forced.{Forced, forced_within}
use Rattle.analysis.specs.theory.Sums.{weights, sum_linear, sum_first, sum_weighed, sum_pos}
use Rattle.analysis.specs.theory.Nearness.{power_apart}

module _ (s x y : ℤ) where
  -- the divided difference of Q
  unfoldable pub G : ℕ → ℤ
  G zero = pos 0
  G (suc zero) = pos 1
  G (suc (suc n)) = pos 2 *ℤ x *ℤ G (suc n) -ℤ s *ℤ s *ℤ G n +ℤ pos 2 *ℤ Q s y (suc n)

  unfoldable pub drive : ℕ → ℤ
  drive zero = pos 1
  drive (suc n) = pos 2 *ℤ Q s y (suc n)

  pub Q_difference : (n : ℕ) → Q s y n -ℤ Q s x n ≡ (y -ℤ x) *ℤ G n
  unfolding Q G
  Q_difference zero = ⇑ (x ∷ y ∷ []) (search ring depth 9) refl
  Q_difference (suc zero) = ⇑ (x ∷ y ∷ []) (search ring depth 9) refl
  Q_difference (suc (suc n)) =
      let ρ = s ∷ x ∷ y ∷ Q s y (suc n) ∷ Q s y n ∷ Q s x (suc n) ∷ Q s x n ∷ G (suc n) ∷ G n ∷ [] in
      ⇑ ρ (search ring depth 20)
      (omega (
        arith,
        ⇓ ρ (ap (λ (z : ℤ). x *ℤ z) (Q_difference (suc n))) (search ring depth 20),
        ⇓ ρ (ap (λ (z : ℤ). s *ℤ s *ℤ z) (Q_difference n)) (search ring depth 20),
      ))

  G_forced : Forced s x drive G
  G_forced = record { none = unfold G in refl; first = unfold G drive in refl; next = λ n. unfold G drive in refl }

  pub G_within : nat_abs x ≤ nat_abs s → nat_abs y ≤ nat_abs s → (n : ℕ) → nat_abs (G (suc n)) ≤ suc n * suc n * nat_abs s ^ n
  G_within h k n = omega (arith, forced_within G_forced 1 2 h (unfold drive in omega arith) drive_within n)
    where
      drive_within : (n : ℕ) → nat_abs (drive (suc n)) ≤ 2 * nat_abs s ^ suc n
      drive_within n = unfold drive in omega (arith, abs-* (pos 2) (Q s y (suc n)), Q_within s y k (suc n))

nonneg : {n : ℕ} → pos 0 ⩽ pos n
nonneg {n} = →≤ (omega arith)

module _ (s : ℕ) (c : ℕ → ℤ) where
  abbrev pub true_sum : ℤ → ℤ
  true_sum x = sum 1 13 (λ (n : ℕ). c n *ℤ pos (s ^ (13 - n)) *ℤ Q (pos s) x n)

  module _ (x y : ℤ) where
    abbrev terms : ℕ → ℤ
    terms n = c n *ℤ pos (s ^ (13 - n)) *ℤ G (pos s) x y n

    sum_difference : (y -ℤ x) *ℤ sum 1 13 terms ≡ pos 1 *ℤ true_sum y +ℤ neg_ℤ (pos 1) *ℤ true_sum x
    sum_difference = sum_linear (y -ℤ x) (pos 1) (neg_ℤ (pos 1)) 1 13 terms (λ (n : ℕ). c n *ℤ pos (s ^ (13 - n)) *ℤ Q (pos s) y n) (λ (n : ℕ). c n *ℤ pos (s ^ (13 - n)) *ℤ Q (pos s) x n) (λ n l m. each n)
      where
        each : (n : ℕ) → (y -ℤ x) *ℤ terms n ≡ pos 1 *ℤ (c n *ℤ pos (s ^ (13 - n)) *ℤ Q (pos s) y n) +ℤ neg_ℤ (pos 1) *ℤ (c n *ℤ pos (s ^ (13 - n)) *ℤ Q (pos s) x n)
        each n =
            let ρ = x ∷ y ∷ c n ∷ pos (s ^ (13 - n)) ∷ G (pos s) x y n ∷ Q (pos s) y n ∷ Q (pos s) x n ∷ [] in
            ⇑ ρ (search ring depth 12) (omega (arith, ⇓ ρ (ap (λ (z : ℤ). c n *ℤ pos (s ^ (13 - n)) *ℤ z) (Q_difference (pos s) x y n)) (search ring depth 12)))

    -- the terms after the first
    abbrev rest : ℤ
    rest = sum 2 12 terms

    first_apart : sum 1 13 terms ≡ c 1 *ℤ pos (s ^ 12) +ℤ rest
    first_apart = sum_first 12 terms ∙ unfold G in ⇑ (c 1 ∷ pos (s ^ 12) ∷ sum 2 12 terms ∷ []) (search ring depth 9) refl

    rest_within : nat_abs x ≤ s → nat_abs y ≤ s → nat_abs rest ≤ s ^ 12 * weights c
    rest_within h k = omega (arith, sum_weighed 1 (s ^ 12) 2 12 terms (λ (n : ℕ). n * n * nat_abs (c n)) (λ n l m. each n l (omega arith)))
      where
        counted : (n a p t u g : ℕ) → g ≤ suc n * suc n * t → u ≡ p * t → 1 * (a * p * g) ≤ u * (suc n * suc n * a)
        counted n a p t u g l m = omega (arith, mul-le-mul_left (a * p) l, ap (λ (z : ℕ). a * (suc n * suc n) * z) m)

        each : (n : ℕ) → 2 ≤ n → n < 14 → 1 * nat_abs (terms n) ≤ s ^ 12 * (n * n * nat_abs (c n))
        each zero l m = absurd (omega arith)
        each (suc n) l m =
            rw (e, abs-* (c (suc n) *ℤ pos (s ^ (12 - n))) (G (pos s) x y (suc n)), abs-* (c (suc n)) (pos (s ^ (12 - n))))
            (counted n (nat_abs (c (suc n))) (s ^ (12 - n)) (s ^ n) (s ^ 12) (nat_abs (G (pos s) x y (suc n))) (G_within (pos s) x y h k n) (power_apart s n (omega arith)))
          where
            e : 13 - suc n ≡ 12 - n
            e = omega arith

  -- one second later: the place moves by q, where q seconds' worth of H make the scale
  module _ (x : ℤ) (H q : ℕ) (e : q * H ≡ s) (h : nat_abs x ≤ s) (k : nat_abs (x +ℤ pos q) ≤ s) (slow : pos (100 * H) ⩽ c 1 -ℤ sum 2 12 (λ (n : ℕ). pos (n * n * nat_abs (c n)))) where
    abbrev later : ℤ
    later = x +ℤ pos q

    step_is : true_sum later ≡ true_sum x +ℤ pos q *ℤ (c 1 *ℤ pos (s ^ 12) +ℤ rest x later)
    step_is =
        let t = sum 1 13 (terms x later) in
        let ρ = x ∷ pos q ∷ true_sum x ∷ true_sum later ∷ c 1 ∷ pos (s ^ 12) ∷ rest x later ∷ t ∷ [] in
        ⇑ ρ (search ring depth 12)
        (omega (
          arith,
          ⇓ ρ (sum_difference x later) (search ring depth 12),
          ⇓ ρ (ap (λ (z : ℤ). pos q *ℤ z) (first_apart x later)) (search ring depth 12),
        ))

    divisor_is : pos (s ^ 13) ≡ pos q *ℤ pos H *ℤ pos (s ^ 12)
    divisor_is = ap pos (pow-succ' s 12 ∙ ap (λ (z : ℕ). z * s ^ 12) (sym e))

    slow_enough : pos 0 ⩽ c 1 -ℤ pos (weights c) -ℤ pos 100 *ℤ pos H
    slow_enough =
        let w = sum 2 12 (λ (n : ℕ). pos (n * n * nat_abs (c n))) in
        let ρ = pos H ∷ c 1 ∷ w ∷ pos (weights c) ∷ [] in
        ⇑ ρ (search ring depth 12) (omega (arith, ⇓ ρ slow (search ring depth 12), ⇓ ρ (sum_pos 2 12 (λ (n : ℕ). n * n * nat_abs (c n))) (search ring depth 12)))

    rest_low : pos 0 ⩽ rest x later +ℤ pos (s ^ 12) *ℤ pos (weights c)
    rest_low = let ρ = rest x later ∷ pos (s ^ 12) ∷ pos (weights c) ∷ [] in ⇑ ρ (search ring depth 9) (omega (arith, ⇓ ρ (abs→ {z = rest x later} (s ^ 12 * weights c) (rest_within x later h k)).0 (search ring depth 9)))

    rest_high : pos 0 ⩽ pos (s ^ 12) *ℤ pos (weights c) -ℤ rest x later
    rest_high = let ρ = rest x later ∷ pos (s ^ 12) ∷ pos (weights c) ∷ [] in ⇑ ρ (search ring depth 9) (omega (arith, ⇓ ρ (abs→ {z = rest x later} (s ^ 12 * weights c) (rest_within x later h k)).1 (search ring depth 9)))

    pub rises : (c 0 *ℤ pos (s ^ 13) +ℤ true_sum x) +ℤ pos 100 *ℤ pos (s ^ 13) ⩽ c 0 *ℤ pos (s ^ 13) +ℤ true_sum later
    rises =
        let R = rest x later in
        let ρ = pos q ∷ pos H ∷ pos (s ^ 12) ∷ pos (s ^ 13) ∷ c 0 ∷ c 1 ∷ pos (weights c) ∷ R ∷ true_sum x ∷ true_sum later ∷ [] in
        ⇑ ρ (search ring depth 12)
        (omega (
          arith,
          ⇓ ρ step_is (search ring depth 12),
          ⇓ ρ divisor_is (search ring depth 12),
          ⇓ ρ (*_nonneg {a = pos q} {b = R +ℤ pos (s ^ 12) *ℤ pos (weights c)} nonneg rest_low) (search ring depth 12),
          ⇓ ρ (*_nonneg {a = pos q *ℤ pos (s ^ 12)} nonneg slow_enough) (search ring depth 12),
        ))

    pub rises_little : (m : ℕ) → nat_abs (c 1) ≤ m → pos H *ℤ ((c 0 *ℤ pos (s ^ 13) +ℤ true_sum later) -ℤ (c 0 *ℤ pos (s ^ 13) +ℤ true_sum x)) ⩽ (pos (2 * m) -ℤ pos (100 * H)) *ℤ pos (s ^ 13)
    rises_little m l =
        let R = rest x later in
        let ρ = pos q ∷ pos H ∷ pos (s ^ 12) ∷ pos (s ^ 13) ∷ c 0 ∷ c 1 ∷ pos (weights c) ∷ R ∷ true_sum x ∷ true_sum later ∷ pos m ∷ [] in
        let room : pos 0 ⩽ pos 2 *ℤ pos m -ℤ pos 100 *ℤ pos H -ℤ c 1 -ℤ pos (weights c) = ⇑ ρ (search ring depth 12) (omega (arith, ⇓ ρ slow_enough (search ring depth 12), ⇓ ρ (abs→ {z = c 1} m l).1 (search ring depth 12))) in
        ⇑ ρ (search ring depth 12)
        (omega (
          arith,
          ⇓ ρ (ap (λ (z : ℤ). pos H *ℤ z) step_is) (search ring depth 12),
          ⇓ ρ (ap (λ (z : ℤ). pos m *ℤ z) divisor_is) (search ring depth 12),
          ⇓ ρ (ap (λ (z : ℤ). pos H *ℤ z) divisor_is) (search ring depth 12),
          ⇓ ρ (*_nonneg {a = pos H *ℤ pos q} {b = pos (s ^ 12) *ℤ pos (weights c) -ℤ R} nonneg rest_high) (search ring depth 12),
          ⇓ ρ (*_nonneg {a = pos q *ℤ pos H *ℤ pos (s ^ 12)} nonneg room) (search ring depth 12),
        ))
