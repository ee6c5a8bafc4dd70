-- From sums that rise to values that rise: v and w are values near the sums e and f over a divisor d. Assumes nothing.
use Rattle.std.specs.Prelude.{List, [], ◌∷◌, ℕ, ◌*◌, ◌≤◌, ℤ, pos, neg_ℤ, nat_abs, ◌+ℤ◌, ◌-ℤ◌, ◌*ℤ◌}
use Rattle.std.proofs.Common.{⊎_elim, arith}
use Rattle.whole.specs.Parts.{◌⩽◌, ◌≺◌, →≤, ℤ_rules, parts_abs, pos_part_neg, neg_part_neg}
use Rattle.whole.specs.Laws.{*_nonneg, ≤_total, <→≤}
use Rattle.whole.specs.Solver.{⇑, ⇓, ring}
use Rattle.chebyshev.specs.Segment.{allowance}

-- |z| < k says that z lies between -k and k
pub abs_below : (z k : ℤ) → pos (nat_abs z) ≺ k → z ≺ k
abs_below z k h = omega (ℤ_rules, parts_abs z)

pub abs_above : (z k : ℤ) → pos (nat_abs z) ≺ k → neg_ℤ k ≺ z
abs_above z k h = omega (ℤ_rules, parts_abs z, pos_part_neg k, neg_part_neg k)

module _ (d v w e f : ℤ) (positive : pos 0 ≺ d) where
  pub values_rise : d *ℤ v ≺ e +ℤ pos allowance *ℤ d → f ≺ d *ℤ w +ℤ pos allowance *ℤ d → e +ℤ pos 100 *ℤ d ⩽ f → v +ℤ pos 37 ⩽ w
  values_rise a b r = ⊎_elim (λ (l : v +ℤ pos 37 ⩽ w). l) (λ (l : w ≺ v +ℤ pos 37). absurd (no l)) (≤_total (v +ℤ pos 37) w)
    where
      ρ : List ℤ
      ρ = d ∷ v ∷ w ∷ e ∷ f ∷ []

      no : w ≺ v +ℤ pos 37 → ⊥
      no l =
          let k : pos 0 ⩽ v +ℤ pos 36 -ℤ w = ⇑ ρ (search ring depth 9) (omega (arith, ⇓ ρ l (search ring depth 9))) in
          omega (arith, ⇓ ρ a (search ring depth 9), ⇓ ρ b (search ring depth 9), ⇓ ρ r (search ring depth 9), ⇓ ρ (*_nonneg (<→≤ positive) k) (search ring depth 9))

  module _ (H : ℕ) (long : 172800 ≤ H) where
    pub values_rise_little : d *ℤ w ≺ f +ℤ pos allowance *ℤ d → e ≺ d *ℤ v +ℤ pos allowance *ℤ d → pos H *ℤ (f -ℤ e) ⩽ (pos 8000000000 -ℤ pos (100 * H)) *ℤ d → w ≺ v +ℤ pos 50000
    values_rise_little a b r = ⊎_elim (λ (l : v +ℤ pos 50000 ⩽ w). absurd (no l)) (λ (l : w ≺ v +ℤ pos 50000). l) (≤_total (v +ℤ pos 50000) w)
      where
        ρ : List ℤ
        ρ = d ∷ v ∷ w ∷ e ∷ f ∷ pos H ∷ []

        nonneg : pos 0 ⩽ pos H
        nonneg = →≤ (omega arith)

        no : v +ℤ pos 50000 ⩽ w → ⊥
        no l =
            let k : pos 0 ⩽ w -ℤ v -ℤ pos 50000 = ⇑ ρ (search ring depth 9) (omega (arith, ⇓ ρ l (search ring depth 9))) in
            let a' : pos 0 ⩽ f +ℤ pos allowance *ℤ d -ℤ d *ℤ w = ⇑ ρ (search ring depth 9) (omega (arith, ⇓ ρ a (search ring depth 9))) in
            let b' : pos 0 ⩽ d *ℤ v +ℤ pos allowance *ℤ d -ℤ e = ⇑ ρ (search ring depth 9) (omega (arith, ⇓ ρ b (search ring depth 9))) in
            let more : pos 0 ⩽ pos H -ℤ pos 172800 = ⇑ ρ (search ring depth 9) (omega arith) in
            omega (
              arith,
              ⇓ ρ r (search ring depth 12),
              ⇓ ρ positive (search ring depth 9),
              ⇓ ρ (*_nonneg nonneg a') (search ring depth 9),
              ⇓ ρ (*_nonneg nonneg b') (search ring depth 9),
              ⇓ ρ (*_nonneg nonneg (*_nonneg (<→≤ positive) k)) (search ring depth 9),
              ⇓ ρ (*_nonneg more (<→≤ positive)) (search ring depth 9),
            )
