-- How the index of a rising value goes: it is reached where its marks are, it never falls, and it rises by at most one from a second to the next.
-- Assumes nothing.
use Rattle.std.specs.Prelude.{◌≡◌, ℕ, zero, suc, ◌<◌, ◌+ℤ◌, ◌*ℤ◌, ◌≤ℤ◌, ◌<ℤ◌}
use Rattle.std.proofs.Common.{sym, ◌∙◌, subst, ⊎_elim, arith}
use mathlib.Core.List.{List, [], ◌∷◌}
use Rattle.std.proofs.Math.IntN.{ℤ, pos}
use Rattle.whole.specs.Parts.{ℤ_rules, →≤, →≡, parts_add}
use Rattle.whole.specs.Laws.{≤_total, ≤_trans, <→≤, *_mono}
use Rattle.whole.specs.Floor.{floor_div}
use Rattle.whole.proofs.Floor.{floor_div_ge, floor_div_le, floor_div_low, floor_div_high, floor_div_mono}
use Rattle.whole.specs.Distance.{distance_from, clash, next, lies_after}
use Rattle.whole.specs.Solver.{⇑, ⇓, ring}
use Rattle.series.specs.Rising.{Rising}
use Rattle.marks.specs.Marks.{index_at}

-- ---- j is reached where its marks are
module _ (v : ℤ → ℤ) (size : ℕ) (some_mark : 0 < size) (j s : ℤ) where
  pub reached : j ≤ℤ index_at v size s → (j *ℤ pos size) ≤ℤ v s
  unfolding index_at
  reached h = ≤_trans (*_mono (pos size) (→≤ (omega arith)) h) (floor_div_low (v s) size some_mark)

  pub reaches : (j *ℤ pos size) ≤ℤ v s → j ≤ℤ index_at v size s
  unfolding index_at
  reaches h = floor_div_ge size some_mark h

  pub ahead : index_at v size s <ℤ j → v s <ℤ (j *ℤ pos size)
  ahead h = ⊎_elim (λ (k : (j *ℤ pos size) ≤ℤ v s). absurd (clash h (reaches k))) (λ (k : v s <ℤ (j *ℤ pos size)). k) (≤_total (j *ℤ pos size) (v s))

  pub not_reached : v s <ℤ (j *ℤ pos size) → index_at v size s <ℤ j
  not_reached h = ⊎_elim (λ (k : j ≤ℤ index_at v size s). absurd (clash h (reached k))) (λ (k : index_at v size s <ℤ j). k) (≤_total j (index_at v size s))

-- ---- from a second to the next, and over many
module _ {v : ℤ → ℤ} {first last : ℤ} {size : ℕ} (rising : Rising v first last size) where
  pub index_rises : (s : ℤ) → first ≤ℤ s → s <ℤ last → index_at v size s ≤ℤ index_at v size (s +ℤ pos 1)
  unfolding index_at
  index_rises s l h = floor_div_mono size rising.some_mark (<→≤ (rising.rises s l h))

  pub index_rises_by_one : (s : ℤ) → first ≤ℤ s → s <ℤ last → index_at v size (s +ℤ pos 1) ≤ℤ (index_at v size s +ℤ pos 1)
  unfolding index_at
  index_rises_by_one s l h =
      floor_div_le size rising.some_mark
      (⇑ ρ (search ring depth 9) (omega (arith, ⇓ ρ (rising.less_than_a_mark s l h) (search ring depth 9), ⇓ ρ (floor_div_high (v s) size rising.some_mark) (search ring depth 9))))
    where
      ρ : List ℤ
      ρ = v s ∷ v (s +ℤ pos 1) ∷ floor_div (v s) size ∷ pos size ∷ []

  index_after : (n : ℕ) (a b : ℤ) → first ≤ℤ a → b ≤ℤ last → b ≡ a +ℤ pos n → index_at v size a ≤ℤ index_at v size b
  index_after zero a b l h e =
      let same : b ≡ a = e ∙ →≡ (omega (arith, parts_add a (pos 0))) in
      subst (λ (z : ℤ). index_at v size a ≤ℤ index_at v size z) (sym same) (→≤ (omega arith))
  index_after (suc n) a b l h e =
      let p = parts_add a (pos 1) in
      let q = parts_add a (pos (suc n)) in
      ≤_trans (index_rises a l (omega ℤ_rules)) (index_after n (a +ℤ pos 1) b (omega ℤ_rules) h (e ∙ next a n))

  pub index_mono : {a b : ℤ} → first ≤ℤ a → a ≤ℤ b → b ≤ℤ last → index_at v size a ≤ℤ index_at v size b
  index_mono {a} {b} l k h = index_after (distance_from a b) a b l h (lies_after k)
