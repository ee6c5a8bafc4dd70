-- Demand 3 (b) and (c): the listed marks against the exact sum, of which the value is the rounded one. (b) `exact_before`, `exact_after`: two seconds before a listed mark's second
-- the exact sum is under the mark, one second after it is over. (c) `exact_crossing_listed`: where the exact sum goes from under a mark to it or over, that mark is
-- listed, at most one second away. Both are proved over any value and exact sum that go together (`Tracking` of crate series). Assumes nothing.
use Rattle.std.specs.Prelude.{◌≡◌, refl, ◌⊎◌, List, [], ◌∷◌, ℕ, ℤ, pos, ◌+ℤ◌, ◌-ℤ◌, ◌*ℤ◌, ◌≤ℤ◌, ◌<ℤ◌}
use Rattle.std.proofs.Common.{⊎_elim, arith}
use Rattle.whole.specs.Parts.{ℤ_rules, →≤, parts_add}
use Rattle.whole.specs.Laws.{≤_total, ≤_trans, ≤-<_trans, <→≤, *_mono}
use Rattle.whole.specs.Solver.{⇑, ⇓, ring}
use Rattle.whole.specs.Distance.{clash, one_before, two_before}
use Rattle.chebyshev.specs.Segment.{allowance}
use Rattle.series.specs.Rising.{Rising, Tracking}
use Rattle.marks.specs.Marks.{index_at, marks, second_of}
use Rattle.marks.proofs.theory.Indices.{not_reached, reaches, index_mono}
use Rattle.marks.specs.Crossings.{Crossing, ◌∈◌, marked}
use Rattle.marks.proofs.theory.Crossings.{listed_exactly}
use Rattle.marks.proofs.theory.Located.{located, side}

-- ---- one step, in numbers: v and e at a second, v' and e' at the next, t a mark
module _ (v v' e e' t divisor : ℤ) (some_divisor : pos 0 <ℤ divisor)
    (above : (divisor *ℤ v) <ℤ (e +ℤ pos allowance *ℤ divisor))
    (below : e <ℤ (divisor *ℤ v +ℤ pos allowance *ℤ divisor))
    (above' : (divisor *ℤ v') <ℤ (e' +ℤ pos allowance *ℤ divisor))
    (below' : e' <ℤ (divisor *ℤ v' +ℤ pos allowance *ℤ divisor))
    (rise : ((e +ℤ pos 100 *ℤ divisor) ≤ℤ e') ⊎ ((v +ℤ pos 200) ≤ℤ v'))
  where
    abbrev ρ : List ℤ
    ρ = v ∷ v' ∷ e ∷ e' ∷ t ∷ divisor ∷ []

    scaled : {a b : ℤ} → a ≤ℤ b → (a *ℤ divisor) ≤ℤ (b *ℤ divisor)
    scaled h = *_mono divisor (<→≤ some_divisor) h

    -- the exact sum is under a mark a second before the value may reach it
    under_before : v' ≤ℤ t → e <ℤ (divisor *ℤ t)
    under_before h =
        let s = scaled h in
        ⊎_elim
        (λ (r : (e +ℤ pos 100 *ℤ divisor) ≤ℤ e'). ⇑ ρ (search ring depth 9) (omega (arith, ⇓ ρ r (search ring depth 9), ⇓ ρ some_divisor (search ring depth 9), ⇓ ρ s (search ring depth 9), ⇓ ρ below' (search ring depth 9))))
        (λ (r : (v +ℤ pos 200) ≤ℤ v'). ⇑ ρ (search ring depth 9) (omega (arith, ⇓ ρ (scaled r) (search ring depth 9), ⇓ ρ some_divisor (search ring depth 9), ⇓ ρ s (search ring depth 9), ⇓ ρ below (search ring depth 9))))
        rise

    -- and over it a second after the value has
    over_after : t ≤ℤ v → (divisor *ℤ t) <ℤ e'
    over_after h =
        let s = scaled h in
        ⊎_elim
        (λ (r : (e +ℤ pos 100 *ℤ divisor) ≤ℤ e'). ⇑ ρ (search ring depth 9) (omega (arith, ⇓ ρ r (search ring depth 9), ⇓ ρ some_divisor (search ring depth 9), ⇓ ρ s (search ring depth 9), ⇓ ρ above (search ring depth 9))))
        (λ (r : (v +ℤ pos 200) ≤ℤ v'). ⇑ ρ (search ring depth 9) (omega (arith, ⇓ ρ (scaled r) (search ring depth 9), ⇓ ρ some_divisor (search ring depth 9), ⇓ ρ s (search ring depth 9), ⇓ ρ above' (search ring depth 9))))
        rise

    -- the value is under a mark a second before the exact sum may reach it
    value_under : e' <ℤ (divisor *ℤ t) → v <ℤ t
    value_under h =
        ⊎_elim
        (λ (k : t ≤ℤ v).
        let s = scaled k in
        absurd (⊎_elim
        (λ (r : (e +ℤ pos 100 *ℤ divisor) ≤ℤ e'). omega (arith, ⇓ ρ r (search ring depth 9), ⇓ ρ some_divisor (search ring depth 9), ⇓ ρ s (search ring depth 9), ⇓ ρ above (search ring depth 9), ⇓ ρ h (search ring depth 9)))
        (λ (r : (v +ℤ pos 200) ≤ℤ v'). omega (arith, ⇓ ρ (scaled r) (search ring depth 9), ⇓ ρ some_divisor (search ring depth 9), ⇓ ρ s (search ring depth 9), ⇓ ρ above' (search ring depth 9), ⇓ ρ h (search ring depth 9)))
        rise))
        (λ (k : v <ℤ t). k)
        (≤_total t v)

    -- and has reached it a second after the exact sum has
    value_reached : (divisor *ℤ t) ≤ℤ e → t ≤ℤ v'
    value_reached h =
        ⊎_elim
        (λ (k : t ≤ℤ v'). k)
        (λ (k : v' <ℤ t).
        let s = scaled (<→≤ k) in
        absurd (⊎_elim
        (λ (r : (e +ℤ pos 100 *ℤ divisor) ≤ℤ e'). omega (arith, ⇓ ρ r (search ring depth 9), ⇓ ρ some_divisor (search ring depth 9), ⇓ ρ s (search ring depth 9), ⇓ ρ below' (search ring depth 9), ⇓ ρ h (search ring depth 9)))
        (λ (r : (v +ℤ pos 200) ≤ℤ v'). omega (arith, ⇓ ρ (scaled r) (search ring depth 9), ⇓ ρ some_divisor (search ring depth 9), ⇓ ρ s (search ring depth 9), ⇓ ρ below (search ring depth 9), ⇓ ρ h (search ring depth 9)))
        rise))
        (≤_total t v')

-- ---- the theorems
module _ {v exact : ℤ → ℤ} {divisor first last : ℤ} {size : ℕ} (rising : Rising v first last size) (tracking : Tracking v exact divisor first last) (ordered : first ≤ℤ last) where
  -- (b) where a mark is listed at s, the exact sum is under it at s - 2 ..
  pub exact_before : (j s : ℤ) → marked j s ∈ marks v size first last → first ≤ℤ (s -ℤ pos 2) → exact (s -ℤ pos 2) <ℤ (divisor *ℤ (j *ℤ pos size))
  exact_before j s i l =
      let c = (listed_exactly rising ordered (marked j s)).0 i in
      let x = c.after_first in
      let y = c.by_last in
      let p = one_before s in
      let q = two_before s in
      let next : (s -ℤ pos 2) +ℤ pos 1 ≡ s -ℤ pos 1 = ⇑ (s ∷ []) (search ring depth 9) refl in
      let l' : first ≤ℤ (s -ℤ pos 1) = omega ℤ_rules in
      let h : (s -ℤ pos 2) ≤ℤ last = omega ℤ_rules in
      let h' : (s -ℤ pos 1) ≤ℤ last = omega ℤ_rules in
      under_before (v (s -ℤ pos 2)) (v (s -ℤ pos 1)) (exact (s -ℤ pos 2)) (exact (s -ℤ pos 1)) (j *ℤ pos size) divisor tracking.some_divisor
      (tracking.not_far_above (s -ℤ pos 2) l h) (tracking.not_far_below (s -ℤ pos 2) l h) (tracking.not_far_above (s -ℤ pos 1) l' h') (tracking.not_far_below (s -ℤ pos 1) l' h')
      (rw next at (tracking.steps (s -ℤ pos 2) l (omega ℤ_rules)))
      (<→≤ c.less_before)

  -- .. and over it at s + 1, where those seconds are in the span
  pub exact_after : (j s : ℤ) → marked j s ∈ marks v size first last → (s +ℤ pos 1) ≤ℤ last → (divisor *ℤ (j *ℤ pos size)) <ℤ exact (s +ℤ pos 1)
  exact_after j s i h =
      let c = (listed_exactly rising ordered (marked j s)).0 i in
      let x = c.after_first in
      let p = parts_add s (pos 1) in
      let l : first ≤ℤ s = <→≤ x in
      let l' : first ≤ℤ (s +ℤ pos 1) = omega ℤ_rules in
      over_after (v s) (v (s +ℤ pos 1)) (exact s) (exact (s +ℤ pos 1)) (j *ℤ pos size) divisor tracking.some_divisor
      (tracking.not_far_above s l c.by_last) (tracking.not_far_below s l c.by_last) (tracking.not_far_above (s +ℤ pos 1) l' h) (tracking.not_far_below (s +ℤ pos 1) l' h)
      (tracking.steps s l (omega ℤ_rules))
      c.reached_here

  -- (c) where the exact sum is under a mark at a, and at it or over at b, the mark is listed, from a to b + 1
  pub exact_crossing_listed : (j a b : ℤ) → first <ℤ a → a ≤ℤ last → first ≤ℤ b → b <ℤ last → exact a <ℤ (divisor *ℤ (j *ℤ pos size)) → (divisor *ℤ (j *ℤ pos size)) ≤ℤ exact b →
      (s : ℤ) × (a ≤ℤ s) × (s ≤ℤ (b +ℤ pos 1)) × (marked j s ∈ marks v size first last)
  exact_crossing_listed j a b la ha lb hb under over =
      let p = one_before a in
      let q = parts_add b (pos 1) in
      let next : (a -ℤ pos 1) +ℤ pos 1 ≡ a = ⇑ (a ∷ []) (search ring depth 9) refl in
      let la' : first ≤ℤ (a -ℤ pos 1) = omega ℤ_rules in
      let ha' : (a -ℤ pos 1) ≤ℤ last = omega ℤ_rules in
      let lb' : first ≤ℤ (b +ℤ pos 1) = omega ℤ_rules in
      let hb' : (b +ℤ pos 1) ≤ℤ last = omega ℤ_rules in
      let low : index_at v size (a -ℤ pos 1) <ℤ j =
      not_reached v size rising.some_mark j (a -ℤ pos 1)
      (value_under (v (a -ℤ pos 1)) (v a) (exact (a -ℤ pos 1)) (exact a) (j *ℤ pos size) divisor tracking.some_divisor
      (tracking.not_far_above (a -ℤ pos 1) la' ha') (tracking.not_far_below (a -ℤ pos 1) la' ha') (tracking.not_far_above a (<→≤ la) ha) (tracking.not_far_below a (<→≤ la) ha)
      (rw next at (tracking.steps (a -ℤ pos 1) la' (omega ℤ_rules))) under)
      in
      let high : j ≤ℤ index_at v size (b +ℤ pos 1) =
      reaches v size rising.some_mark j (b +ℤ pos 1)
      (value_reached (v b) (v (b +ℤ pos 1)) (exact b) (exact (b +ℤ pos 1)) (j *ℤ pos size) divisor tracking.some_divisor
      (tracking.not_far_above b lb (<→≤ hb)) (tracking.not_far_below b lb (<→≤ hb)) (tracking.not_far_above (b +ℤ pos 1) lb' hb') (tracking.not_far_below (b +ℤ pos 1) lb' hb')
      (tracking.steps b lb hb) over)
      in
      let s = second_of v size first last j in
      let c : Crossing v size first last (marked j s) =
      located rising ordered j
      (≤-<_trans (index_mono rising (→≤ (omega arith)) la' ha') low)
      (≤_trans high (index_mono rising lb' hb' (→≤ (omega arith))))
      in (
        s,
        ⊎_elim (λ (k : a ≤ℤ s). k) (λ (k : s <ℤ a). absurd (clash low ((side rising j s (a -ℤ pos 1) c la' ha').0 (omega ℤ_rules)))) (≤_total a s),
        (side rising j s (b +ℤ pos 1) c lb' hb').1 high,
        (listed_exactly rising ordered (marked j s)).1 c,
      )
