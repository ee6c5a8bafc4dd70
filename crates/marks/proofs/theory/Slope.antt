-- From each second of a span to the next the value rises by at least 37: so one look tells how far from there a mark's second lies. Assumes nothing.
use Rattle.std.specs.Prelude.{◌≡◌, refl, [], ◌∷◌, ℕ, zero, suc, ◌+◌, ◌*◌, ℤ, pos, ◌+ℤ◌, ◌-ℤ◌, ◌*ℤ◌}
use Rattle.std.proofs.Common.{sym, subst, ⊎_elim, arith}
use Rattle.whole.specs.Parts.{◌⩽◌, ◌≺◌}
use Rattle.whole.specs.Laws.{≤_total, <→≤}
use Rattle.whole.specs.Distance.{distance_from, lies_after}
use Rattle.whole.specs.Floor.{floor_div}
use Rattle.whole.proofs.Floor.{floor_div_ge, floor_div_low}
use Rattle.whole.specs.Solver.{⇑, ⇓, ring}
use Rattle.chebyshev.specs.Segment.{divisor}
use Rattle.analysis.specs.theory.Between.{values_rise}
use Rattle.series.specs.Bodies.{numbers}
use Rattle.series.specs.Series.{Series, InSpan, value_at, exact_at, last_second}
use Rattle.series.specs.Acceptance.{Accepted}
use Rattle.series.proofs.Theorems.{accepted_tracks}
use Rattle.marks.specs.Listed.{second_of_mark, MarkAt}

module _ (s : Series) (e : Accepted s) where
  one_second : (t : ℤ) → s.start ⩽ t → t ≺ last_second s → value_at s t +ℤ pos 37 ⩽ value_at s (t +ℤ pos 1)
  one_second t low high =
      let k = accepted_tracks s e in
      let ρ = t ∷ last_second s ∷ s.start ∷ [] in
      let next_low : s.start ⩽ t +ℤ pos 1 = ⇑ ρ (search ring depth 9) (omega (arith, ⇓ ρ low (search ring depth 9))) in
      let next-high : t +ℤ pos 1 ⩽ last_second s = ⇑ ρ (search ring depth 9) (omega (arith, ⇓ ρ high (search ring depth 9))) in
      ⊎_elim
      (λ (r : exact_at s t +ℤ pos 100 *ℤ divisor ⩽ exact_at s (t +ℤ pos 1)). values_rise divisor (value_at s t) (value_at s (t +ℤ pos 1)) (exact_at s t) (exact_at s (t +ℤ pos 1)) k.some_divisor (k.not_far_above t low (<→≤ high)) (k.not_far_below (t +ℤ pos 1) next_low next-high) r)
      (λ (r : value_at s t +ℤ pos 200 ⩽ value_at s (t +ℤ pos 1)). let σ = value_at s t ∷ value_at s (t +ℤ pos 1) ∷ [] in ⇑ σ (search ring depth 9) (omega (arith, ⇓ σ r (search ring depth 9))))
      (k.steps t low high)

  rises_after : (n : ℕ) (a : ℤ) → s.start ⩽ a → a +ℤ pos n ⩽ last_second s → value_at s a +ℤ pos (37 * n) ⩽ value_at s (a +ℤ pos n)
  rises_after zero a low high = let same : a +ℤ pos 0 ≡ a = ⇑ (a ∷ []) (search ring depth 9) refl in rw same (⇑ (value_at s a ∷ []) (search ring depth 9) (omega arith))
  rises_after (suc n) a low high =
      let b = a +ℤ pos n in
      let up : a +ℤ pos (suc n) ≡ b +ℤ pos 1 = let one : suc n ≡ n + 1 = omega arith in rw one (⇑ (a ∷ pos n ∷ []) (search ring depth 9) refl) in
      let more : 37 * suc n ≡ 37 * n + 37 = omega arith in
      let ρ = a ∷ pos n ∷ s.start ∷ last_second s ∷ [] in
      let high' : b +ℤ pos 1 ⩽ last_second s = rw up at high in
      let before : b ≺ last_second s = ⇑ ρ (search ring depth 9) (omega (arith, ⇓ ρ high' (search ring depth 9))) in
      let first = rises_after n a low (<→≤ before) in
      let last = one_second b (⇑ ρ (search ring depth 9) (omega (arith, ⇓ ρ low (search ring depth 9)))) before in
      let σ = value_at s a ∷ value_at s b ∷ value_at s (b +ℤ pos 1) ∷ pos n ∷ [] in
      rw (up, more) (⇑ σ (search ring depth 9) (omega (arith, ⇓ σ first (search ring depth 9), ⇓ σ last (search ring depth 9))))

  -- over any seconds of the span
  rises_by_37 : (a b : ℤ) → s.start ⩽ a → a ⩽ b → b ⩽ last_second s → value_at s a +ℤ pos 37 *ℤ (b -ℤ a) ⩽ value_at s b
  rises_by_37 a b low order high =
      let d = distance_from a b in
      let is : b ≡ a +ℤ pos d = lies_after order in
      let rise : value_at s a +ℤ pos (37 * d) ⩽ value_at s b = subst (λ (z : ℤ). value_at s a +ℤ pos (37 * d) ⩽ value_at s z) (sym is) (rises_after d a low (subst (λ (z : ℤ). z ⩽ last_second s) is high)) in
      let ρ = value_at s a ∷ value_at s b ∷ a ∷ b ∷ pos d ∷ [] in
      ⇑ ρ (search ring depth 9) (omega (arith, ⇓ ρ is (search ring depth 9), ⇓ ρ rise (search ring depth 9)))

  -- what a look at a second tells of a mark
  module _ (j at : ℤ) (inside : InSpan s at) (mark : MarkAt s j (second_of_mark s j)) where
    -- from the look to the second before the mark's
    up_to_mark : at ≺ second_of_mark s j → value_at s at +ℤ pos 37 *ℤ (second_of_mark s j -ℤ pos 1 -ℤ at) ≺ j *ℤ pos (numbers s.body).mark_size
    up_to_mark h =
        let m = second_of_mark s j in
        let t = j *ℤ pos (numbers s.body).mark_size in
        let ρ = at ∷ m ∷ s.start ∷ last_second s ∷ [] in
        let r = rises_by_37 at (m -ℤ pos 1) inside.from_start
        (⇑ ρ (search ring depth 9) (omega (arith, ⇓ ρ h (search ring depth 9))))
        (⇑ ρ (search ring depth 9) (omega (arith, ⇓ ρ mark.by_last (search ring depth 9)))) in
        let σ = at ∷ m ∷ value_at s at ∷ value_at s (m -ℤ pos 1) ∷ t ∷ [] in
        ⇑ σ (search ring depth 9) (omega (arith, ⇓ σ r (search ring depth 9), ⇓ σ mark.less_before (search ring depth 9)))

    -- from the mark's second to the look
    down_to_mark : second_of_mark s j ⩽ at → j *ℤ pos (numbers s.body).mark_size +ℤ pos 37 *ℤ (at -ℤ second_of_mark s j) ⩽ value_at s at
    down_to_mark h =
        let m = second_of_mark s j in
        let t = j *ℤ pos (numbers s.body).mark_size in
        let r = rises_by_37 m at (<→≤ mark.after_first) h inside.to_last in
        let σ = at ∷ m ∷ value_at s at ∷ value_at s m ∷ t ∷ [] in
        ⇑ σ (search ring depth 9) (omega (arith, ⇓ σ r (search ring depth 9), ⇓ σ mark.reached_here (search ring depth 9)))

    -- the value there is under the mark
    pub mark_ahead : value_at s at ≺ j *ℤ pos (numbers s.body).mark_size → (at ≺ second_of_mark s j) × (second_of_mark s j ⩽ at +ℤ floor_div (j *ℤ pos (numbers s.body).mark_size -ℤ value_at s at) 37 +ℤ pos 1)
    mark_ahead under =
        let m = second_of_mark s j in
        let t = j *ℤ pos (numbers s.body).mark_size in
        let σ = at ∷ m ∷ value_at s at ∷ t ∷ [] in
        let after : at ≺ m = ⊎_elim
        (λ (h : m ⩽ at). absurd (omega (arith, ⇓ σ h (search ring depth 9), ⇓ σ (down_to_mark h) (search ring depth 9), ⇓ σ under (search ring depth 9))))
        (λ (h : at ≺ m). h)
        (≤_total m at) in
        let q = floor_div (t -ℤ value_at s at) 37 in
        let most : m -ℤ pos 1 -ℤ at ⩽ q = floor_div_ge {z = t -ℤ value_at s at} {q = m -ℤ pos 1 -ℤ at} 37 (omega arith) (⇑ σ (search ring depth 9) (omega (arith, ⇓ σ (up_to_mark after) (search ring depth 9)))) in
        let ρ = at ∷ m ∷ q ∷ [] in
        (after, ⇑ ρ (search ring depth 9) (omega (arith, ⇓ ρ most (search ring depth 9))))

    -- or has reached it
    pub mark_behind : j *ℤ pos (numbers s.body).mark_size ⩽ value_at s at → (at +ℤ floor_div (j *ℤ pos (numbers s.body).mark_size -ℤ value_at s at) 37 -ℤ pos 1 ≺ second_of_mark s j) × (second_of_mark s j ⩽ at)
    mark_behind reached =
        let m = second_of_mark s j in
        let t = j *ℤ pos (numbers s.body).mark_size in
        let σ = at ∷ m ∷ value_at s at ∷ t ∷ [] in
        let by : m ⩽ at = ⊎_elim
        (λ (h : m ⩽ at). h)
        (λ (h : at ≺ m). absurd (omega (arith, ⇓ σ h (search ring depth 9), ⇓ σ (up_to_mark h) (search ring depth 9), ⇓ σ reached (search ring depth 9))))
        (≤_total m at) in
        let q = floor_div (t -ℤ value_at s at) 37 in
        let ρ = at ∷ m ∷ value_at s at ∷ t ∷ q ∷ [] in
        let low = floor_div_low (t -ℤ value_at s at) 37 (omega arith) in
        (⇑ ρ (search ring depth 9) (omega (arith, ⇓ ρ low (search ring depth 9), ⇓ ρ (down_to_mark by) (search ring depth 9))), by)
