-- A mark that a stretch reaches is at exactly one second of it, `second_of`, and any second in between tells on which side (`side`): so a search that halves finds
-- it. The k-th listed mark, from 0, is the one with index k + 1 more than the first second's (`listed_located`, `nth_listed`). Assumes nothing.
use Rattle.std.specs.Prelude.{◌≡◌, Bool, cond, ◌↔◌, length, get_or, ℤ, ◌+ℤ◌, ◌-ℤ◌, ◌≤ℤ◌, ◌<ℤ◌}
use Rattle.std.proofs.Math.Path.{refl, ap}
use Rattle.std.proofs.Common.{sym, ap₂, ◌∙◌, subst, arith}
use Rattle.std.proofs.Math.Bool.{true, false}
use Rattle.std.proofs.Math.Logic.{⊎_elim}
use mathlib.Core.List.Memᴰ
use mathlib.Core.List.{◌∷◌}
use Prim.Native.Nat.{ℕ, zero, suc, ◌<◌}
use Rattle.std.proofs.Math.IntN.{pos}
use Rattle.std.specs.Int.Signed.{le_z}
use Rattle.whole.specs.Parts.{ℤ_rules, →≤, →≡, parts_add}
use Rattle.whole.specs.Laws.{≤_trans, ≤-<_trans, <→≤, ≤_total}
use Rattle.whole.specs.Distance.{distance_from, clash, next, back_one, one_before, lies_after}
use Rattle.whole.specs.Solver.{le_yes, le_no}
use Rattle.series.specs.Rising.{Rising}
use Rattle.marks.specs.Marks.{Mark, index_at, mark_at, marks_after, marks, second_after, second_of}
use Rattle.marks.proofs.theory.Indices.{reached, reaches, ahead, not_reached, index_rises, index_rises_by_one, index_mono}
use Rattle.marks.proofs.theory.StretchLaws.{lists_none, lists_one, length_is}
use Rattle.marks.specs.Crossings.{Crossing, ◌∈◌, marked, numbered}
use Rattle.marks.proofs.theory.Crossings.{sooner, listed_exactly, one_second}

numbered_nth : (at : ℤ → ℤ) (j : ℤ) (n k : ℕ) (other : Mark) → k < n → get_or (numbered at j n) k other ≡ marked (j +ℤ pos k) (at (j +ℤ pos k))
unfolding numbered
numbered_nth at j zero k other h = absurd (omega arith)
numbered_nth at j (suc n) zero other h =
    let same : j +ℤ pos 0 ≡ j = →≡ (omega (arith, parts_add j (pos 0))) in
    rw same
numbered_nth at j (suc n) (suc k) other h =
    rw (next j k) (numbered_nth at (j +ℤ pos 1) n k other (omega arith))

module _ {v : ℤ → ℤ} {first last : ℤ} {size : ℕ} (rising : Rising v first last size) where
  crossed_after : (j : ℤ) (n : ℕ) (a b : ℤ) → first ≤ℤ a → b ≤ℤ last → b ≡ a +ℤ pos n → index_at v size a <ℤ j → j ≤ℤ index_at v size b → Crossing v size a b (marked j (second_after v size j a n))
  unfolding second_after
  crossed_after j zero a b l h e low high =
      let same : b ≡ a = e ∙ →≡ (omega (arith, parts_add a (pos 0))) in
      absurd (clash low (subst (λ (s : ℤ). j ≤ℤ index_at v size s) same high))
  crossed_after j (suc n) a b l h e low high =
      let p = parts_add a (pos 1) in
      let q = parts_add a (pos (suc n)) in
      let x : a <ℤ (a +ℤ pos 1) = omega ℤ_rules in
      let y : (a +ℤ pos 1) ≤ℤ b = omega ℤ_rules in
      go x y (λ more. crossed_after j n (a +ℤ pos 1) b (omega ℤ_rules) h (e ∙ next a n) more high) (le_z j (index_at v size (a +ℤ pos 1))) refl
    where
      go : a <ℤ (a +ℤ pos 1) → (a +ℤ pos 1) ≤ℤ b → (index_at v size (a +ℤ pos 1) <ℤ j → Crossing v size (a +ℤ pos 1) b (marked j (second_after v size j (a +ℤ pos 1) n))) → (t : Bool) → le_z j (index_at v size (a +ℤ pos 1)) ≡ t → Crossing v size a b (marked j (cond t (a +ℤ pos 1) (second_after v size j (a +ℤ pos 1) n)))
      go x y later true t =
          record {
            after_first = x;
            by_last = y;
            less_before = rw (back_one a) (ahead v size rising.some_mark j a low);
            reached_here = reached v size rising.some_mark j (a +ℤ pos 1) (le_yes t);
          }
      go x y later false t = sooner rising (later (le_no t))

  in_turn : (at : ℤ → ℤ) (n : ℕ) (a b : ℤ) → first ≤ℤ a → b ≤ℤ last → b ≡ a +ℤ pos n → ((m : Mark) → m ∈ marks_after v size a n → at m.index ≡ m.second) → marks_after v size a n ≡ numbered at (index_at v size a +ℤ pos 1) (length (marks_after v size a n))
  unfolding marks_after numbered
  in_turn at zero a b l h e right = refl
  in_turn at (suc n) a b l h e right =
      let p = parts_add a (pos 1) in
      let q = parts_add a (pos (suc n)) in
      let l' : first ≤ℤ (a +ℤ pos 1) = omega ℤ_rules in
      let rest : marks_after v size (a +ℤ pos 1) n ≡ numbered at (index_at v size (a +ℤ pos 1) +ℤ pos 1) (length (marks_after v size (a +ℤ pos 1) n)) = in_turn at n (a +ℤ pos 1) b l' h (e ∙ next a n) (λ m i. right m (Memᴰ.append_right (mark_at v size (a +ℤ pos 1)) i)) in
      let up = index_rises rising a l (omega ℤ_rules) in
      let near = index_rises_by_one rising a l (omega ℤ_rules) in
      let r = parts_add (index_at v size a) (pos 1) in
      ⊎_elim
      (λ (k : index_at v size (a +ℤ pos 1) ≤ℤ index_at v size a).
      let same : index_at v size (a +ℤ pos 1) ≡ index_at v size a = omega ℤ_rules in
      rw (lists_none v size (a +ℤ pos 1) (rw (back_one a) k)) (rw same at rest))
      (λ (k : index_at v size a <ℤ index_at v size (a +ℤ pos 1)).
      let same : index_at v size (a +ℤ pos 1) ≡ index_at v size a +ℤ pos 1 = omega ℤ_rules in
      let one = lists_one v size (a +ℤ pos 1) (rw (back_one a) k) in
      let there : at (index_at v size (a +ℤ pos 1)) ≡ a +ℤ pos 1 = right (marked (index_at v size (a +ℤ pos 1)) (a +ℤ pos 1)) (Memᴰ.append_left {s = mark_at v size (a +ℤ pos 1)} (marks_after v size (a +ℤ pos 1) n) (rw one (Memᴰ.head refl))) in
      rw one (ap₂ ◌∷◌ (ap₂ marked same (sym there ∙ ap at same)) (rw same at rest)))
      (≤_total (index_at v size (a +ℤ pos 1)) (index_at v size a))

  -- ---- the theorems

  -- a mark that is not reached at the first second, and is by the last, is crossed at `second_of`
  pub located : first ≤ℤ last → (j : ℤ) → index_at v size first <ℤ j → j ≤ℤ index_at v size last → Crossing v size first last (marked j (second_of v size first last j))
  unfolding second_of
  located o j low high = crossed_after j (distance_from first last) first last (→≤ (omega arith)) (→≤ (omega arith)) (lies_after o) low high

  -- what a crossing says of the indices
  crossing_index : {j s : ℤ} → Crossing v size first last (marked j s) → (index_at v size (s -ℤ pos 1) <ℤ j) × (j ≤ℤ index_at v size s)
  crossing_index {j} {s} c = (
    not_reached v size rising.some_mark j (s -ℤ pos 1) c.less_before,
    reaches v size rising.some_mark j s c.reached_here,
  )

  -- and at no other second
  pub located_only : (j s : ℤ) → Crossing v size first last (marked j s) → s ≡ second_of v size first last j
  located_only j s c =
      let x = c.after_first in
      let y = c.by_last in
      let z = one_before s in
      let i = crossing_index c in
      one_second rising j s (second_of v size first last j) c
      (located (omega ℤ_rules) j
      (≤-<_trans (index_mono rising (→≤ (omega arith)) (omega ℤ_rules) (omega ℤ_rules)) i.0)
      (≤_trans i.1 (index_mono rising (omega ℤ_rules) y (→≤ (omega arith)))))

  -- any second of the stretch tells on which side of it a mark is: at or before it exactly if it is reached there
  pub side : (j s m : ℤ) → Crossing v size first last (marked j s) → first ≤ℤ m → m ≤ℤ last → s ≤ℤ m ↔ j ≤ℤ index_at v size m
  side j s m c l h = (
    λ k. ≤_trans (crossing_index c).1 (index_mono rising (<→≤ c.after_first) k h),
    λ k. ⊎_elim (λ (o : s ≤ℤ m). o)
        (λ (o : m <ℤ s).
        let z = one_before s in
        let y = c.by_last in
        absurd (clash (crossing_index c).0 (≤_trans k (index_mono rising l (omega ℤ_rules) (omega ℤ_rules)))))
        (≤_total s m),
  )

  -- later marks are later
  pub seconds_rise : first ≤ℤ last → (j k : ℤ) → index_at v size first <ℤ j → j <ℤ k → k ≤ℤ index_at v size last → second_of v size first last j <ℤ second_of v size first last k
  seconds_rise o j k low less high =
      let s = second_of v size first last j in
      let t = second_of v size first last k in
      let c : Crossing v size first last (marked j s) = located o j low (omega ℤ_rules) in
      let d : Crossing v size first last (marked k t) = located o k (omega ℤ_rules) high in
      let x = c.after_first in
      let y = c.by_last in
      ⊎_elim
      (λ (h : t ≤ℤ s).
      let later = ≤_trans (crossing_index d).1 (index_mono rising (<→≤ d.after_first) h y) in
      let near = index_rises_by_one rising (s -ℤ pos 1) (let p = one_before s in omega ℤ_rules) (let p = one_before s in omega ℤ_rules) in
      let here : (s -ℤ pos 1) +ℤ pos 1 ≡ s = →≡ (omega (arith, parts_add (s -ℤ pos 1) (pos 1), one_before s)) in
      let near' : index_at v size s ≤ℤ (index_at v size (s -ℤ pos 1) +ℤ pos 1) = rw here at near in
      let before = (crossing_index c).0 in
      absurd (omega (ℤ_rules, parts_add (index_at v size (s -ℤ pos 1)) (pos 1))))
      (λ (h : s <ℤ t). h)
      (≤_total t s)

  listed_right : first ≤ℤ last → (m : Mark) → m ∈ marks v size first last → second_of v size first last m.index ≡ m.second
  listed_right o m i = sym (located_only m.index m.second ((listed_exactly rising o m).0 i))

  listed_in_turn : first ≤ℤ last → marks v size first last ≡ numbered (second_of v size first last) (index_at v size first +ℤ pos 1) (length (marks v size first last))
  unfolding marks
  listed_in_turn o = in_turn (second_of v size first last) (distance_from first last) first last (→≤ (omega arith)) (→≤ (omega arith)) (lies_after o) (listed_right o)

  -- the list is the marks from the first index after the first second's on, each at its second
  pub listed_located : first ≤ℤ last → marks v size first last ≡ numbered (second_of v size first last) (index_at v size first +ℤ pos 1) (distance_from (index_at v size first) (index_at v size last))
  listed_located o = listed_in_turn o ∙ ap (numbered (second_of v size first last) (index_at v size first +ℤ pos 1)) (length_is rising (→≤ (omega arith)) o (→≤ (omega arith)))

  -- the k-th listed mark, counted from 0
  pub nth_listed : first ≤ℤ last → (k : ℕ) (other : Mark) → k < length (marks v size first last) →
      get_or (marks v size first last) k other ≡ marked (index_at v size first +ℤ pos 1 +ℤ pos k) (second_of v size first last (index_at v size first +ℤ pos 1 +ℤ pos k))
  nth_listed o k other h =
      let n = length_is rising (→≤ (omega arith)) o (→≤ (omega arith)) in
      rw (listed_located o) (numbered_nth (second_of v size first last) (index_at v size first +ℤ pos 1) (distance_from (index_at v size first) (index_at v size last)) k other (omega arith))
