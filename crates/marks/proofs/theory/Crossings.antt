-- Demand 3 (a): the defined list of a rising value is exactly its crossings, each once, in time order. The two theorems are `listed_exactly` and
-- `listed_in_time_order`, at the end; `one_second` and `one_index` say that a mark has one second and a second one mark. Assumes nothing.
use Rattle.std.specs.Prelude.{◌≡◌, refl, Bool, true, false, cond, ◌↔◌, [], ◌∷◌, ℤ, ◌+ℤ◌, ◌-ℤ◌, ◌≤ℤ◌, ◌<ℤ◌}
use Rattle.std.proofs.Common.{sym, ap₂, ◌∙◌, arith}
use Rattle.std.proofs.Math.Path.{subst}
use Rattle.std.proofs.Math.Logic.{⊎_elim}
use mathlib.Core.List.Memᴰ
use Prim.Native.Nat.{ℕ, zero, suc}
use Rattle.std.proofs.Math.IntN.{pos}
use Rattle.std.specs.Int.Signed.{lt_z}
use Rattle.whole.specs.Parts.{ℤ_rules, →≤, →≡, parts_add}
use Rattle.whole.specs.Laws.{≤_antisymm, ≤_trans, <-≤_trans, ≤-<_trans, ≤_total}
use Rattle.whole.specs.Distance.{distance_from, clash, next, back_one, one_before, lies_after}
use Rattle.whole.specs.Solver.{lt_yes}
use Rattle.series.specs.Rising.{Rising}
use Rattle.marks.specs.Marks.{Mark, index_at, mark_at, marks_after, marks}
use Rattle.marks.specs.Crossings.{Crossing, marked, ◌∈◌, InTimeOrder}
use Rattle.marks.proofs.theory.Indices.{reached, reaches, ahead, not_reached, index_rises_by_one, index_mono}
use Rattle.marks.proofs.theory.StretchLaws.{lists_none, lists_one}

-- ---- how it is shown

in_one : (v : ℤ → ℤ) (size : ℕ) (s : ℤ) (m : Mark) → m ∈ mark_at v size s → (m ≡ marked (index_at v size s) s) × (index_at v size (s -ℤ pos 1) <ℤ index_at v size s)
unfolding mark_at
in_one v size s m = go (lt_z (index_at v size (s -ℤ pos 1)) (index_at v size s)) refl
  where
    go : (b : Bool) → lt_z (index_at v size (s -ℤ pos 1)) (index_at v size s) ≡ b → m ∈ cond b (marked (index_at v size s) s ∷ []) [] → (m ≡ marked (index_at v size s) s) × (index_at v size (s -ℤ pos 1) <ℤ index_at v size s)
    go true e h = (Memᴰ.eq_of_singleton h, lt_yes e)
    go false e h = absurd (Memᴰ.not-nil h)

module _ {v : ℤ → ℤ} {first last : ℤ} {size : ℕ} (rising : Rising v first last size) where
  pub sooner : {a b : ℤ} {m : Mark} → Crossing v size (a +ℤ pos 1) b m → Crossing v size a b m
  sooner {a} {b} {m} c =
      let p = parts_add a (pos 1) in
      let q = c.after_first in
      record { after_first = omega ℤ_rules; by_last = c.by_last; less_before = c.less_before; reached_here = c.reached_here }

  only_crossings : (n : ℕ) (a b : ℤ) → first ≤ℤ a → b ≤ℤ last → b ≡ a +ℤ pos n → (m : Mark) → m ∈ marks_after v size a n → Crossing v size a b m
  unfolding marks_after
  only_crossings zero a b l h e m i = absurd (Memᴰ.not-nil i)
  only_crossings (suc n) a b l h e m i =
      let p = parts_add a (pos 1) in
      let q = parts_add a (pos (suc n)) in
      ⊎_elim
      (λ (here : m ∈ mark_at v size (a +ℤ pos 1)).
      let w = in_one v size (a +ℤ pos 1) m here in
      subst (λ (k : Mark). Crossing v size a b k) (sym w.0)
      (record {
        after_first = omega ℤ_rules;
        by_last = omega ℤ_rules;
        less_before = ahead v size rising.some_mark (index_at v size (a +ℤ pos 1)) ((a +ℤ pos 1) -ℤ pos 1) w.1;
        reached_here = reached v size rising.some_mark (index_at v size (a +ℤ pos 1)) (a +ℤ pos 1) (→≤ (omega arith));
      }))
      (λ (later : m ∈ marks_after v size (a +ℤ pos 1) n).
      sooner (only_crossings n (a +ℤ pos 1) b (omega ℤ_rules) h (e ∙ next a n) m later))
      (Memᴰ.append_cases (mark_at v size (a +ℤ pos 1)) i)

  all_crossings : (n : ℕ) (a b : ℤ) → first ≤ℤ a → b ≤ℤ last → b ≡ a +ℤ pos n → (m : Mark) → Crossing v size a b m → m ∈ marks_after v size a n
  unfolding marks_after
  all_crossings zero a b l h e m c =
      let p = parts_add a (pos 0) in
      let x = c.after_first in
      let y = c.by_last in
      absurd (omega ℤ_rules)
  all_crossings (suc n) a b l h e m c =
      let p = parts_add a (pos 1) in
      let q = parts_add a (pos (suc n)) in
      let x = c.after_first in
      let y = c.by_last in
      ⊎_elim
      (λ (k : m.second ≤ℤ (a +ℤ pos 1)).
      let at : m.second ≡ a +ℤ pos 1 = omega ℤ_rules in
      let low : index_at v size a <ℤ m.index = not_reached v size rising.some_mark m.index a (rw (at, back_one a) at c.less_before) in
      let high : m.index ≤ℤ index_at v size (a +ℤ pos 1) = reaches v size rising.some_mark m.index (a +ℤ pos 1) (rw at at c.reached_here) in
      let near = index_rises_by_one rising a l (omega ℤ_rules) in
      let r = parts_add (index_at v size a) (pos 1) in
      let is : m.index ≡ index_at v size (a +ℤ pos 1) = omega ℤ_rules in
      Memᴰ.append_left {s = mark_at v size (a +ℤ pos 1)} (marks_after v size (a +ℤ pos 1) n)
      (rw (lists_one v size (a +ℤ pos 1) (rw (back_one a) (<-≤_trans low high)))
      (Memᴰ.head (ap₂ marked is at))))
      (λ (k : (a +ℤ pos 1) <ℤ m.second).
      Memᴰ.append_right (mark_at v size (a +ℤ pos 1))
      (all_crossings n (a +ℤ pos 1) b (omega ℤ_rules) h (e ∙ next a n) m
      (record { after_first = k; by_last = y; less_before = c.less_before; reached_here = c.reached_here })))
      (≤_total m.second (a +ℤ pos 1))

  order_after : (n : ℕ) (a b : ℤ) → first ≤ℤ a → b ≤ℤ last → b ≡ a +ℤ pos n → InTimeOrder (marks_after v size a n)
  unfolding marks_after
  order_after zero a b l h e = tt
  order_after (suc n) a b l h e =
      let p = parts_add a (pos 1) in
      let q = parts_add a (pos (suc n)) in
      let l' : first ≤ℤ (a +ℤ pos 1) = omega ℤ_rules in
      let rest : InTimeOrder (marks_after v size (a +ℤ pos 1) n) = order_after n (a +ℤ pos 1) b l' h (e ∙ next a n) in
      ⊎_elim
      (λ (k : index_at v size (a +ℤ pos 1) ≤ℤ index_at v size a).
      rw (lists_none v size (a +ℤ pos 1) (rw (back_one a) k)) rest)
      (λ (k : index_at v size a <ℤ index_at v size (a +ℤ pos 1)).
      rw (lists_one v size (a +ℤ pos 1) (rw (back_one a) k)) (
        λ m i.
            let c = only_crossings n (a +ℤ pos 1) b l' h (e ∙ next a n) m i in
            let x = c.after_first in
            let y = c.by_last in
            let z = one_before m.second in
            let low : index_at v size (m.second -ℤ pos 1) <ℤ m.index = not_reached v size rising.some_mark m.index (m.second -ℤ pos 1) c.less_before in
            (x, ≤-<_trans (index_mono rising l' (omega ℤ_rules) (omega ℤ_rules)) low),
        rest,
      ))
      (≤_total (index_at v size (a +ℤ pos 1)) (index_at v size a))

  -- ---- the theorems

  -- a mark is listed exactly if it is a crossing: every one, and no other
  pub listed_exactly : first ≤ℤ last → (m : Mark) → m ∈ marks v size first last ↔ Crossing v size first last m
  unfolding marks
  listed_exactly o m = (
    only_crossings (distance_from first last) first last (→≤ (omega arith)) (→≤ (omega arith)) (lies_after o) m,
    all_crossings (distance_from first last) first last (→≤ (omega arith)) (→≤ (omega arith)) (lies_after o) m,
  )

  -- each once, and in time order
  pub listed_in_time_order : first ≤ℤ last → InTimeOrder (marks v size first last)
  unfolding marks
  listed_in_time_order o = order_after (distance_from first last) first last (→≤ (omega arith)) (→≤ (omega arith)) (lies_after o)

  not_twice : (j s t : ℤ) → Crossing v size first last (marked j s) → Crossing v size first last (marked j t) → s <ℤ t → ⊥
  not_twice j s t c d h =
      let x = c.after_first in
      let y = d.by_last in
      let z = one_before t in
      clash
      (not_reached v size rising.some_mark j (t -ℤ pos 1) d.less_before)
      (≤_trans (reaches v size rising.some_mark j s c.reached_here) (index_mono rising (omega ℤ_rules) (omega ℤ_rules) (omega ℤ_rules)))

  -- a mark is crossed at one second
  pub one_second : (j s t : ℤ) → Crossing v size first last (marked j s) → Crossing v size first last (marked j t) → s ≡ t
  one_second j s t c d =
      ⊎_elim
      (λ (h : s ≤ℤ t). ⊎_elim (λ (k : t ≤ℤ s). ≤_antisymm h k) (λ (k : s <ℤ t). absurd (not_twice j s t c d k)) (≤_total t s))
      (λ (k : t <ℤ s). absurd (not_twice j t s d c k))
      (≤_total s t)

  -- and at a second one mark
  pub one_index : (s i j : ℤ) → Crossing v size first last (marked i s) → Crossing v size first last (marked j s) → i ≡ j
  one_index s i j c d =
      let x = c.after_first in
      let y = c.by_last in
      let z = one_before s in
      let near = index_rises_by_one rising (s -ℤ pos 1) (omega ℤ_rules) (omega ℤ_rules) in
      let at : (s -ℤ pos 1) +ℤ pos 1 ≡ s = →≡ (omega (arith, parts_add (s -ℤ pos 1) (pos 1))) in
      let near' : index_at v size s ≤ℤ (index_at v size (s -ℤ pos 1) +ℤ pos 1) = rw at at near in
      let r = parts_add (index_at v size (s -ℤ pos 1)) (pos 1) in
      let low-i = not_reached v size rising.some_mark i (s -ℤ pos 1) c.less_before in
      let low-j = not_reached v size rising.some_mark j (s -ℤ pos 1) d.less_before in
      let high-i = reaches v size rising.some_mark i s c.reached_here in
      let high-j = reaches v size rising.some_mark j s d.reached_here in
      omega ℤ_rules
