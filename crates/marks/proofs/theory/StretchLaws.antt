-- The laws of a stretch's list that the finder uses (document 01, "Marks"): two stretches that share a second, a stretch whose ends lie between the same two
-- marks, two neighbouring seconds with a mark between them, and how many marks a stretch lists. Assumes nothing.
use Rattle.std.specs.Prelude.{◌≡◌, Bool, true, false, cond, [], ◌∷◌, ◌++◌, length, ℤ, ◌+ℤ◌, ◌-ℤ◌, ◌≤ℤ◌, ◌<ℤ◌}
use Rattle.std.proofs.Math.Path.{refl, sym}
use Rattle.std.proofs.Common.{◌∙◌, ⊎_elim, append_assoc, append-nil, arith, zero-add, suc-add}
use Prim.Native.Nat.{ℕ, zero, suc, ◌+◌, ◌≤◌}
use Rattle.std.proofs.Math.ListN.{length-append}
use Rattle.std.proofs.Math.IntN.{pos}
use Rattle.std.specs.Int.Signed.{lt_z}
use Rattle.whole.specs.Parts.{ℤ_rules, →≡, parts_add}
use Rattle.whole.specs.Laws.{≤_trans, ≤_of-≡, ≤_total}
use Rattle.whole.specs.Distance.{distance_from, next, back_one, lies_after, distance_of, distances_add}
use Rattle.whole.specs.Solver.{yes_lt, no_lt}
use Rattle.series.specs.Rising.{Rising}
use Rattle.marks.specs.Marks.{Mark, index_at, mark_at, marks_after, marks}
use Rattle.marks.proofs.theory.Indices.{index_rises, index_rises_by_one, index_mono}

-- ---- two stretches that share a second
join_after : (v : ℤ → ℤ) (size : ℕ) (n m : ℕ) (a b : ℤ) → b ≡ a +ℤ pos n → marks_after v size a n ++ marks_after v size b m ≡ marks_after v size a (n + m)
unfolding marks_after
join_after v size zero m a b e =
    let same : b ≡ a = e ∙ →≡ (omega (arith, parts_add a (pos 0))) in
    rw (zero-add, same)
join_after v size (suc n) m a b e = simp (suc-add, append_assoc, join_after v size n m (a +ℤ pos 1) b (e ∙ next a n))

pub joined : (v : ℤ → ℤ) (size : ℕ) {a b c : ℤ} → a ≤ℤ b → b ≤ℤ c → marks v size a b ++ marks v size b c ≡ marks v size a c
unfolding marks
joined v size {a} {b} {c} h k =
    rw (distances_add h k) (join_after v size (distance_from a b) (distance_from b c) a b (lies_after h))

-- ---- one second
module _ (v : ℤ → ℤ) (size : ℕ) (s : ℤ) where
  pub lists_none : index_at v size s ≤ℤ index_at v size (s -ℤ pos 1) → mark_at v size s ≡ []
  unfolding mark_at
  lists_none h = rw (no_lt h)

  pub lists_one : index_at v size (s -ℤ pos 1) <ℤ index_at v size s → mark_at v size s ≡ record { index = index_at v size s; second = s } ∷ []
  unfolding mark_at
  lists_one h = rw (yes_lt h)

-- ---- a second lists at most one mark, so a stretch at most as many as it has seconds after the first
at_most_one : (v : ℤ → ℤ) (size : ℕ) (s : ℤ) → length (mark_at v size s) ≤ 1
unfolding mark_at
at_most_one v size s = go (lt_z (index_at v size (s -ℤ pos 1)) (index_at v size s))
  where
    go : (t : Bool) → length {A = Mark} (cond t (record { index = index_at v size s; second = s } ∷ []) []) ≤ 1
    go true = omega arith
    go false = omega arith

few_after : (v : ℤ → ℤ) (size : ℕ) (n : ℕ) (a : ℤ) → length (marks_after v size a n) ≤ n
unfolding marks_after
few_after v size zero a = omega arith
few_after v size (suc n) a =
    let one = at_most_one v size (a +ℤ pos 1) in
    let rest = few_after v size n (a +ℤ pos 1) in
    rw length-append (omega arith)

pub few : (v : ℤ → ℤ) (size : ℕ) (a b : ℤ) → length (marks v size a b) ≤ distance_from a b
unfolding marks
few v size a b = few_after v size (distance_from a b) a

-- ---- what a stretch of a rising value lists
module _ {v : ℤ → ℤ} {first last : ℤ} {size : ℕ} (rising : Rising v first last size) where
  none_after : (n : ℕ) (a b : ℤ) → first ≤ℤ a → b ≤ℤ last → b ≡ a +ℤ pos n → index_at v size b ≤ℤ index_at v size a → marks_after v size a n ≡ []
  unfolding marks_after
  none_after zero a b l h e k = refl
  none_after (suc n) a b l h e k =
      let p = parts_add a (pos 1) in
      let q = parts_add a (pos (suc n)) in
      let e' : b ≡ (a +ℤ pos 1) +ℤ pos n = e ∙ next a n in
      let q' = parts_add (a +ℤ pos 1) (pos n) in
      let l' : first ≤ℤ (a +ℤ pos 1) = omega ℤ_rules in
      let up : index_at v size a ≤ℤ index_at v size (a +ℤ pos 1) = index_rises rising a l (omega ℤ_rules) in
      let up' : index_at v size (a +ℤ pos 1) ≤ℤ index_at v size b = index_mono rising l' (omega ℤ_rules) h in
      let here : index_at v size (a +ℤ pos 1) ≤ℤ index_at v size ((a +ℤ pos 1) -ℤ pos 1) = rw (back_one a) (≤_trans up' k) in
      rw (lists_none v size (a +ℤ pos 1) here, none_after n (a +ℤ pos 1) b l' h e' (≤_trans k up))

  -- "A stretch whose end values lie between the same two marks holds none"
  pub none : {a b : ℤ} → first ≤ℤ a → a ≤ℤ b → b ≤ℤ last → index_at v size a ≡ index_at v size b → marks v size a b ≡ []
  unfolding marks
  none {a} {b} l o h e = none_after (distance_from a b) a b l h (lies_after o) (≤_of-≡ (sym e))

  -- "two neighbouring seconds with a mark between them give that mark"
  pub neighbours : (a b : ℤ) → b ≡ a +ℤ pos 1 → index_at v size a <ℤ index_at v size b → marks v size a b ≡ record { index = index_at v size b; second = b } ∷ []
  unfolding marks marks_after
  neighbours a b e h =
      rw (distance_of a b 1 e, sym e, append-nil)
      (lists_one v size b (rw (e, back_one a) (rw e at h)))

  -- from a second to the next the index rises by what is listed there
  one_length : (s : ℤ) → first ≤ℤ s → s <ℤ last → index_at v size (s +ℤ pos 1) ≡ index_at v size s +ℤ pos (length (mark_at v size (s +ℤ pos 1)))
  one_length s l h =
      ⊎_elim
      (λ (k : index_at v size (s +ℤ pos 1) ≤ℤ index_at v size s).
      let up = index_rises rising s l h in
      let p = parts_add (index_at v size s) (pos 0) in
      rw (lists_none v size (s +ℤ pos 1) (rw (back_one s) k)) (omega ℤ_rules))
      (λ (k : index_at v size s <ℤ index_at v size (s +ℤ pos 1)).
      let up = index_rises_by_one rising s l h in
      let p = parts_add (index_at v size s) (pos 1) in
      rw (lists_one v size (s +ℤ pos 1) (rw (back_one s) k)) (omega ℤ_rules))
      (≤_total (index_at v size (s +ℤ pos 1)) (index_at v size s))

  length_after : (n : ℕ) (a b : ℤ) → first ≤ℤ a → b ≤ℤ last → b ≡ a +ℤ pos n → index_at v size b ≡ index_at v size a +ℤ pos (length (marks_after v size a n))
  unfolding marks_after
  length_after zero a b l h e =
      let same : b ≡ a = e ∙ →≡ (omega (arith, parts_add a (pos 0))) in
      let p = parts_add (index_at v size a) (pos 0) in
      rw same (→≡ (omega arith))
  length_after (suc n) a b l h e =
      let p = parts_add a (pos 1) in
      let q = parts_add a (pos (suc n)) in
      let l' : first ≤ℤ (a +ℤ pos 1) = omega ℤ_rules in
      let here : index_at v size (a +ℤ pos 1) ≡ index_at v size a +ℤ pos (length (mark_at v size (a +ℤ pos 1))) = one_length a l (omega ℤ_rules) in
      let rest : index_at v size b ≡ index_at v size (a +ℤ pos 1) +ℤ pos (length (marks_after v size (a +ℤ pos 1) n)) = length_after n (a +ℤ pos 1) b l' h (e ∙ next a n) in
      rw length-append
      (rest ∙ sums (index_at v size a) (index_at v size (a +ℤ pos 1)) (length (mark_at v size (a +ℤ pos 1))) (length (marks_after v size (a +ℤ pos 1) n)) here)
    where
      sums : (x y : ℤ) (m k : ℕ) → y ≡ x +ℤ pos m → y +ℤ pos k ≡ x +ℤ pos (m + k)
      sums x y m k e = omega (ℤ_rules, parts_add x (pos m), parts_add y (pos k), parts_add x (pos (m + k)))

  -- a stretch lists as many marks as its index rises by
  pub length_is : {a b : ℤ} → first ≤ℤ a → a ≤ℤ b → b ≤ℤ last → length (marks v size a b) ≡ distance_from (index_at v size a) (index_at v size b)
  unfolding marks
  length_is {a} {b} l o h = sym (distance_of (index_at v size a) (index_at v size b) (length (marks_after v size a (distance_from a b))) (length_after (distance_from a b) a b l h (lies_after o)))
