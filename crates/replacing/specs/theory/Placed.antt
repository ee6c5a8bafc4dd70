-- A part put over a list (`placed`): its own words, a second part over the first, and what then stands at, before and behind it. Over any element. Assumes nothing.
use Rattle.std.specs.Prelude.{◌≡◌, List, ◌++◌, ℕ, ◌+◌, ◌-◌, ◌≤◌, length, take, drop}
use Rattle.std.proofs.Common.{sym, ap, ap₂, ◌∙◌, append_assoc, arith, length-drop, take-append-drop, take_at, drop_at, take-add, drop-drop, length-take-le}
use Rattle.std.proofs.lemmas.List.{take-append-le, drop-append-le}
use Rattle.whole.specs.Lists.{placed, drop_placed}

-- n elements from p on, all of which lie in the front
in-front : {A : Type 0} (x y : List A) (p n : ℕ) → p + n ≤ length x → take n (drop p (x ++ y)) ≡ take n (drop p x)
in-front x y p n h = ap (take n) (drop-append-le p x y (omega arith)) ∙ take-append-le n (drop p x) y (rw length-drop (omega arith))

module _ {A : Type 0} (l : List A) (at : ℕ) where
  -- its own words, put where they stand
  pub placed_itself : (n : ℕ) → at + n ≤ length l → placed at (take n (drop at l)) l ≡ l
  placed_itself n h =
      let long : length (take n (drop at l)) ≡ n = length-take-le n (drop at l) (rw length-drop (omega arith)) in
      ap (λ (m : ℕ). take at l ++ take n (drop at l) ++ drop (at + m) l) long
      ∙ ap (λ (x : List A). x ++ drop (at + n) l) (sym (take-add at n l))
      ∙ take-append-drop (at + n) l

  module _ (part : List A) where
    -- the part itself
    pub at_placed : (n : ℕ) → length part ≡ n → at ≤ length l → take n (drop at (placed at part l)) ≡ part
    at_placed n e h =
        ap (λ (x : List A). take n (drop at x)) (append_assoc (take at l) part (drop (at + length part) l))
        ∙ ap (take n) (drop_at (take at l) (part ++ drop (at + length part) l) at (length-take-le at l h))
        ∙ take_at part (drop (at + length part) l) n e

    pub before_placed : (p n : ℕ) → p + n ≤ at → at ≤ length l → take n (drop p (placed at part l)) ≡ take n (drop p l)
    before_placed p n h long =
        let front : p + n ≤ length (take at l) = omega (arith, length-take-le at l long) in
        ap (λ (x : List A). take n (drop p x)) (append_assoc (take at l) part (drop (at + length part) l))
        ∙ in-front (take at l) (part ++ drop (at + length part) l) p n front
        ∙ sym (in-front (take at l) (drop at l) p n front)
        ∙ ap (λ (x : List A). take n (drop p x)) (take-append-drop at l)

    pub behind_placed : (p : ℕ) → at + length part ≤ p → at ≤ length l → drop p (placed at part l) ≡ drop p l
    behind_placed p h long =
        let end = at + length part in
        let further : end + (p - end) ≡ p = omega arith in
        ap (λ (n : ℕ). drop n (placed at part l)) (sym further)
        ∙ sym (drop-drop (p - end) end (placed at part l))
        ∙ ap (drop (p - end)) (drop_placed l part at long)
        ∙ drop-drop (p - end) end l
        ∙ ap (λ (n : ℕ). drop n l) further

    -- of two parts of one length that are put at one place, the second stands
    pub placed_over : (second : List A) → length part ≡ length second → at + length part ≤ length l → placed at second (placed at part l) ≡ placed at second l
    placed_over second e h = ap₂ (λ (x y : List A). x ++ second ++ y) (before_placed 0 at (omega arith) (omega arith)) (behind_placed (at + length second) (omega (arith, e)) (omega arith))
