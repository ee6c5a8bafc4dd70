-- A list with a part put over what stood there, and the laws of it: two parts one behind the other are one part, and what stands before and behind stays.
-- Over any element. Assumes nothing.
use Rattle.std.specs.Prelude.{◌≡◌, List, [], ◌∷◌, ◌++◌, ℕ, suc, ◌+◌, ◌≤◌, ◌<◌, length, get_or, set, take, drop}
use Rattle.std.proofs.Common.{sym, ap, ap₂, ◌∙◌, append_assoc, append-nil, arith, length-append, length-drop, take-append-drop, take-suc, take_at, drop_at, drop-drop, length-take-le}
use Rattle.std.proofs.Math.Seq.{append_snoc}
use Rattle.std.proofs.lemmas.List.{set_split, drop-append-le}
use borrow.Rule.Slice.PartMut.{mid_of, post_of, put_mid}

-- l with `part` from `at` on
abbrev pub placed : {A : Type 0} → ℕ → List A → List A → List A
placed at part l = take at l ++ part ++ drop (at + length part) l

-- no part at all
pub placed_none : {A : Type 0} (l : List A) (at : ℕ) → l ≡ placed at [] l
placed_none {A} l at =
    let none : at + 0 ≡ at = omega arith in
    sym (ap (λ (n : ℕ). take at l ++ [] ++ drop n l) none ∙ ap (λ (x : List A). x ++ drop at l) (append-nil (take at l)) ∙ take-append-drop at l)

module _ {A : Type 0} (l first : List A) (at : ℕ) where
  -- what stands before a part and with it
  front : at ≤ length l → length (take at l ++ first) ≡ at + length first
  front h = length-append (take at l) first ∙ ap (λ (n : ℕ). n + length first) (length-take-le at l h)

  pub placed_length : at + length first ≤ length l → length (placed at first l) ≡ length l
  placed_length h = simp (length-append, length-drop, length-take-le at l (omega arith)) (omega arith)

  pub take_placed : at ≤ length l → take (at + length first) (placed at first l) ≡ take at l ++ first
  take_placed h = take_at (take at l ++ first) (drop (at + length first) l) (at + length first) (front h)

  pub drop_placed : at ≤ length l → drop (at + length first) (placed at first l) ≡ drop (at + length first) l
  drop_placed h = drop_at (take at l ++ first) (drop (at + length first) l) (at + length first) (front h)

  -- two parts, one behind the other
  pub placed_both : (second : List A) → at + (length first + length second) ≤ length l → placed (at + length first) second (placed at first l) ≡ placed at (first ++ second) l
  placed_both second h =
      ap₂ (λ (a b : List A). a ++ second ++ b) (take_placed (omega arith)) behind
      ∙ ap (λ (x : List A). x ++ drop (at + length (first ++ second)) l) (append_assoc (take at l) first second)
    where
      total : at + length first + length second ≡ at + length (first ++ second)
      total = rw length-append (omega arith)

      behind : drop (at + length first + length second) (placed at first l) ≡ drop (at + length (first ++ second)) l
      behind =
          sym (drop-drop (length second) (at + length first) (placed at first l))
          ∙ ap (drop (length second)) (drop_placed (omega arith))
          ∙ drop-drop (length second) (at + length first) l
          ∙ ap (λ (n : ℕ). drop n l) total

-- a part of a list whose front is replaced, put back, is that front placed in the list
pub put_back : {A : Type 0} (ws part : List A) (a k m : ℕ) → length part ≡ m → m ≤ length (mid_of a k ws) → put_mid a k ws (part ++ drop m (mid_of a k ws)) ≡ placed a part ws
put_back {A} ws part a k m size fits =
    ap (λ (l : List A). take a ws ++ l) (append_assoc part (drop m (mid_of a k ws)) (post_of a k ws) ∙ ap (λ (l : List A). part ++ l) behind)
    ∙ sym (append_assoc (take a ws) part (drop (a + length part) ws))
  where
    behind : drop m (mid_of a k ws) ++ post_of a k ws ≡ drop (a + length part) ws
    behind =
        sym (drop-append-le m (mid_of a k ws) (post_of a k ws) fits)
        ∙ ap (drop m) (take-append-drop k (drop a ws))
        ∙ drop-drop m a ws
        ∙ ap (λ (n : ℕ). drop (a + n) ws) (sym size)

-- word i of a part, put behind those before it
pub word_put : {A : Type 0} (l part : List A) (at i : ℕ) (d : A) {now : List A} → i < length part → at + length part ≤ length l → now ≡ placed at (take i part) l → set now (at + i) (get_or part i d) ≡ placed at (take (i + 1) part) l
word_put {A} l part at i d {now} h room e =
    let long : length (take i part) ≡ i = length-take-le i part (omega arith) in
    let next : i + 1 ≡ suc i = omega arith in
    let there : length now ≡ length l = ap length e ∙ placed_length l (take i part) at (omega (arith, long)) in
    let behind : suc (at + i) ≡ at + i + 1 = omega arith in
    let word = get_or part i d in
    set_split now (at + i) word (omega (arith, there))
    ∙ ap (λ (k : ℕ). take (at + i) now ++ word ∷ drop k now) behind
    ∙ sym (append_snoc (take (at + i) now) word (drop (at + i + 1) now))
    ∙ ap₂ (λ (k : ℕ) (x : List A). placed (at + k) (word ∷ []) x) (sym long) e
    ∙ placed_both l (take i part) at (word ∷ []) (omega (arith, long))
    ∙ ap (λ (x : List A). placed at x l) (sym (ap (λ (k : ℕ). take k part) next ∙ take-suc part i d h))

-- two words, one after the other
pub two_put : {A : Type 0} (l : List A) (at : ℕ) (x y : A) → at + 2 ≤ length l → set (set l at x) (at + 1) y ≡ placed at (x ∷ y ∷ []) l
two_put {A} l at x y room =
    let part : List A = x ∷ y ∷ [] in
    let here : at + 0 ≡ at = omega arith in
    let first : set l at x ≡ placed at (take 1 part) l = ap (λ (k : ℕ). set l k x) (sym here) ∙ word_put l part at 0 x (omega arith) room (placed_none l at) in
    word_put l part at 1 x (omega arith) room first
