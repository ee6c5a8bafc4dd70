-- What a lent slice holds after its two parts were lent in turn, the first k places and then the rest; and short lists. Assumes nothing.
use Rattle.std.specs.Prelude.{◌≡◌, refl, List, [], ◌∷◌, ◌++◌, ℕ, ◌-◌, ◌≤◌, length, take, drop, set}
use Rattle.std.proofs.Common.{◌∙◌, append-nil, arith, le_refl, length-append, length-take, length-drop, drop_of_length-le, take_at}

module _ {X : Type 0} (out A : List X) (k : ℕ) (fits : k ≤ length out) (fills : length A ≡ k) where
  -- what the second call is lent has the room that is left
  pub rest_room : length (take (length (A ++ drop k out) - k) (drop k (A ++ drop k out))) ≡ length out - k
  rest_room = simp (length-take, length-drop, length-append) (omega arith)

  -- at the end the slice holds what the two calls left
  pub both_parts : (B : List X) → take k (A ++ drop k out) ++ (B ++ drop (length (A ++ drop k out) - k) (drop k (A ++ drop k out))) ≡ A ++ B
  both_parts B =
      let none : length (drop k (A ++ drop k out)) ≤ length (A ++ drop k out) - k = rw length-drop (le_refl (length (A ++ drop k out) - k)) in
      rw (take_at A (drop k out) k fills, drop_of_length-le (drop k (A ++ drop k out)) none, append-nil)

  pub both_room : (B : List X) → length B ≡ length out - k → length (take k (A ++ drop k out) ++ (B ++ drop (length (A ++ drop k out) - k) (drop k (A ++ drop k out)))) ≡ length out
  both_room B full = rw (both_parts B, length-append) (omega arith)

-- what was written to the two parts is the whole, in this order
module _ {X : Type 0} (out A : List X) (k : ℕ) (fits : k ≤ length out) (fills : length A ≡ k) where
  pub both_written : {B first second whole : List X} → A ≡ first → B ≡ second → first ++ second ≡ whole → take k (A ++ drop k out) ++ (B ++ drop (length (A ++ drop k out) - k) (drop k (A ++ drop k out))) ≡ whole
  both_written {B} p q e = both_parts out A k fits fills B ∙ rw (p, q) e

pub empty : {X : Type 0} (l : List X) → length l ≡ 0 → l ≡ []
empty [] e = refl
empty (x ∷ l) e = absurd (omega arith)

pub two_set : {X : Type 0} (l : List X) (a b : X) → length l ≡ 2 → set (set l 0 a) 1 b ≡ a ∷ b ∷ []
two_set [] a b e = absurd (omega arith)
two_set (x ∷ []) a b e = absurd (omega arith)
two_set (x ∷ y ∷ []) a b e = refl
two_set (x ∷ y ∷ z ∷ l) a b e = absurd (omega arith)
