-- Two lists compared bit by bit: what is gathered is 0 exactly as long as no element differs. Assumes nothing.
use Rattle.std.specs.Prelude.{◌≡◌, refl, Bool, true, false, List, ℕ, suc, ◌+◌, ◌-◌, ◌^◌, ◌≤◌, ◌<◌, eqb, ltb, ℤ, pos, negsuc, nat_abs, length, get_or}
use Rattle.std.proofs.Common.{sym, ap, ap₂, ◌∙◌, arith, eqb-true, eq-eqb, ext_get_or, to_z-of_z}
use Rattle.std.specs.Int.Bits.{bit_or, bit_xor, xor_self, xor_add_and, or_add_and}
use Rattle.std.proofs.lemmas.Nat.{and_le_l, and_le_r}
use Rattle.std.specs.Int.Signed.{le_z}
use Rattle.std.specs.Int.{w64}
use mir.Val.{SFits, of_z, to_z, sel}
use Rattle.whole.specs.Below.{below}
use Rattle.whole.specs.Booleans.{not_both}
use Rattle.whole.specs.Ranges.{of_z_inj}

-- no bit differs
pub xor_none : (a b : ℕ) → bit_xor a b ≡ 0 → a ≡ b
xor_none a b e = omega (arith, e, xor_add_and a b, and_le_l a b, and_le_r a b)

-- no bit of either
pub or_none : (a b : ℕ) → bit_or a b ≡ 0 → (a ≡ 0) × (b ≡ 0)
or_none a b e = (omega (arith, e, or_add_and a b, and_le_r a b), omega (arith, e, or_add_and a b, and_le_l a b))

-- the bits in which the first n elements differ are gathered; d is what stands behind the end of a list
module _ {A : Type 0} (bits : A → ℕ) (d : A) (a b : List A) where
  pub record Gathered (n differing : ℕ) : Type 0 where
    pub tells : differing ≡ 0 → (i : ℕ) → i < n → get_or a i d ≡ get_or b i d
    pub told : a ≡ b → differing ≡ 0

  -- where the first n are known to be the same, none
  pub all_before : {n : ℕ} → ((i : ℕ) → i < n → get_or a i d ≡ get_or b i d) → Gathered n 0
  all_before are = record { tells = λ e. are; told = λ e. refl }

  pub none_yet : Gathered 0 0
  none_yet = all_before (λ i h. absurd (omega arith))

  -- the next two, whose bits say which they are
  pub one_more : {n differing : ℕ} → Gathered n differing → (bits (get_or a n d) ≡ bits (get_or b n d) → get_or a n d ≡ get_or b n d) → Gathered (n + 1) (bit_or differing (bit_xor (bits (get_or a n d)) (bits (get_or b n d))))
  one_more {n} {differing} before read = record {
    tells = λ e i h.
        let none = or_none differing (bit_xor (bits (get_or a n d)) (bits (get_or b n d))) e in
        below i n (omega arith) (before.tells none.0 i) (λ (q : i ≡ n). rw q (read (xor_none _ _ none.1)));
    told = λ e. ap₂ bit_or (before.told e) (ap (λ (l : List A). bit_xor (bits (get_or a n d)) (bits (get_or l n d))) (sym e) ∙ xor_self (bits (get_or a n d)));
  }

  -- once all are compared, whether there is none tells whether the lists are the same
  pub all_tell : {n differing : ℕ} → Gathered n differing → length a ≡ length b → length a ≤ n → {same : Bool} → (a ≡ b → true ≡ same) → ((a ≡ b → ⊥) → false ≡ same) → eqb differing 0 ≡ same
  all_tell {n} {differing} g e l {same} alike unlike = go (eqb differing 0) refl
    where
      go : (t : Bool) → eqb differing 0 ≡ t → t ≡ same
      go true q = alike (ext_get_or d a b e (λ i h. g.tells (eqb-true differing 0 q) i (omega arith)))
      go false q = unlike (λ are. not_both (eq-eqb differing 0 (g.told are)) q)

-- ---- words, by their bits
-- no bit of a whole number
pub bits_of_zero : (n : ℕ) → to_z w64 n ≡ pos 0 → n ≡ 0
bits_of_zero n e = go (ltb n (2 ^ 63)) e
  where
    go : (t : Bool) → sel t (pos n) (negsuc (2 ^ 64 - suc n)) ≡ pos 0 → n ≡ 0
    go true q = ap nat_abs q
    go false q = let z = ap nat_abs q in absurd (omega (arith, z))

-- four that are gathered
pub none_of_four : (x y z w : ℕ) → to_z w64 (bit_or (bit_or x y) (bit_or z w)) ≡ pos 0 → (x ≡ 0) × ((y ≡ 0) × ((z ≡ 0) × (w ≡ 0)))
none_of_four x y z w e =
    let halves = or_none (bit_or x y) (bit_or z w) (bits_of_zero _ e) in
    let front = or_none x y halves.0 in
    let back = or_none z w halves.1 in
    (front.0, (front.1, (back.0, back.1)))

-- two words that differ in no bit
pub same_word : {x y : ℤ} → SFits w64 x → SFits w64 y → bit_xor (of_z w64 x) (of_z w64 y) ≡ 0 → x ≡ y
same_word f g e = of_z_inj f g (xor_none _ _ e)

-- a word without a bit
pub no_word : {x : ℤ} → SFits w64 x → of_z w64 x ≡ 0 → x ≡ pos 0
no_word f e = sym (to_z-of_z f) ∙ ap (to_z w64) e

-- and none of them is negative
pub zero_not_negative : {n : ℕ} → n ≡ 0 → le_z (pos 0) (to_z w64 n) ≡ false → ⊥
zero_not_negative {n} e negative = not_both (ap (λ (m : ℕ). le_z (pos 0) (to_z w64 m)) e) negative
