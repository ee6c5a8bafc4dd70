-- Writing and reading undo each other, at every width: what was written is read back wherever it stands, and what was read is written back as the bytes it
-- was read from. Assumes nothing.
use Rattle.std.specs.Prelude.{◌≡◌, refl, Bool, true, false, cond, List, [], ◌∷◌, ◌++◌, ℕ, suc, ◌+◌, ◌-◌, ◌*◌, ◌/◌, ◌%◌, ◌<◌, ◌≤◌, ltb, ℤ, pos, negsuc, length, get_or, take, drop}
use Rattle.std.proofs.Common.{sym, ap, ap₂, ◌∙◌, append_assoc, arith, mod-eq_of_lt, mod-lt, div-add-mod', lt-ltb, le-ltb, length-append, get_or-append-add, drop-cons, drop-drop}
use Rattle.std.specs.Int.Signed.{mag}
use Rattle.std.proofs.Math.Seq.{get_or-append_seam}
use Rattle.words.specs.Words.{signed_below, pattern_below, half4, half8, byte, pattern4, unsigned4, signed4, word8, le4, bytes1, bytes4, bytes8}

-- each number of a list is a byte
pub record Bytes (l : List ℕ) : Type 0 where
  pub each : (i : ℕ) → get_or l i 0 < 256

-- ---- bits
-- a signed number is read back from its pattern ..
signed_pattern : (h : ℕ) (z : ℤ) → mag z < h → signed_below h (pattern_below h z) ≡ z
signed_pattern h (pos n) k = ap (λ (b : Bool). cond b (pos n) (negsuc (h + h - suc n))) (lt-ltb n h k)
signed_pattern h (negsuc n) k =
    let upper : h ≤ h + h - suc n = omega arith in
    let again : h + h - suc (h + h - suc n) ≡ n = omega arith in
    ap (λ (b : Bool). cond b (pos (h + h - suc n)) (negsuc (h + h - suc (h + h - suc n)))) (le-ltb (h + h - suc n) h upper) ∙ ap negsuc again

-- .. and a pattern is that of the number it stands for
pattern_signed : (h u : ℕ) → u < h + h → pattern_below h (signed_below h u) ≡ u
pattern_signed h u k = go (ltb u h) refl
  where
    go : (b : Bool) → ltb u h ≡ b → pattern_below h (cond b (pos u) (negsuc (h + h - suc u))) ≡ u
    go true e = refl
    go false e = omega arith

-- a pattern's digits make the pattern
digits : (u : ℕ) → u < 4294967296 → u % 256 + 256 * (u / 256 % 256) + 65536 * (u / 65536 % 256) + 16777216 * (u / 16777216 % 256) ≡ u
digits u h = let top : u / 16777216 < 256 = omega arith in rw (mod-eq_of_lt top) (omega arith)

pattern_of_le4 : (p s : List ℕ) (u : ℕ) → u < 4294967296 → pattern4 (p ++ le4 u ++ s) (length p) ≡ u
pattern_of_le4 p s u h = simp (append_assoc, get_or-append_seam, get_or-append-add) (digits u h)

-- ---- what was written is read back, wherever it stands
module _ (p s : List ℕ) where
  pub byte_read_back : (n : ℕ) → byte (p ++ bytes1 (pos n) ++ s) (length p) ≡ pos n
  byte_read_back n = simp (append_assoc, get_or-append_seam)

  pub unsigned_read_back : (n : ℕ) → n < 4294967296 → unsigned4 (p ++ bytes4 (pos n) ++ s) (length p) ≡ pos n
  unsigned_read_back n h = ap pos (pattern_of_le4 p s n h)

  pub signed_read_back : (z : ℤ) → mag z < half4 → signed4 (p ++ bytes4 z ++ s) (length p) ≡ z
  signed_read_back z h = ap (signed_below half4) (pattern_of_le4 p s (pattern_below half4 z) (small z h)) ∙ signed_pattern half4 z h
    where
      small : (z : ℤ) → mag z < half4 → pattern_below half4 z < 4294967296
      small (pos n) k = omega arith
      small (negsuc n) k = omega arith

  pub word_read_back : (z : ℤ) → mag z < half8 → word8 (p ++ bytes8 z ++ s) (length p) ≡ z
  word_read_back z h =
      let u = pattern_below half8 z in
      let low : pattern4 (p ++ bytes8 z ++ s) (length p) ≡ u % 4294967296 = ap (λ (l : List ℕ). pattern4 l (length p)) (front u) ∙ pattern_of_le4 p (le4 (u / 4294967296) ++ s) (u % 4294967296) (mod-lt u (omega arith)) in
      let high : pattern4 (p ++ bytes8 z ++ s) (length p + 4) ≡ u / 4294967296 =
      ap (pattern4 (p ++ bytes8 z ++ s)) (sym (length-append p (le4 (u % 4294967296)))) ∙ ap (λ (l : List ℕ). pattern4 l (length (p ++ le4 (u % 4294967296)))) (behind u) ∙ pattern_of_le4 (p ++ le4 (u % 4294967296)) s (u / 4294967296) (small z h)
      in
      ap₂ (λ (a b : ℕ). signed_below half8 (a + 4294967296 * b)) low high ∙ ap (signed_below half8) (whole u) ∙ signed_pattern half8 z h
    where
      behind : (u : ℕ) → p ++ (le4 (u % 4294967296) ++ le4 (u / 4294967296)) ++ s ≡ (p ++ le4 (u % 4294967296)) ++ le4 (u / 4294967296) ++ s
      behind u = ap (λ (l : List ℕ). l ++ s) (sym (append_assoc p (le4 (u % 4294967296)) (le4 (u / 4294967296))))

      front : (u : ℕ) → p ++ (le4 (u % 4294967296) ++ le4 (u / 4294967296)) ++ s ≡ p ++ le4 (u % 4294967296) ++ (le4 (u / 4294967296) ++ s)
      front u = behind u ∙ append_assoc (p ++ le4 (u % 4294967296)) (le4 (u / 4294967296)) s

      whole : (u : ℕ) → u % 4294967296 + 4294967296 * (u / 4294967296) ≡ u
      whole u = omega (arith, div-add-mod' u 4294967296)

      small : (z : ℤ) → mag z < half8 → pattern_below half8 z / 4294967296 < 4294967296
      small (pos n) k = omega arith
      small (negsuc n) k = omega arith

-- ---- what was read is written back
four_digits : (a b c d : ℕ) → a < 256 → b < 256 → c < 256 → d < 256 → le4 (a + 256 * b + 65536 * c + 16777216 * d) ≡ a ∷ b ∷ c ∷ d ∷ []
four_digits a b c d ha hb hc hd =
    let u = a + 256 * b + 65536 * c + 16777216 * d in
    let q₁ : u / 256 ≡ b + 256 * c + 65536 * d = omega arith in
    let q₂ : u / 65536 ≡ c + 256 * d = omega arith in
    let q₃ : u / 16777216 ≡ d = omega arith in
    let e₀ : u % 256 ≡ a = omega arith in
    let e₁ : (b + 256 * c + 65536 * d) % 256 ≡ b = omega arith in
    let e₂ : (c + 256 * d) % 256 ≡ c = omega arith in
    let e₃ : d % 256 ≡ d = omega arith in
    rw (q₁, q₂, q₃, e₀, e₁, e₂, e₃)

module _ (l : List ℕ) (bytes : Bytes l) (at : ℕ) where
  pub byte_written_back : at < length l → bytes1 (byte l at) ≡ take 1 (drop at l)
  byte_written_back h = sym (ap (take 1) (drop-cons l at 0 h))

  le4_of_pattern : at + 4 ≤ length l → le4 (pattern4 l at) ≡ take 4 (drop at l)
  le4_of_pattern h =
      let e₁ : suc at ≡ at + 1 = omega arith in
      let e₂ : suc (at + 1) ≡ at + 2 = omega arith in
      let e₃ : suc (at + 2) ≡ at + 3 = omega arith in
      let d₀ : drop at l ≡ get_or l at 0 ∷ drop (at + 1) l = drop-cons l at 0 (omega arith) ∙ ap (λ (n : ℕ). get_or l at 0 ∷ drop n l) e₁ in
      let d₁ : drop (at + 1) l ≡ get_or l (at + 1) 0 ∷ drop (at + 2) l = drop-cons l (at + 1) 0 (omega arith) ∙ ap (λ (n : ℕ). get_or l (at + 1) 0 ∷ drop n l) e₂ in
      let d₂ : drop (at + 2) l ≡ get_or l (at + 2) 0 ∷ drop (at + 3) l = drop-cons l (at + 2) 0 (omega arith) ∙ ap (λ (n : ℕ). get_or l (at + 2) 0 ∷ drop n l) e₃ in
      let d₃ : drop (at + 3) l ≡ get_or l (at + 3) 0 ∷ drop (suc (at + 3)) l = drop-cons l (at + 3) 0 (omega arith) in
      four_digits (get_or l at 0) (get_or l (at + 1) 0) (get_or l (at + 2) 0) (get_or l (at + 3) 0) (bytes.each at) (bytes.each (at + 1)) (bytes.each (at + 2)) (bytes.each (at + 3))
      ∙ sym (ap (take 4) (d₀ ∙ ap (λ (t : List ℕ). get_or l at 0 ∷ t) (d₁ ∙ ap (λ (t : List ℕ). get_or l (at + 1) 0 ∷ t) (d₂ ∙ ap (λ (t : List ℕ). get_or l (at + 2) 0 ∷ t) d₃))))

  pattern_small : pattern4 l at < 4294967296
  pattern_small = omega (arith, bytes.each at, bytes.each (at + 1), bytes.each (at + 2), bytes.each (at + 3))

  pub unsigned_written_back : at + 4 ≤ length l → bytes4 (unsigned4 l at) ≡ take 4 (drop at l)
  unsigned_written_back h = le4_of_pattern h

  pub signed_written_back : at + 4 ≤ length l → bytes4 (signed4 l at) ≡ take 4 (drop at l)
  signed_written_back h = ap le4 (pattern_signed half4 (pattern4 l at) (omega (arith, pattern_small))) ∙ le4_of_pattern h

pub word_written_back : (l : List ℕ) → Bytes l → (at : ℕ) → at + 8 ≤ length l → bytes8 (word8 l at) ≡ take 8 (drop at l)
word_written_back l bytes at h =
    let a = pattern4 l at in
    let b = pattern4 l (at + 4) in
    let sa = pattern_small l bytes at in
    let sb = pattern_small l bytes (at + 4) in
    let low : (a + 4294967296 * b) % 4294967296 ≡ a = omega arith in
    let high : (a + 4294967296 * b) / 4294967296 ≡ b = omega arith in
    ap (λ (u : ℕ). le4 (u % 4294967296) ++ le4 (u / 4294967296)) (pattern_signed half8 (a + 4294967296 * b) (omega arith))
    ∙ ap₂ (λ (x y : ℕ). le4 x ++ le4 y) low high
    ∙ ap₂ (λ (x y : List ℕ). x ++ y) (le4_of_pattern l bytes at (omega arith)) (le4_of_pattern l bytes (at + 4) (omega arith))
    ∙ joined
  where
    take_both : (t : List ℕ) → take 4 t ++ take 4 (drop 4 t) ≡ take 8 t
    take_both [] = refl
    take_both (a ∷ []) = refl
    take_both (a ∷ b ∷ []) = refl
    take_both (a ∷ b ∷ c ∷ []) = refl
    take_both (a ∷ b ∷ c ∷ d ∷ t) = refl

    joined : take 4 (drop at l) ++ take 4 (drop (at + 4) l) ≡ take 8 (drop at l)
    joined = ap (λ (t : List ℕ). take 4 (drop at l) ++ take 4 t) (sym (drop-drop 4 at l)) ∙ take_both (drop at l)
