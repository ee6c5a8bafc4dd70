-- When two lists are the same, by the tests that say so: of words, of bytes. Assumes nothing.
use Rattle.std.specs.Prelude.{◌≡◌, refl, Bool, true, false, List, [], ◌∷◌, ℕ, eqb, ℤ, pos, negsuc}
use Rattle.std.proofs.Common.{sym, ap, ap₂, ◌∙◌, arith, eqb-true, eq-eqb}
use Rattle.whole.specs.Booleans.{both}
use Rattle.whole.specs.Evaluated.{same, same_numbers, same_words}

nothing_true : {A : Type 0} → false ≡ true → A
nothing_true e = let z : ◌≡◌ {A = ℕ} 0 1 = cc in absurd (omega arith)

-- a test that tells of equals, and only of them, tells that others are unlike
unlike : {A : Type 0} (test : A → A → Bool) (a b : A) → (test a b ≡ true → a ≡ b) → (a ≡ b → ⊥) → false ≡ test a b
unlike test a b are differ = go (test a b) refl
  where
    go : (t : Bool) → test a b ≡ t → false ≡ t
    go true q = absurd (differ (are q))
    go false q = refl

-- ---- lists of words
same_itself : (z : ℤ) → same z z ≡ true
same_itself (pos n) = eq-eqb n n refl
same_itself (negsuc n) = eq-eqb n n refl

same_is : (a b : ℤ) → same a b ≡ true → a ≡ b
same_is (pos a) (pos b) e = ap pos (eqb-true a b e)
same_is (pos a) (negsuc b) e = nothing_true e
same_is (negsuc a) (pos b) e = nothing_true e
same_is (negsuc a) (negsuc b) e = ap negsuc (eqb-true a b e)

words_themselves : (l : List ℤ) → same_words l l ≡ true
words_themselves [] = refl
words_themselves (z ∷ l) = rw (same_itself z) (words_themselves l)

pub words_are : (a b : List ℤ) → same_words a b ≡ true → a ≡ b
words_are [] [] e = refl
words_are [] (b ∷ bs) e = nothing_true e
words_are (a ∷ as') [] e = nothing_true e
words_are (a ∷ as') (b ∷ bs) e = let t = both (same a b) (same_words as' bs) e in ap₂ ◌∷◌ (same_is a b t.0) (words_are as' bs t.1)

pub words_alike : {a b : List ℤ} → a ≡ b → true ≡ same_words a b
words_alike {a} {b} e = sym (ap (same_words a) (sym e) ∙ words_themselves a)

pub words_unlike : {a b : List ℤ} → (a ≡ b → ⊥) → false ≡ same_words a b
words_unlike {a} {b} differ = unlike same_words a b (words_are a b) differ

-- ---- lists of bytes
bytes_themselves : (l : List ℕ) → same_numbers l l ≡ true
bytes_themselves [] = refl
bytes_themselves (z ∷ l) = rw (eq-eqb z z refl) (bytes_themselves l)

pub bytes_are : (a b : List ℕ) → same_numbers a b ≡ true → a ≡ b
bytes_are [] [] e = refl
bytes_are [] (b ∷ bs) e = nothing_true e
bytes_are (a ∷ as') [] e = nothing_true e
bytes_are (a ∷ as') (b ∷ bs) e = let t = both (eqb a b) (same_numbers as' bs) e in ap₂ ◌∷◌ (eqb-true a b t.0) (bytes_are as' bs t.1)

pub bytes_alike : {a b : List ℕ} → a ≡ b → true ≡ same_numbers a b
bytes_alike {a} {b} e = sym (ap (same_numbers a) (sym e) ∙ bytes_themselves a)

pub bytes_unlike : {a b : List ℕ} → (a ≡ b → ⊥) → false ≡ same_numbers a b
bytes_unlike {a} {b} differ = unlike same_numbers a b (bytes_are a b) differ
