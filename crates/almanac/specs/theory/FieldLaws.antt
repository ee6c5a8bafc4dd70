-- Reading and writing fields undo each other: `numbers_read_back`, `bytes_written_back`; and fields that follow others. Assumes nothing.
use Rattle.std.specs.Prelude.{◌≡◌, refl, List, [], ◌∷◌, ◌++◌, ℕ, zero, suc, ◌+◌, ◌*◌, ◌<◌, ◌≤◌, ℤ, pos, length, take, drop}
use Rattle.std.proofs.Common.{sym, ap, ap₂, ◌∙◌, append_assoc, append-nil, arith, zero-add, length-append, drop-drop}
use Rattle.std.specs.Int.Signed.{mag}
use Rattle.words.specs.Words.{half4}
use Rattle.words.specs.Theorems.{Bytes, byte_read_back, unsigned_read_back, signed_read_back, byte_written_back, unsigned_written_back, signed_written_back}
use Rattle.almanac.specs.Fields.{Field, one_byte, unsigned, signed, width, read, written, times, widths, numbers_in, bytes_for}

-- ---- numbers that fit their field
pub record Counted (limit : ℕ) (z : ℤ) : Type 0 where
  pub number : ℕ
  pub is : z ≡ pos number
  pub small : number < limit

abbrev pub FitsField : Field → ℤ → Type 0
FitsField one_byte z = Counted 256 z
FitsField unsigned z = Counted 4294967296 z
FitsField signed z = mag z < half4

-- as many numbers as fields, each fitting its own
abbrev pub Fit : List Field → List ℤ → Type 0
Fit [] numbers = numbers ≡ []
Fit (f ∷ fields) [] = ⊥
Fit (f ∷ fields) (z ∷ numbers) = FitsField f z × Fit fields numbers

-- ---- one field
pub written_width : (f : Field) (z : ℤ) → length (written f z) ≡ width f
written_width one_byte z = refl
written_width unsigned z = refl
written_width signed z = refl

read_back : (f : Field) (z : ℤ) → FitsField f z → (p s : List ℕ) → read f (p ++ written f z ++ s) (length p) ≡ z
read_back one_byte z h p s = rw h.is (byte_read_back p s h.number)
read_back unsigned z h p s = rw h.is (unsigned_read_back p s h.number h.small)
read_back signed z h p s = signed_read_back p s z h

written_back : (f : Field) (file : List ℕ) → Bytes file → (at : ℕ) → at + width f ≤ length file → written f (read f file at) ≡ take (width f) (drop at file)
written_back one_byte file b at h = byte_written_back file b at (omega arith)
written_back unsigned file b at h = unsigned_written_back file b at h
written_back signed file b at h = signed_written_back file b at h

-- ---- fields one behind another
pub numbers_read_back : (fields : List Field) (numbers : List ℤ) → Fit fields numbers → (p s : List ℕ) → numbers_in fields (p ++ bytes_for fields numbers ++ s) (length p) ≡ numbers
unfolding numbers_in bytes_for
numbers_read_back [] numbers h p s = sym h
numbers_read_back (f ∷ fields) [] h p s = absurd h
numbers_read_back (f ∷ fields) (z ∷ numbers) h p s =
    let a = written f z in
    let r = bytes_for fields numbers in
    let here : p ++ (a ++ r) ++ s ≡ p ++ a ++ (r ++ s) = simp append_assoc refl in
    let behind : p ++ (a ++ r) ++ s ≡ (p ++ a) ++ r ++ s = simp append_assoc refl in
    let at : length p + width f ≡ length (p ++ a) = sym (length-append p a ∙ ap (λ (n : ℕ). length p + n) (written_width f z)) in
    ap₂ ◌∷◌
    (ap (λ (l : List ℕ). read f l (length p)) here ∙ read_back f z h.0 p (r ++ s))
    (ap₂ (λ (l : List ℕ) (n : ℕ). numbers_in fields l n) behind at ∙ numbers_read_back fields numbers h.1 (p ++ a) s)

pub take_more : {A : Type 0} (m n : ℕ) (l : List A) → take m l ++ take n (drop m l) ≡ take (m + n) l
take_more zero n l = ap (λ (k : ℕ). take k l) (sym (zero-add n))
take_more {A} (suc m) n [] = nothing n ∙ sym (nothing (suc m + n))
  where
    nothing : (n : ℕ) → take {A = A} n [] ≡ []
    nothing zero = refl
    nothing (suc n) = refl
take_more {A} (suc m) n (x ∷ l) = let e : suc m + n ≡ suc (m + n) = omega arith in rw e (ap (λ (t : List A). x ∷ t) (take_more m n l))

pub bytes_written_back : (fields : List Field) (file : List ℕ) → Bytes file → (at : ℕ) → at + widths fields ≤ length file → bytes_for fields (numbers_in fields file at) ≡ take (widths fields) (drop at file)
unfolding numbers_in bytes_for widths
bytes_written_back [] file b at h = refl
bytes_written_back (f ∷ fields) file b at h =
    ap₂ (λ (x y : List ℕ). x ++ y) (written_back f file b at (omega arith)) (bytes_written_back fields file b (at + width f) (omega arith))
    ∙ ap (λ (t : List ℕ). take (width f) (drop at file) ++ take (widths fields) t) (sym (drop-drop (width f) at file))
    ∙ take_more (width f) (widths fields) (drop at file)

pub bytes_length : (fields : List Field) (numbers : List ℤ) → length numbers ≡ length fields → length (bytes_for fields numbers) ≡ widths fields
unfolding bytes_for widths
bytes_length [] numbers h = refl
bytes_length (f ∷ fields) [] h = absurd (omega arith)
bytes_length (f ∷ fields) (z ∷ numbers) h = length-append (written f z) (bytes_for fields numbers) ∙ ap₂ (λ (m n : ℕ). m + n) (written_width f z) (bytes_length fields numbers (omega arith))

pub numbers_length : (fields : List Field) (file : List ℕ) (at : ℕ) → length (numbers_in fields file at) ≡ length fields
unfolding numbers_in
numbers_length [] file at = refl
numbers_length (f ∷ fields) file at = ap suc (numbers_length fields file (at + width f))

-- ---- fields that follow others
pub numbers_append : (fs gs : List Field) (file : List ℕ) (at : ℕ) → numbers_in (fs ++ gs) file at ≡ numbers_in fs file at ++ numbers_in gs file (at + widths fs)
unfolding numbers_in widths
numbers_append [] gs file at = let e : at + 0 ≡ at = omega arith in rw e
numbers_append (f ∷ fs) gs file at = let e : at + width f + widths fs ≡ at + (width f + widths fs) = omega arith in rw (numbers_append fs gs file (at + width f), e)

pub bytes_append : (fs gs : List Field) (xs ys : List ℤ) → length xs ≡ length fs → bytes_for (fs ++ gs) (xs ++ ys) ≡ bytes_for fs xs ++ bytes_for gs ys
unfolding bytes_for
bytes_append [] gs [] ys h = refl
bytes_append [] gs (x ∷ xs) ys h = absurd (omega arith)
bytes_append (f ∷ fs) gs [] ys h = absurd (omega arith)
bytes_append (f ∷ fs) gs (x ∷ xs) ys h = ap (λ (t : List ℕ). written f x ++ t) (bytes_append fs gs xs ys (omega arith)) ∙ sym (append_assoc (written f x) (bytes_for fs xs) (bytes_for gs ys))

pub widths_append : (fs gs : List Field) → widths (fs ++ gs) ≡ widths fs + widths gs
unfolding widths
widths_append [] gs = sym (zero-add (widths gs))
widths_append (f ∷ fs) gs = ap (λ (n : ℕ). width f + n) (widths_append fs gs) ∙ omega arith

pub widths_times : (n : ℕ) (fs : List Field) → widths (times n fs) ≡ widths fs * n
unfolding times widths
widths_times zero fs = omega arith
widths_times (suc n) fs = widths_append fs (times n fs) ∙ omega (arith, widths_times n fs)

pub length_times : (n : ℕ) (fs : List Field) → length (times n fs) ≡ length fs * n
unfolding times
length_times zero fs = omega arith
length_times (suc n) fs = length-append fs (times n fs) ∙ omega (arith, length_times n fs)

-- a record more, at the end
pub times_more : (n : ℕ) (fs : List Field) → times (suc n) fs ≡ times n fs ++ fs
unfolding times
times_more zero fs = append-nil fs
times_more (suc n) fs = ap (λ (t : List Field). fs ++ t) (times_more n fs) ∙ sym (append_assoc fs (times n fs) fs)

pub fit_length : (fields : List Field) (numbers : List ℤ) → Fit fields numbers → length numbers ≡ length fields
fit_length [] numbers h = ap length h
fit_length (f ∷ fields) [] h = absurd h
fit_length (f ∷ fields) (z ∷ numbers) h = ap suc (fit_length fields numbers h.1)
