-- A section read or written record by record: one turn of the loop, for records of any fields. Assumes nothing.
use Rattle.std.specs.Prelude.{◌≡◌, refl, ℕ, zero, suc, ◌+◌, ◌*◌, ◌≤◌, ◌<◌, ℤ, pos, negsuc, nat_abs, length, get_or, set}
use Rattle.std.proofs.Math.Path.{sym, ap}
use Rattle.std.proofs.Common.{ap₂, ◌∙◌, add-one, length-append, length-drop, take_at, drop_at, drop-drop, take_all, length-take-le}
use mathlib.Core.List.{List, [], ◌∷◌, ◌++◌, append_assoc, append-nil}
use native.Mathlib.Omega.{arith}
use Rattle.std.proofs.Math.ListN.{take, drop, take-append-drop}
use Rattle.std.proofs.lemmas.List.Edits.{sets-eq}
use Rattle.whole.specs.Lists.{placed, placed_both}
use Rattle.almanac.specs.Fields.{Field, signed, width, written, times, widths, numbers_in, bytes_for}
use Rattle.almanac.specs.theory.FieldLaws.{Counted, FitsField, written_width, Fit, fit_length, times_more, take_more, numbers_append, numbers_length, bytes_append, bytes_length, length_times, widths_times}

-- a record more
pub numbers_more : (n : ℕ) (fields : List Field) (file : List ℕ) (at : ℕ) → numbers_in (times (n + 1) fields) file at ≡ numbers_in (times n fields) file at ++ numbers_in fields file (at + widths fields * n)
numbers_more n fields file at =
    ap (λ (m : ℕ). numbers_in (times m fields) file at) (add-one n)
    ∙ ap (λ (fs : List Field). numbers_in fs file at) (times_more n fields)
    ∙ numbers_append (times n fields) fields file at
    ∙ ap (λ (m : ℕ). numbers_in (times n fields) file at ++ numbers_in fields file (at + m)) (widths_times n fields)

-- a part put behind what is there already
placed_behind : {A : Type 0} (front rest part : List A) (m : ℕ) → length front ≡ m → placed m part (front ++ drop m rest) ≡ front ++ part ++ drop (m + length part) rest
placed_behind front rest part m e =
    ap₂ (λ (a b : List _). a ++ part ++ b) (take_at front (drop m rest) m e)
    (sym (drop-drop (length part) m (front ++ drop m rest)) ∙ ap (drop (length part)) (drop_at front (drop m rest) m e) ∙ drop-drop (length part) m rest)

module _ (fields : List Field) (k : ℕ) (size : length fields ≡ k) (file : List ℕ) (at : ℕ) (lent : List ℤ) where
  pub read_turn : (i : ℕ) {now : List ℤ} → now ≡ numbers_in (times i fields) file at ++ drop (k * i) lent → (part : List ℤ) → part ≡ numbers_in fields file (at + widths fields * i) → placed (k * i) part now ≡ numbers_in (times (i + 1) fields) file at ++ drop (k * (i + 1)) lent
  read_turn i e part is =
      let front = numbers_in (times i fields) file at in
      let length_front : length front ≡ k * i = numbers_length (times i fields) file at ∙ length_times i fields ∙ ap (λ (n : ℕ). n * i) size in
      let length_part : length part ≡ k = ap length is ∙ numbers_length fields file (at + widths fields * i) ∙ size in
      let next : k * i + length part ≡ k * (i + 1) = omega (arith, length_part) in
      ap (placed (k * i) part) e
      ∙ placed_behind front lent part (k * i) length_front
      ∙ ap₂ (λ (a : List ℤ) (n : ℕ). a ++ drop n lent) (ap (λ (p : List ℤ). front ++ p) is ∙ sym (numbers_more i fields file at)) next

  pub read_none : lent ≡ numbers_in (times 0 fields) file at ++ drop (k * 0) lent
  unfolding times numbers_in
  read_none = let none : k * 0 ≡ 0 = omega arith in rw none

-- two and three words stored in a row
pub two_stored : (d : List ℤ) (at : ℕ) (a b : ℤ) → at + 2 ≤ length d → set (set d at a) (at + 1) b ≡ placed at (a ∷ b ∷ []) d
two_stored d at a b h = rw add-one (sets-eq (a ∷ b ∷ []) d at h)

pub three_stored : (d : List ℤ) (at : ℕ) (a b c : ℤ) → at + 3 ≤ length d → set (set (set d at a) (at + 1) b) (at + 2) c ≡ placed at (a ∷ b ∷ c ∷ []) d
three_stored d at a b c h = let e : at + 2 ≡ suc (suc at) = omega arith in rw (add-one, e) (sets-eq (a ∷ b ∷ c ∷ []) d at h)

-- ---- the same for writing
module _ (fields : List Field) (k : ℕ) (size : length fields ≡ k) (numbers : List ℤ) (at : ℕ) (lent : List ℕ) where
  pub write_turn : (i : ℕ) → k * (i + 1) ≤ length numbers → at + widths fields * (i + 1) ≤ length lent → {now : List ℕ} → now ≡ placed at (bytes_for (times i fields) (take (k * i) numbers)) lent → (part : List ℤ) → part ≡ take k (drop (k * i) numbers) → placed (at + widths fields * i) (bytes_for fields part) now ≡ placed at (bytes_for (times (i + 1) fields) (take (k * (i + 1)) numbers)) lent
  write_turn i h room e part is =
      ap (placed (at + widths fields * i) (bytes_for fields part)) e
      ∙ ap (λ (n : ℕ). placed (at + n) (bytes_for fields part) (placed at front lent)) (sym front_width)
      ∙ placed_both lent front at (bytes_for fields part) (omega (arith, front_width, part_width))
      ∙ ap (λ (b : List ℕ). placed at b lent) (sym more)
    where
      before : List ℤ
      before = take (k * i) numbers

      before_length : length before ≡ length (times i fields)
      before_length = length-take-le (k * i) numbers (omega arith) ∙ sym (length_times i fields ∙ ap (λ (n : ℕ). n * i) size)

      front : List ℕ
      front = bytes_for (times i fields) before

      front_width : length front ≡ widths fields * i
      front_width = bytes_length (times i fields) before before_length ∙ widths_times i fields

      part_length : length part ≡ length fields
      part_length = ap length is ∙ length-take-le k (drop (k * i) numbers) (rw length-drop (omega arith)) ∙ sym size

      part_width : length (bytes_for fields part) ≡ widths fields
      part_width = bytes_length fields part part_length

      split : take (k * (i + 1)) numbers ≡ before ++ part
      split = let n : k * (i + 1) ≡ k * i + k = omega arith in ap (λ (m : ℕ). take m numbers) n ∙ sym (take_more (k * i) k numbers) ∙ ap (λ (t : List ℤ). before ++ t) (sym is)

      more : bytes_for (times (i + 1) fields) (take (k * (i + 1)) numbers) ≡ front ++ bytes_for fields part
      more =
          ap₂ bytes_for (ap (λ (m : ℕ). times m fields) (add-one i) ∙ times_more i fields) split
          ∙ bytes_append (times i fields) fields before part before_length

  pub write_none : lent ≡ placed at (bytes_for (times 0 fields) (take (k * 0) numbers)) lent
  unfolding times bytes_for
  write_none = let none : at + 0 ≡ at = omega arith in sym (ap (λ (n : ℕ). take at lent ++ [] ++ drop n lent) none ∙ ap (λ (x : List ℕ). x ++ drop at lent) (append-nil (take at lent)) ∙ take-append-drop at lent)

  pub write_all : (n : ℕ) → Fit (times n fields) numbers → take (k * n) numbers ≡ numbers
  write_all n f = take_all (k * n) numbers (omega (arith, fit_length (times n fields) numbers f, length_times n fields, ap (λ (m : ℕ). m * n) size))

-- ---- one record
-- a number that fits its field is within what the field's writer takes
pub signed_fits : (z : ℤ) → FitsField signed z → nat_abs z < 4294967296
signed_fits (pos n) h = omega arith
signed_fits (negsuc n) h = omega arith

pub counted_fits : (limit : ℕ) (z : ℤ) → Counted limit z → nat_abs z < limit
counted_fits limit z h = rw h.is h.small

-- two and three fields behind one another
pub two_placed : (l : List ℕ) (at : ℕ) (f g : Field) (y z : ℤ) → at + (width f + width g) ≤ length l → placed (at + width f) (written g z) (placed at (written f y) l) ≡ placed at (bytes_for (f ∷ g ∷ []) (y ∷ z ∷ [])) l
unfolding bytes_for
two_placed l at f g y z h =
    ap (λ (n : ℕ). placed (at + n) (written g z) (placed at (written f y) l)) (sym (written_width f y))
    ∙ placed_both l (written f y) at (written g z) (omega (arith, written_width f y, written_width g z))
    ∙ ap (λ (b : List ℕ). placed at (written f y ++ b) l) (sym (append-nil (written g z)))

pub three_placed : (l : List ℕ) (at : ℕ) (f g k : Field) (x y z : ℤ) → at + (width f + width g + width k) ≤ length l → placed (at + (width f + width g)) (written k z) (placed (at + width f) (written g y) (placed at (written f x) l)) ≡ placed at (bytes_for (f ∷ g ∷ k ∷ []) (x ∷ y ∷ z ∷ [])) l
unfolding bytes_for
three_placed l at f g k x y z h =
    ap (λ (now : List ℕ). placed (at + (width f + width g)) (written k z) now) both
    ∙ ap (λ (n : ℕ). placed (at + n) (written k z) (placed at (written f x ++ written g y) l)) (sym both_width)
    ∙ placed_both l (written f x ++ written g y) at (written k z) (omega (arith, both_width, written_width k z))
    ∙ ap (λ (b : List ℕ). placed at b l) (append_assoc (written f x) (written g y) (written k z) ∙ ap (λ (b : List ℕ). written f x ++ (written g y ++ b)) (sym (append-nil (written k z))))
  where
    both_width : length (written f x ++ written g y) ≡ width f + width g
    both_width = length-append (written f x) (written g y) ∙ ap₂ (λ (m n : ℕ). m + n) (written_width f x) (written_width g y)

    both : placed (at + width f) (written g y) (placed at (written f x) l) ≡ placed at (written f x ++ written g y) l
    both =
        ap (λ (n : ℕ). placed (at + n) (written g y) (placed at (written f x) l)) (sym (written_width f x))
        ∙ placed_both l (written f x) at (written g y) (omega (arith, written_width f x, written_width g y))

-- ---- the record at a place of a list
pub two_of : (l : List ℤ) (m : ℕ) → m + 2 ≤ length l → get_or l m (pos 0) ∷ get_or l (m + 1) (pos 0) ∷ [] ≡ take 2 (drop m l)
two_of (a ∷ b ∷ l) zero h = refl
two_of (a ∷ []) zero h = absurd (omega arith)
two_of [] m h = absurd (omega arith)
two_of (a ∷ l) (suc m) h = let e : suc m + 1 ≡ suc (m + 1) = omega arith in rw e (two_of l m (omega arith))

pub three_of : (l : List ℤ) (m : ℕ) → m + 3 ≤ length l → get_or l m (pos 0) ∷ get_or l (m + 1) (pos 0) ∷ get_or l (m + 2) (pos 0) ∷ [] ≡ take 3 (drop m l)
three_of (a ∷ b ∷ c ∷ l) zero h = refl
three_of (a ∷ b ∷ []) zero h = absurd (omega arith)
three_of (a ∷ []) zero h = absurd (omega arith)
three_of [] m h = absurd (omega arith)
three_of (a ∷ l) (suc m) h = let e : suc m + 1 ≡ suc (m + 1) = omega arith in let d : suc m + 2 ≡ suc (m + 2) = omega arith in rw (e, d) (three_of l m (omega arith))

-- and its numbers fit
pub two_fit : (f g : Field) (n : ℕ) (l : List ℤ) → Fit (times n (f ∷ g ∷ [])) l → (i : ℕ) → i < n → FitsField f (get_or l (2 * i) (pos 0)) × FitsField g (get_or l (2 * i + 1) (pos 0))
unfolding times
two_fit f g zero l h i k = absurd (omega arith)
two_fit f g (suc n) [] h i k = absurd h
two_fit f g (suc n) (x ∷ []) h i k = absurd h.1
two_fit f g (suc n) (x ∷ y ∷ l) h zero k = (h.0, h.1.0)
two_fit f g (suc n) (x ∷ y ∷ l) h (suc i) k =
    let a : 2 * suc i ≡ suc (suc (2 * i)) = omega arith in
    let b : 2 * suc i + 1 ≡ suc (suc (2 * i + 1)) = omega arith in
    rw (b, a) (two_fit f g n l h.1.1 i (omega arith))

pub three_fit : (f g k : Field) (n : ℕ) (l : List ℤ) → Fit (times n (f ∷ g ∷ k ∷ [])) l → (i : ℕ) → i < n → FitsField f (get_or l (3 * i) (pos 0)) × (FitsField g (get_or l (3 * i + 1) (pos 0)) × FitsField k (get_or l (3 * i + 2) (pos 0)))
unfolding times
three_fit f g k zero l h i u = absurd (omega arith)
three_fit f g k (suc n) [] h i u = absurd h
three_fit f g k (suc n) (x ∷ []) h i u = absurd h.1
three_fit f g k (suc n) (x ∷ y ∷ []) h i u = absurd h.1.1
three_fit f g k (suc n) (x ∷ y ∷ z ∷ l) h zero u = (h.0, (h.1.0, h.1.1.0))
three_fit f g k (suc n) (x ∷ y ∷ z ∷ l) h (suc i) u =
    let a : 3 * suc i ≡ suc (suc (suc (3 * i))) = omega arith in
    let b : 3 * suc i + 1 ≡ suc (suc (suc (3 * i + 1))) = omega arith in
    let d : 3 * suc i + 2 ≡ suc (suc (suc (3 * i + 2))) = omega arith in
    rw (b, d, a) (three_fit f g k n l h.1.1.1 i (omega arith))
