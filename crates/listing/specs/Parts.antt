-- A listing goes out in parts: from the i-th line on, the whole lines that fit the room. The laws at the top say that the parts, joined, are the
-- listing, and that a part is empty only where no line is left, if the room takes the longest line. Assumes nothing.
use Rattle.std.specs.Prelude.{◌≡◌, Bool, true, false, cond, List, [], ◌∷◌, ◌++◌, ltb, take, drop, get_or}
use Rattle.std.proofs.Math.Path.{refl}
use Rattle.std.proofs.Common.{sym, ap, ◌∙◌, append_assoc, ltb-false, lt-ltb, le-ltb, length-append, length-drop, take-append-drop, drop-cons, drop-drop}
use Prim.Native.Nat.{ℕ, suc, ◌+◌, ◌-◌, ◌≤◌, ◌<◌}
use native.Mathlib.Omega.{arith}
use Rattle.std.proofs.Math.ListN.{length}
use Rattle.listing.specs.declared.Part.{Part}

abbrev pub concat : List (List ℕ) → List ℕ
concat [] = []
concat (l ∷ ls) = l ++ concat ls

-- how many whole lines, from the first on, fit the room
unfoldable pub fitting : ℕ → List (List ℕ) → ℕ
fitting room [] = 0
fitting room (l ∷ ls) = cond (ltb room (length l)) 0 (suc (fitting (room - length l) ls))

-- the part of a listing from line i on, and how many lines it has
abbrev pub lines_in : List (List ℕ) → ℕ → ℕ → ℕ
lines_in lines i room = fitting room (drop i lines)

abbrev pub part_of : List (List ℕ) → ℕ → ℕ → List ℕ
part_of lines i room = concat (take (lines_in lines i room) (drop i lines))

-- what the entry point answers for a list of lines, and what the room holds afterwards
abbrev pub part_answer : List (List ℕ) → ℕ → ℕ → Part
part_answer lines i room = record { lines = lines_in lines i room; bytes = length (part_of lines i room) }

abbrev pub part_held : List (List ℕ) → ℕ → List ℕ → List ℕ
part_held lines i room = part_of lines i (length room) ++ drop (length (part_of lines i (length room))) room

pub concat_append : (a b : List (List ℕ)) → concat (a ++ b) ≡ concat a ++ concat b
concat_append [] b = refl
concat_append (l ∷ a) b = ap (λ (r : List ℕ). l ++ r) (concat_append a b) ∙ sym (append_assoc l (concat a) (concat b))

-- A part and what is left behind it are all that was left before it.
pub parts_join : (lines : List (List ℕ)) (i room : ℕ) → part_of lines i room ++ concat (drop (i + lines_in lines i room) lines) ≡ concat (drop i lines)
parts_join lines i room =
    ap (λ (r : List (List ℕ)). part_of lines i room ++ concat r) (sym (drop-drop (lines_in lines i room) i lines))
    ∙ sym (concat_append (take (lines_in lines i room) (drop i lines)) (drop (lines_in lines i room) (drop i lines)))
    ∙ ap concat (take-append-drop (lines_in lines i room) (drop i lines))

-- A part has a line as long as one is left and the room takes it.
pub part_goes_on : (lines : List (List ℕ)) (i room : ℕ) → i < length lines → length (get_or lines i []) ≤ room → 0 < lines_in lines i room
part_goes_on lines i room h k = rw (drop-cons lines i [] h) (unfold fitting in rw (le-ltb room (length (get_or lines i [])) k) (omega arith))

-- ---- for a loop over the lines: where it has come to line i with this room left, the next line fits, does not fit, or is not there
pub fitting_next : (lines : List (List ℕ)) (i room : ℕ) → i < length lines → length (get_or lines i []) ≤ room → fitting room (drop i lines) ≡ suc (fitting (room - length (get_or lines i [])) (drop (i + 1) lines))
fitting_next lines i room h k =
    rw (drop-cons lines i [] h) (unfold fitting in rw (le-ltb room (length (get_or lines i [])) k) (ap (λ (n : ℕ). suc (fitting (room - length (get_or lines i [])) (drop n lines))) one))
  where
    one : suc i ≡ i + 1
    one = omega arith

pub fitting_full : (lines : List (List ℕ)) (i room : ℕ) → i < length lines → room < length (get_or lines i []) → fitting room (drop i lines) ≡ 0
fitting_full lines i room h k = rw (drop-cons lines i [] h) (unfold fitting in rw (lt-ltb room (length (get_or lines i [])) k))

pub fitting_end : (lines : List (List ℕ)) (i room : ℕ) → length lines ≤ i → fitting room (drop i lines) ≡ 0
fitting_end lines i room h = go (drop i lines) (rw length-drop (omega arith))
  where
    go : (l : List (List ℕ)) → length l ≡ 0 → fitting room l ≡ 0
    go [] e = unfold fitting in refl
    go (x ∷ l) e = absurd (omega arith)

first_lines_fit : (ls : List (List ℕ)) (room : ℕ) → length (concat (take (fitting room ls) ls)) ≤ room
unfolding fitting
first_lines_fit [] room = omega arith
first_lines_fit (l ∷ ls) room = go (ltb room (length l)) refl (first_lines_fit ls (room - length l))
  where
    go : (b : Bool) → ltb room (length l) ≡ b → length (concat (take (fitting (room - length l) ls) ls)) ≤ room - length l → length (concat (take (cond b 0 (suc (fitting (room - length l) ls))) (l ∷ ls))) ≤ room
    go true e h = omega arith
    go false e h = rw length-append (omega (arith, ltb-false room (length l) e))

-- A part fits its room.
pub part_fits : (lines : List (List ℕ)) (i room : ℕ) → length (part_of lines i room) ≤ room
part_fits lines i room = first_lines_fit (drop i lines) room
