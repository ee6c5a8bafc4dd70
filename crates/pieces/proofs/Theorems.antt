-- However an input is cut at words, once its pieces are taken the room holds it (`pieces_are_held`). Assumes nothing.
use Rattle.std.specs.Prelude.{◌≡◌, Bool, true, false, ltb, eqb, ℤ, length, get_or, take}
use Rattle.std.proofs.Math.Path.{refl, sym, ap, ap₂}
use Rattle.std.proofs.Common.{◌∙◌, le-ltb, eq-eqb, ltb-false, length-append, get_or-append-add}
use mathlib.Core.List.{List, [], ◌∷◌, ◌++◌, append_assoc, append-nil}
use Prim.Native.Nat.{ℕ, zero, suc, ◌+◌, ◌*◌, ◌/◌, ◌%◌, ◌≤◌}
use native.Mathlib.Omega.{arith}
use Rattle.std.proofs.Math.ListN.{get_or-append}
use Rattle.whole.specs.Lists.{placed, placed_length, take_placed}
use Rattle.words.specs.Words.{word8, words, words_length}
use Rattle.pieces.specs.Pieces.{piece_taken, all_pieces, joined, CutAtWords, Held, AllWhole, TakenNext, TakenWhole, Taken}

-- ---- the words of two pieces, one behind the other
module _ (a b : List ℕ) where
  front_word : (at : ℕ) → at + 8 ≤ length a → word8 (a ++ b) at ≡ word8 a at
  front_word at h =
      let e₀ = get_or-append a b 0 at (omega arith) in
      let e₁ = get_or-append a b 0 (at + 1) (omega arith) in
      let e₂ = get_or-append a b 0 (at + 2) (omega arith) in
      let e₃ = get_or-append a b 0 (at + 3) (omega arith) in
      let e₄ = get_or-append a b 0 (at + 4) (omega arith) in
      let e₅ = get_or-append a b 0 (at + 4 + 1) (omega arith) in
      let e₆ = get_or-append a b 0 (at + 4 + 2) (omega arith) in
      let e₇ = get_or-append a b 0 (at + 4 + 3) (omega arith) in
      rw (e₀, e₁, e₂, e₃, e₄, e₅, e₆, e₇)

  front_words : (n : ℕ) → 8 * n ≤ length a → words (a ++ b) n ≡ words a n
  unfolding words
  front_words zero h = refl
  front_words (suc n) h = rw (front_words n (omega arith), front_word (8 * n) (omega arith))

  behind_byte : (p k : ℕ) → p ≡ length a + k → get_or (a ++ b) p 0 ≡ get_or b k 0
  behind_byte p k e = ap (λ (i : ℕ). get_or (a ++ b) i 0) e ∙ get_or-append-add a b k 0

  behind_word : (p at : ℕ) → p ≡ length a + at → word8 (a ++ b) p ≡ word8 b at
  behind_word p at e =
      let e₀ = behind_byte p at e in
      let e₁ = behind_byte (p + 1) (at + 1) (omega (arith, e)) in
      let e₂ = behind_byte (p + 2) (at + 2) (omega (arith, e)) in
      let e₃ = behind_byte (p + 3) (at + 3) (omega (arith, e)) in
      let e₄ = behind_byte (p + 4) (at + 4) (omega (arith, e)) in
      let e₅ = behind_byte (p + 4 + 1) (at + 4 + 1) (omega (arith, e)) in
      let e₆ = behind_byte (p + 4 + 2) (at + 4 + 2) (omega (arith, e)) in
      let e₇ = behind_byte (p + 4 + 3) (at + 4 + 3) (omega (arith, e)) in
      rw (e₀, e₁, e₂, e₃, e₄, e₅, e₆, e₇)

  words_of_two : (n m : ℕ) → length a ≡ 8 * n → words (a ++ b) (n + m) ≡ words a n ++ words b m
  unfolding words
  words_of_two n zero h =
      let none : n + 0 ≡ n = omega arith in
      ap (words (a ++ b)) none ∙ front_words n (omega arith) ∙ sym (append-nil (words a n))
  words_of_two n (suc m) h =
      let one_more : n + suc m ≡ suc (n + m) = omega arith in
      ap (words (a ++ b)) one_more
      ∙ ap₂ (λ (l : List ℤ) (w : ℤ). l ++ (w ∷ [])) (words_of_two n m h) (behind_word (8 * (n + m)) (8 * m) (omega arith))
      ∙ append_assoc (words a n) (words b m) (word8 b (8 * m) ∷ [])

-- ---- taking a piece keeps the room's length
pub keeps_length : (taken : ℕ) (piece : List ℕ) (room : List ℤ) → length (piece_taken taken piece room) ≡ length room
unfolding piece_taken
keeps_length taken piece room = go (ltb (8 * length room) (taken + length piece)) refl (eqb (taken % 8) 0) refl
  where
    go : (long : Bool) → ltb (8 * length room) (taken + length piece) ≡ long → (whole : Bool) → eqb (taken % 8) 0 ≡ whole → length (piece_taken taken piece room) ≡ length room
    go true l whole w = rw l
    go false l false w = rw (l, w)
    go false l true w =
        let m = length piece / 8 in
        let fits : taken / 8 + length (words piece m) ≤ length room = omega (arith, words_length piece m, ltb-false (8 * length room) (taken + length piece) l) in
        rw (l, w) (placed_length room (words piece m) (taken / 8) fits)

-- ---- a piece is held behind what is held, if that is of whole words
piece_is_held : (before piece : List ℕ) (room : List ℤ) → length before % 8 ≡ 0 → Held before room → Held (before ++ piece) (piece_taken (length before) piece room)
unfolding piece_taken
piece_is_held before piece room whole held short =
    let n = length before / 8 in
    let m = length piece / 8 in
    let both = length-append before piece in
    let words_before : length before ≡ 8 * n = omega arith in
    let all_words : length (before ++ piece) / 8 ≡ n + m = omega (arith, both) in
    let fits : length before + length piece ≤ 8 * length room = omega (arith, both, short, keeps_length (length before) piece room) in
    rw (all_words, le-ltb (8 * length room) (length before + length piece) fits, eq-eqb (length before % 8) 0 whole)
    (ap (λ (k : ℕ). take (n + k) (placed n (words piece m) room)) (sym (words_length piece m))
    ∙ take_placed room (words piece m) n (omega (arith, fits))
    ∙ ap (λ (l : List ℤ). l ++ words piece m) (held (omega arith))
    ∙ sym (words_of_two before piece n m words_before))

-- ---- all pieces
all_held : (before : List ℕ) (pieces : List (List ℕ)) (room : List ℤ) → length before % 8 ≡ 0 → Held before room → CutAtWords pieces → Held (before ++ joined pieces) (all_pieces (length before) pieces room)
all_held before [] room whole held cut = rw (append-nil before) held
all_held before (piece ∷ []) room whole held cut = rw (append-nil piece) (piece_is_held before piece room whole held)
all_held before (piece ∷ next ∷ pieces) room whole held cut =
    let both = length-append before piece in
    let rest = all_held (before ++ piece) (next ∷ pieces) (piece_taken (length before) piece room) (omega (arith, both, cut.0, whole)) (piece_is_held before piece room whole held) cut.1 in
    rw (append_assoc before piece (joined (next ∷ pieces)), both) at rest

pub pieces_are_held : (pieces : List (List ℕ)) (room : List ℤ) → CutAtWords pieces → Held (joined pieces) (all_pieces 0 pieces room)
unfolding words
pieces_are_held pieces room cut = all_held [] pieces room refl (λ _. refl) cut

-- and the room has the length it had
pub pieces_keep_length : (taken : ℕ) (pieces : List (List ℕ)) (room : List ℤ) → length (all_pieces taken pieces room) ≡ length room
pieces_keep_length taken [] room = refl
pieces_keep_length taken (piece ∷ pieces) room = pieces_keep_length (taken + length piece) pieces (piece_taken taken piece room) ∙ keeps_length taken piece room

-- ---- taking one piece more
joined_one_more : (pieces : List (List ℕ)) (piece : List ℕ) → joined (pieces ++ (piece ∷ [])) ≡ joined pieces ++ piece
joined_one_more [] piece = append-nil piece
joined_one_more (first ∷ pieces) piece = ap (λ (l : List ℕ). first ++ l) (joined_one_more pieces piece) ∙ sym (append_assoc first (joined pieces) piece)

all_one_more : (taken : ℕ) (pieces : List (List ℕ)) (piece : List ℕ) (room : List ℤ) → all_pieces taken (pieces ++ (piece ∷ [])) room ≡ piece_taken (taken + length (joined pieces)) piece (all_pieces taken pieces room)
all_one_more taken [] piece room = let none : taken ≡ taken + 0 = omega arith in ap (λ (n : ℕ). piece_taken n piece room) none
all_one_more taken (first ∷ pieces) piece room =
    let both : taken + length first + length (joined pieces) ≡ taken + length (first ++ joined pieces) = omega (arith, length-append first (joined pieces)) in
    all_one_more (taken + length first) pieces piece (piece_taken taken first room)
    ∙ ap (λ (n : ℕ). piece_taken n piece (all_pieces (taken + length first) pieces (piece_taken taken first room))) both

whole_one_more : (pieces : List (List ℕ)) (piece : List ℕ) → AllWhole pieces → length piece % 8 ≡ 0 → AllWhole (pieces ++ (piece ∷ []))
whole_one_more [] piece whole e = (e, tt)
whole_one_more (first ∷ pieces) piece whole e = (whole.0, whole_one_more pieces piece whole.1 e)

cut_one_more : (pieces : List (List ℕ)) (piece : List ℕ) → AllWhole pieces → CutAtWords (pieces ++ (piece ∷ []))
cut_one_more [] piece whole = tt
cut_one_more (first ∷ []) piece whole = (whole.0, tt)
cut_one_more (first ∷ next ∷ pieces) piece whole = (whole.0, cut_one_more (next ∷ pieces) piece whole.1)

cut_whole : (pieces : List (List ℕ)) → AllWhole pieces → CutAtWords pieces
cut_whole [] whole = tt
cut_whole (piece ∷ []) whole = tt
cut_whole (piece ∷ next ∷ pieces) whole = (whole.0, cut_whole (next ∷ pieces) whole.1)

module _ (room : List ℤ) where
  pub nothing_taken : TakenWhole room room 0
  nothing_taken = record { pieces = []; whole = tt; is_room = refl; is_bytes = refl }

  module _ {now : List ℤ} {bytes : ℕ} (before : TakenWhole room now bytes) where
    -- as it is, where nothing follows
    pub taken_so_far : Taken room now bytes
    taken_so_far = record { pieces = before.pieces; cut = cut_whole before.pieces before.whole; is_room = before.is_room; is_bytes = before.is_bytes }

    module _ {last : List ℤ} {total : ℕ} (next : TakenNext bytes now last total) where
      room_one_more : last ≡ all_pieces 0 (before.pieces ++ (next.piece ∷ [])) room
      room_one_more =
          let from_0 : bytes ≡ 0 + length (joined before.pieces) = omega (arith, before.is_bytes) in
          next.is_room
          ∙ ap₂ (λ (n : ℕ) (l : List ℤ). piece_taken n next.piece l) from_0 before.is_room
          ∙ sym (all_one_more 0 before.pieces next.piece room)

      bytes_one_more : total ≡ length (joined (before.pieces ++ (next.piece ∷ [])))
      bytes_one_more =
          omega (arith, next.is_bytes, before.is_bytes, ap length (joined_one_more before.pieces next.piece), length-append (joined before.pieces) next.piece)

      pub last_taken : Taken room last total
      last_taken = record { pieces = before.pieces ++ (next.piece ∷ []); cut = cut_one_more before.pieces next.piece before.whole; is_room = room_one_more; is_bytes = bytes_one_more }

      pub whole_taken : length next.piece % 8 ≡ 0 → TakenWhole room last total
      whole_taken e = record { pieces = before.pieces ++ (next.piece ∷ []); whole = whole_one_more before.pieces next.piece before.whole e; is_room = room_one_more; is_bytes = bytes_one_more }

pub next_keeps_length : {taken bytes : ℕ} {room now : List ℤ} → TakenNext taken room now bytes → length now ≡ length room
next_keeps_length {taken = taken} {room = room} next = ap length next.is_room ∙ keeps_length taken next.piece room
