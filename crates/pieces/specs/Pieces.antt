-- An input of signed 64-bit little-endian words that comes in pieces of bytes, of which only the words are kept, in a room for all that an input may have. Assumes
-- nothing: these are definitions.
use Rattle.std.specs.Prelude.{◌≡◌, cond, List, [], ◌∷◌, ◌++◌, ℕ, ◌+◌, ◌*◌, ◌/◌, ◌%◌, ◌≤◌, ltb, eqb, ℤ, length, take}
use Rattle.whole.specs.Lists.{placed}
use Rattle.words.specs.Words.{words}

-- what the room holds once a piece is taken behind so many bytes; a piece with which the input is longer than the room, or that begins inside a word, is not kept
unfoldable pub piece_taken : ℕ → List ℕ → List ℤ → List ℤ
piece_taken taken piece room =
    cond (ltb (8 * length room) (taken + length piece)) room (cond (eqb (taken % 8) 0) (placed (taken / 8) (words piece (length piece / 8)) room) room)

-- the pieces of an input, taken one after another behind so many bytes
abbrev pub all_pieces : ℕ → List (List ℕ) → List ℤ → List ℤ
all_pieces taken [] room = room
all_pieces taken (piece ∷ pieces) room = all_pieces (taken + length piece) pieces (piece_taken taken piece room)

abbrev pub joined : List (List ℕ) → List ℕ
joined [] = []
joined (piece ∷ pieces) = piece ++ joined pieces

-- every piece but the last has whole words
abbrev pub CutAtWords : List (List ℕ) → Type 0
CutAtWords [] = Unit {0}
CutAtWords (piece ∷ []) = Unit {0}
CutAtWords (piece ∷ next ∷ pieces) = (length piece % 8 ≡ 0) × CutAtWords (next ∷ pieces)

-- a room holds an input: its words stand in front, unless it is longer than the room
abbrev pub Held : List ℕ → List ℤ → Type 0
Held input room = length input ≤ 8 * length room → take (length input / 8) room ≡ words input (length input / 8)

-- ---- for a program that reads, which cannot say what it read: that there are pieces, and what they left in the room
abbrev pub AllWhole : List (List ℕ) → Type 0
AllWhole [] = Unit {0}
AllWhole (piece ∷ pieces) = (length piece % 8 ≡ 0) × AllWhole pieces

-- one piece, of 65,536 bytes at most, was taken behind so many bytes
pub record TakenNext (taken : ℕ) (room now : List ℤ) (bytes : ℕ) : Type 0 where
  pub piece : List ℕ
  pub short : length piece ≤ 65536
  pub is_room : now ≡ piece_taken taken piece room
  pub is_bytes : bytes ≡ taken + length piece

-- pieces of whole words were taken, so many bytes in all
pub record TakenWhole (room now : List ℤ) (bytes : ℕ) : Type 0 where
  pub pieces : List (List ℕ)
  pub whole : AllWhole pieces
  pub is_room : now ≡ all_pieces 0 pieces room
  pub is_bytes : bytes ≡ length (joined pieces)

-- the pieces of an input that is cut at words were taken, so many bytes in all
pub record Taken (room now : List ℤ) (bytes : ℕ) : Type 0 where
  pub pieces : List (List ℕ)
  pub cut : CutAtWords pieces
  pub is_room : now ≡ all_pieces 0 pieces room
  pub is_bytes : bytes ≡ length (joined pieces)
