-- The cases of `piece_taken`. Assumes nothing.
use Rattle.std.specs.Prelude.{◌≡◌, List, ℕ, ◌+◌, ◌*◌, ◌/◌, ◌%◌, ◌≤◌, ◌<◌, ℤ}
use borrow.Author.Tests.{lt-ltb, le-ltb, eq-eqb, ne_eqb}
use Rattle.std.proofs.Math.ListN.{length}
use Rattle.whole.specs.Lists.{placed}
use Rattle.words.specs.Words.{words}
use Rattle.pieces.specs.Pieces.{piece_taken}

module _ (taken : ℕ) (piece : List ℕ) (room : List ℤ) where
  pub too_long : 8 * length room < taken + length piece → room ≡ piece_taken taken piece room
  unfolding piece_taken
  too_long h = rw (lt-ltb (8 * length room) (taken + length piece) h)

  module _ (short : taken + length piece ≤ 8 * length room) where
    pub inside_a_word : (taken % 8 ≡ 0 → ⊥) → room ≡ piece_taken taken piece room
    unfolding piece_taken
    inside_a_word e = rw (le-ltb (8 * length room) (taken + length piece) short, ne_eqb (taken % 8) 0 e)

    pub kept : taken % 8 ≡ 0 → piece_taken taken piece room ≡ placed (taken / 8) (words piece (length piece / 8)) room
    unfolding piece_taken
    kept e = rw (le-ltb (8 * length room) (taken + length piece) short, eq-eqb (taken % 8) 0 e)
