-- However an input is cut at words, what is built once its pieces are taken is what is built from the whole input (`pieces_build`), and the series that is named is the
-- one that the whole input names (`pieces_blame`). Assumes nothing but what a statement says itself.
use Rattle.std.specs.Prelude.{◌≡◌, Bool, List, ℕ, ◌/◌, leb, ℤ, length, take}
use Rattle.std.proofs.Math.Path.{refl}
use Rattle.std.proofs.Common.{◌∙◌, arith, le-leb}
use Rattle.std.proofs.Math.Bool.{true, false}
use Rattle.words.specs.Words.{words}
use Rattle.pieces.specs.Pieces.{all_pieces, joined, CutAtWords, Held}
use Rattle.pieces.proofs.Theorems.{pieces_are_held, pieces_keep_length}
use Rattle.building.specs.Building.{length_kept, all_taken, built_from, built_from_taken}
use Rattle.building.specs.theory.Cases.{not_too_long}
use Rattle.building.specs.Refused.{refused_in_taken, refused_series}

-- ---- of an input that the room holds
module _ (input : List ℕ) (ws : List ℤ) (size : length ws ≡ 252135) (held : Held input ws) where
  -- one of the length that is kept was all taken, and its words are the input's
  pub all_there : length_kept (length input) ≡ true → (leb (length input / 8) (length ws) ≡ true) × (take (length input / 8) ws ≡ words input (length input / 8))
  all_there e =
      let short = not_too_long (length input) e in
      (le-leb (length input / 8) (length ws) (omega (arith, size, short)), held (omega (arith, size, short)))

  held_is_built : (zone : ℤ) (room : ℕ) → built_from_taken ws (length input) zone room ≡ built_from input zone room
  unfolding built_from_taken all_taken built_from
  held_is_built zone room = go (length_kept (length input)) refl
    where
      go : (kept : Bool) → length_kept (length input) ≡ kept → built_from_taken ws (length input) zone room ≡ built_from input zone room
      go true e = let there = all_there e in rw (e, there.0, there.1)
      go false e = rw e

  held_is_blamed : (zone : ℤ) → refused_in_taken ws (length input) zone ≡ refused_series input zone
  unfolding refused_in_taken all_taken refused_series
  held_is_blamed zone = go (length_kept (length input)) refl
    where
      go : (kept : Bool) → length_kept (length input) ≡ kept → refused_in_taken ws (length input) zone ≡ refused_series input zone
      go true e = let there = all_there e in rw (e, there.0, there.1)
      go false e = rw e

-- ---- of an input that was taken in pieces
module _ (pieces : List (List ℕ)) (cut : CutAtWords pieces) (ws : List ℤ) (size : length ws ≡ 252135) where
  pub pieces_build : (zone : ℤ) (room : ℕ) → built_from_taken (all_pieces 0 pieces ws) (length (joined pieces)) zone room ≡ built_from (joined pieces) zone room
  pieces_build zone room = held_is_built (joined pieces) (all_pieces 0 pieces ws) (pieces_keep_length 0 pieces ws ∙ size) (pieces_are_held pieces ws cut) zone room

  pub pieces_blame : (zone : ℤ) → refused_in_taken (all_pieces 0 pieces ws) (length (joined pieces)) zone ≡ refused_series (joined pieces) zone
  pieces_blame zone = held_is_blamed (joined pieces) (all_pieces 0 pieces ws) (pieces_keep_length 0 pieces ws ∙ size) (pieces_are_held pieces ws cut) zone
