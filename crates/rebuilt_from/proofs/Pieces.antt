-- However the two inputs are cut at words, what is rebuilt once their pieces are taken is what is rebuilt from the whole inputs (`pieces_rebuild`). Assumes nothing but
-- what a statement says itself.
use Rattle.std.specs.Prelude.{◌≡◌, refl, Bool, true, false, List, ℕ, ℤ, length}
use Rattle.std.proofs.Math.Path.{ap₂}
use Rattle.std.proofs.Common.{◌∙◌}
use Rattle.refusals.specs.Verdict.{Verdict}
use Rattle.inputs.specs.Inputs.{Inputs}
use Rattle.pieces.specs.Pieces.{all_pieces, joined, CutAtWords, Held}
use Rattle.pieces.proofs.Theorems.{pieces_are_held, pieces_keep_length}
use Rattle.building.specs.Building.{length_kept, all_taken}
use Rattle.building.specs.Pieces.{all_there}
use Rattle.rebuilt_from.specs.RebuiltFrom.{inputs_of, inputs_taken, rebuilt_with, rebuilt_from, rebuilt_from_taken}

-- ---- of one input that the room holds
held_inputs : (input : List ℕ) (ws : List ℤ) → length ws ≡ 252135 → Held input ws → inputs_taken ws (length input) ≡ inputs_of input
unfolding inputs_taken all_taken inputs_of
held_inputs input ws size held = go (length_kept (length input)) refl
  where
    go : (kept : Bool) → length_kept (length input) ≡ kept → inputs_taken ws (length input) ≡ inputs_of input
    go true e = let there = all_there input ws size held e in rw (e, there.0, there.1)
    go false e = rw e

-- and of one that was taken in pieces
pub pieces_inputs : (pieces : List (List ℕ)) → CutAtWords pieces → (ws : List ℤ) → length ws ≡ 252135 → inputs_taken (all_pieces 0 pieces ws) (length (joined pieces)) ≡ inputs_of (joined pieces)
pieces_inputs pieces cut ws size = held_inputs (joined pieces) (all_pieces 0 pieces ws) (pieces_keep_length 0 pieces ws ∙ size) (pieces_are_held pieces ws cut)

-- ---- of two
module _ (oldpieces : List (List ℕ)) (oldcut : CutAtWords oldpieces) (oldws : List ℤ) (oldsize : length oldws ≡ 252135) where
  module _ (pieces : List (List ℕ)) (cut : CutAtWords pieces) (ws : List ℤ) (size : length ws ≡ 252135) where
    pub pieces_rebuild : (old : List ℕ) (zone : ℤ) (room places : ℕ) → rebuilt_from_taken old (all_pieces 0 oldpieces oldws) (length (joined oldpieces)) (all_pieces 0 pieces ws) (length (joined pieces)) zone room places ≡ rebuilt_from old (joined oldpieces) (joined pieces) zone room places
    unfolding rebuilt_from_taken rebuilt_from
    pieces_rebuild old zone room places = ap₂ (λ (i j : Verdict Inputs). rebuilt_with i j zone old room places) (pieces_inputs oldpieces oldcut oldws oldsize) (pieces_inputs pieces cut ws size)
