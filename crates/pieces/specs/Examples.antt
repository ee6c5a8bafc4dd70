-- Pieces on both sides of the bounds: computed facts, checked at once. Assumes nothing.
use Rattle.std.specs.Prelude.{Bool, List, [], ◌∷◌, ◌++◌, T, pos, replicate}
use Rattle.whole.specs.Evaluated.{all, same_words}
use Rattle.words.specs.Words.{words}
use Rattle.pieces.specs.Pieces.{piece_taken, all_pieces}

unfoldable pub examples : List Bool
unfolding piece_taken words
examples =
    -- a piece stands behind the bytes before it; a part of a word at its end is not kept, nor a piece that begins inside a word
    same_words (piece_taken 8 (5 ∷ replicate 7 0 ++ 7 ∷ replicate 7 0) (pos 1 ∷ pos 2 ∷ pos 3 ∷ pos 4 ∷ [])) (pos 1 ∷ pos 5 ∷ pos 7 ∷ pos 4 ∷ [])
    ∷ same_words (piece_taken 8 (5 ∷ replicate 7 0 ++ 7 ∷ replicate 6 0) (pos 1 ∷ pos 2 ∷ pos 3 ∷ pos 4 ∷ [])) (pos 1 ∷ pos 5 ∷ pos 3 ∷ pos 4 ∷ [])
    ∷ same_words (piece_taken 9 (5 ∷ replicate 7 0) (pos 1 ∷ pos 2 ∷ pos 3 ∷ [])) (pos 1 ∷ pos 2 ∷ pos 3 ∷ [])
    -- a room of two words: filled to its last byte, and one byte more
    ∷ same_words (piece_taken 8 (5 ∷ replicate 7 0) (pos 1 ∷ pos 2 ∷ [])) (pos 1 ∷ pos 5 ∷ [])
    ∷ same_words (piece_taken 8 (5 ∷ replicate 8 0) (pos 1 ∷ pos 2 ∷ [])) (pos 1 ∷ pos 2 ∷ [])
    -- three pieces, the last with a part of a word
    ∷ same_words (all_pieces 0 ((5 ∷ replicate 7 0) ∷ (6 ∷ replicate 7 0) ∷ (7 ∷ []) ∷ []) (pos 1 ∷ pos 2 ∷ pos 3 ∷ [])) (pos 5 ∷ pos 6 ∷ pos 3 ∷ [])
    ∷ []

pub examples_hold : T (all examples)
unfolding examples
examples_hold = tt
