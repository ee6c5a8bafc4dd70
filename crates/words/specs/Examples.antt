-- Numbers in bytes at the ends of each width, read and written, each a computed fact, and all of them checked at once. Assumes nothing.
use Rattle.std.specs.Prelude.{Bool, List, [], ◌∷◌, ◌^◌, ◌-◌, T, pos, negsuc, replicate}
use Rattle.whole.specs.Evaluated.{same, all, same_numbers}
use Rattle.words.specs.Words.{byte, unsigned4, signed4, word8, bytes1, bytes4, bytes8}

unfoldable pub examples : List Bool
examples =
    -- one byte
    same (byte (255 ∷ []) 0) (pos 255)
    ∷ same_numbers (bytes1 (pos 255)) (255 ∷ [])
    -- 32 bits, low byte first, where they stand
    ∷ same (unsigned4 (9 ∷ 4 ∷ 3 ∷ 2 ∷ 1 ∷ []) 1) (pos 16909060)
    ∷ same (unsigned4 (255 ∷ 255 ∷ 255 ∷ 255 ∷ []) 0) (pos 4294967295)
    ∷ same_numbers (bytes4 (pos 16909060)) (4 ∷ 3 ∷ 2 ∷ 1 ∷ [])
    ∷ same_numbers (bytes4 (pos 4294967295)) (255 ∷ 255 ∷ 255 ∷ 255 ∷ [])
    -- the same signed: the largest, the least, -1
    ∷ same (signed4 (255 ∷ 255 ∷ 255 ∷ 127 ∷ []) 0) (pos 2147483647)
    ∷ same (signed4 (0 ∷ 0 ∷ 0 ∷ 128 ∷ []) 0) (negsuc 2147483647)
    ∷ same (signed4 (255 ∷ 255 ∷ 255 ∷ 255 ∷ []) 0) (negsuc 0)
    ∷ same_numbers (bytes4 (pos 2147483647)) (255 ∷ 255 ∷ 255 ∷ 127 ∷ [])
    ∷ same_numbers (bytes4 (negsuc 2147483647)) (0 ∷ 0 ∷ 0 ∷ 128 ∷ [])
    ∷ same_numbers (bytes4 (negsuc 0)) (255 ∷ 255 ∷ 255 ∷ 255 ∷ [])
    -- 64 bits: each byte's place, the largest, the least, -1
    ∷ same (word8 (8 ∷ 7 ∷ 6 ∷ 5 ∷ 4 ∷ 3 ∷ 2 ∷ 1 ∷ []) 0) (pos 72623859790382856)
    ∷ same (word8 (255 ∷ 255 ∷ 255 ∷ 255 ∷ 255 ∷ 255 ∷ 255 ∷ 127 ∷ []) 0) (pos (2 ^ 63 - 1))
    ∷ same (word8 (0 ∷ 0 ∷ 0 ∷ 0 ∷ 0 ∷ 0 ∷ 0 ∷ 128 ∷ []) 0) (negsuc (2 ^ 63 - 1))
    ∷ same (word8 (replicate 8 255) 0) (negsuc 0)
    ∷ same_numbers (bytes8 (pos 72623859790382856)) (8 ∷ 7 ∷ 6 ∷ 5 ∷ 4 ∷ 3 ∷ 2 ∷ 1 ∷ [])
    ∷ same_numbers (bytes8 (negsuc (2 ^ 63 - 1))) (0 ∷ 0 ∷ 0 ∷ 0 ∷ 0 ∷ 0 ∷ 0 ∷ 128 ∷ [])
    ∷ []

pub examples_hold : T (all examples)
unfolding examples
examples_hold = tt
