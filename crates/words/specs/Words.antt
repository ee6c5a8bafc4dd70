-- Little-endian numbers in bytes, both ways: one byte, 32 bits and 64 bits, signed by two's complement. `Theorems` says that writing and reading undo each
-- other. Assumes nothing: these are definitions.
use Rattle.std.specs.Prelude.{ℕ, zero, suc, ◌+◌, ◌-◌, ◌*◌, ◌/◌, ◌%◌, ◌≡◌, refl, List, [], ◌∷◌, ◌++◌, cond, ltb, ℤ, pos, negsuc, nat_abs, length, get_or}
use Rattle.std.proofs.Common.{arith, length-append}

-- ---- bits: a pattern below 2h, and the signed number that it stands for
abbrev pub signed_below : ℕ → ℕ → ℤ
signed_below h u = cond (ltb u h) (pos u) (negsuc (h + h - suc u))

-- the pattern of a number; one that is not negative is its own
abbrev pub pattern_below : ℕ → ℤ → ℕ
pattern_below h (pos n) = n
pattern_below h (negsuc n) = h + h - suc n

abbrev pub half4 : ℕ
half4 = 2147483648

abbrev pub half8 : ℕ
half8 = 9223372036854775808

-- ---- reading: the number that stands at `at`, low byte first
abbrev pub byte : List ℕ → ℕ → ℤ
byte l at = pos (get_or l at 0)

abbrev pub pattern4 : List ℕ → ℕ → ℕ
pattern4 l at = get_or l at 0 + 256 * get_or l (at + 1) 0 + 65536 * get_or l (at + 2) 0 + 16777216 * get_or l (at + 3) 0

-- 32 bits that are never negative, and signed ones
abbrev pub unsigned4 : List ℕ → ℕ → ℤ
unsigned4 l at = pos (pattern4 l at)

abbrev pub signed4 : List ℕ → ℕ → ℤ
signed4 l at = signed_below half4 (pattern4 l at)

-- the signed 64-bit word
abbrev pub word8 : List ℕ → ℕ → ℤ
word8 l at = signed_below half8 (pattern4 l at + 4294967296 * pattern4 l (at + 4))

-- the first n words
unfoldable pub words : List ℕ → ℕ → List ℤ
words l zero = []
words l (suc n) = words l n ++ (word8 l (8 * n) ∷ [])

-- ---- writing: the bytes of a number
abbrev pub le4 : ℕ → List ℕ
le4 u = u % 256 ∷ u / 256 % 256 ∷ u / 65536 % 256 ∷ u / 16777216 % 256 ∷ []

-- of a number from 0 to 255
abbrev pub bytes1 : ℤ → List ℕ
bytes1 z = nat_abs z ∷ []

-- of a number in the range of 32 bits, signed or not; its pattern is the same
abbrev pub bytes4 : ℤ → List ℕ
bytes4 z = le4 (pattern_below half4 z)

-- of a signed 64-bit word
abbrev pub bytes8 : ℤ → List ℕ
bytes8 z = le4 (pattern_below half8 z % 4294967296) ++ le4 (pattern_below half8 z / 4294967296)

pub words_length : (l : List ℕ) (n : ℕ) → length (words l n) ≡ n
unfolding words
words_length l zero = refl
words_length l (suc n) = simp (length-append, words_length l n) (omega arith)
