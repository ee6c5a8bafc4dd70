-- A word at once: an optional sign, then one or more digits, all digits, whose number fits 64 bits. `Theorems` says that a text is read word by word as this says.
-- Assumes nothing: these are definitions.
use Rattle.std.specs.Prelude.{Bool, true, false, cond, ◌&&◌, List, [], ◌∷◌, ℕ, ◌+◌, ◌-◌, ◌*◌, eqb, leb}
use Rattle.packing.specs.declared.reading.Ended.{Ended}
use Rattle.packing.specs.declared.reading.Ended.TheVariants.{Word, Bad}
use Rattle.packing.specs.Reading.{is_digit, signed_of, limit}

-- each byte passes a test
abbrev pub each_byte : (ℕ → Bool) → List ℕ → Bool
each_byte test [] = true
each_byte test (byte ∷ bytes) = test byte && each_byte test bytes

-- the number of digits behind n
abbrev pub decimal : ℕ → List ℕ → ℕ
decimal n [] = n
decimal n (byte ∷ bytes) = decimal (10 * n + (byte - 48)) bytes

abbrev pub some : List ℕ → Bool
some [] = false
some (byte ∷ bytes) = true

unfoldable pub digits_say : Bool → List ℕ → Ended
digits_say below digits = cond (some digits && (each_byte is_digit digits && leb (decimal 0 digits) (limit below))) (Word (signed_of below (decimal 0 digits))) Bad

-- 45 is -, 43 is +
unfoldable pub word_says : List ℕ → Ended
word_says [] = Bad
word_says (byte ∷ bytes) = cond (eqb byte 45) (digits_say true bytes) (cond (eqb byte 43) (digits_say false bytes) (digits_say false (byte ∷ bytes)))
