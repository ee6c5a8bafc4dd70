-- What the two passes hold between bytes: the rest of the text, with what was done before it. Assumes nothing: these are definitions.
use Rattle.std.specs.Prelude.{Bool, true, false, List, [], ℕ, ◌+◌, ℤ, length, Result, Ok, Err}
use Rattle.words.specs.Words.{bytes8}
use Rattle.packing.specs.declared.BadWord.{BadWord}
use Rattle.packing.specs.declared.reading.Ended.{Ended}
use Rattle.packing.specs.declared.reading.Ended.TheVariants as ended
use Rattle.packing.specs.Packing.{Scanned, numbers, bad}

-- so many words, and those of the rest
abbrev pub judged : ℕ → Scanned → Result ℕ BadWord
judged n (numbers zs) = Ok (n + length zs)
judged n (bad line word) = Err (record { line = line; word = word })

abbrev pub is_good : Scanned → Bool
is_good (numbers zs) = true
is_good (bad line word) = false

abbrev pub found : Scanned → List ℤ
found (numbers zs) = zs
found (bad line word) = []

abbrev pub is_bad : Ended → Bool
is_bad ended.Nothing = false
is_bad (ended.Word z) = false
is_bad ended.Bad = true

abbrev pub ended_words : Ended → ℕ
ended_words ended.Nothing = 0
ended_words (ended.Word z) = 1
ended_words ended.Bad = 0

abbrev pub ended_bytes : Ended → List ℕ
ended_bytes ended.Nothing = []
ended_bytes (ended.Word z) = bytes8 z
ended_bytes ended.Bad = []
