-- The words of a text, or the first that is none, and what `pack` answers and writes. Assumes nothing: these are definitions.
use Rattle.std.specs.Prelude.{cond, List, [], ◌∷◌, ◌++◌, ℕ, ◌*◌, ltb, ℤ, length, drop, Result, Ok, Err}
use Rattle.words.specs.Words.{bytes8}
use Rattle.packing.specs.declared.PackError.{PackError}
use Rattle.packing.specs.declared.PackError.TheVariants as error
use Rattle.packing.specs.declared.reading.At.TheVariants.{Between}
use Rattle.packing.specs.declared.reading.State.{State}
use Rattle.packing.specs.declared.reading.Ended.{Ended}
use Rattle.packing.specs.declared.reading.Ended.TheVariants as ended
use Rattle.packing.specs.Reading.{step, end_of, ended_by}

-- the numbers of a text's words in order, or the line of the first that is none and its place in that line, both counted from 1
pub data Scanned : Type 0 where
  numbers : List ℤ → Scanned
  bad : (line word : ℕ) → Scanned

-- a number before the others
abbrev pub put : ℤ → Scanned → Scanned
put z (numbers zs) = numbers (z ∷ zs)
put z (bad line word) = bad line word

-- what ended at a state, before what the rest of the text holds
abbrev pub joined : Ended → State → Scanned → Scanned
joined ended.Nothing s rest = rest
joined (ended.Word z) s rest = put z rest
joined ended.Bad s rest = bad s.line s.word

-- the end of the text ends a word too
unfoldable pub scan : State → List ℕ → Scanned
scan s [] = joined (end_of s.at) s (numbers [])
scan s (byte ∷ bytes) = joined (ended_by s.at byte) s (scan (step s byte) bytes)

abbrev pub start : State
start = record { line = 1; word = 0; at = Between }

-- ---- the answer, and what the lent room holds afterwards
-- each number as eight bytes
unfoldable pub bytes_of : List ℤ → List ℕ
bytes_of [] = []
bytes_of (z ∷ zs) = bytes8 z ++ bytes_of zs

abbrev pub answer_for : Scanned → ℕ → Result ℕ PackError
answer_for (numbers zs) room = cond (ltb room (8 * length zs)) (Err error.Room) (Ok (8 * length zs))
answer_for (bad line word) room = Err (error.BadWord (record { line = line; word = word }))

-- the words at the front, and what stood behind them; where nothing is packed, what it held
abbrev pub held_after : Scanned → List ℕ → List ℕ
held_after (numbers zs) out = cond (ltb (length out) (8 * length zs)) out (bytes_of zs ++ drop (8 * length zs) out)
held_after (bad line word) out = out

unfoldable pub packed : List ℕ → ℕ → Result ℕ PackError
packed text room = answer_for (scan start text) room

unfoldable pub held : List ℕ → List ℕ → List ℕ
held text out = held_after (scan start text) out
