-- Fields of a file, one behind another: a format is a list of fields, and it has two faces, the numbers that stand in bytes and the bytes of numbers. `Theorems`
-- says that they undo each other. Assumes nothing: these are definitions.
use Rattle.std.specs.Prelude.{List, [], ◌∷◌, ◌++◌, ℕ, zero, suc, ◌+◌, ℤ}
use Rattle.words.specs.Words.{byte, unsigned4, signed4, bytes1, bytes4}

-- one byte, 32 bits, signed 32 bits; all little-endian
pub data Field : Type 0 where
  one_byte : Field
  unsigned : Field
  signed : Field

abbrev pub width : Field → ℕ
width one_byte = 1
width unsigned = 4
width signed = 4

abbrev pub read : Field → List ℕ → ℕ → ℤ
read one_byte file at = byte file at
read unsigned file at = unsigned4 file at
read signed file at = signed4 file at

abbrev pub written : Field → ℤ → List ℕ
written one_byte z = bytes1 z
written unsigned z = bytes4 z
written signed z = bytes4 z

-- n records of the same fields
unfoldable pub times : ℕ → List Field → List Field
times zero record-fields = []
times (suc n) record-fields = record-fields ++ times n record-fields

-- how many bytes fields take
unfoldable pub widths : List Field → ℕ
widths [] = 0
widths (f ∷ fields) = width f + widths fields

-- the numbers that stand from `at` on
unfoldable pub numbers_in : List Field → List ℕ → ℕ → List ℤ
numbers_in [] file at = []
numbers_in (f ∷ fields) file at = read f file at ∷ numbers_in fields file (at + width f)

-- the bytes of numbers
unfoldable pub bytes_for : List Field → List ℤ → List ℕ
bytes_for [] numbers = []
bytes_for (f ∷ fields) [] = []
bytes_for (f ∷ fields) (z ∷ numbers) = written f z ++ bytes_for fields numbers
