-- The inputs of the rebuild program: an old almanac file, the input that it was built from and a new input, each such as the build program takes. Of an input leap table,
-- Sun and Moon are taken; first Y and count of suis, which stand before them, are skipped: the old file has them. The zone is no part of an input: 15 is judged before
-- everything else. Then an input that breaks its layout is 13, the old one first, then the new one; then the rebuild's own refusals. Assumes nothing: these are
-- definitions.
use Rattle.std.specs.Prelude.{not, List, ℕ, ◌/◌, ltb, ℤ, length, take, drop}
use Rattle.refusals.specs.Verdict.{Verdict, answered, refuse_when, ◌before◌, ◌then◌}
use Rattle.words.specs.Words.{words}
use Rattle.clock.specs.Answers.{zone_judged}
use Rattle.inputs.specs.Inputs.{Inputs}
use Rattle.layout.specs.Layout.{places, inputs_at}
use Rattle.building.specs.Building.{length_kept, all_taken}
use Rattle.rebuilt.specs.Rebuild.{NewFile, rebuilt}

-- ---- leap table, Sun and Moon of an input
unfoldable pub inputs_of_words : List ℤ → Verdict Inputs
inputs_of_words ws = refuse_when (ltb (length ws) 2) 13 before (places (drop 2 ws) then λ p. answered (inputs_at (drop 2 ws) p))

unfoldable pub inputs_of : List ℕ → Verdict Inputs
inputs_of bytes = refuse_when (not (length_kept (length bytes))) 13 before inputs_of_words (words bytes (length bytes / 8))

-- the same once so many bytes were taken in pieces (`pieces`)
unfoldable pub inputs_taken : List ℤ → ℕ → Verdict Inputs
inputs_taken ws bytes = refuse_when (not (all_taken ws bytes)) 13 before inputs_of_words (take (bytes / 8) ws)

-- ---- the rebuild from two inputs
abbrev pub rebuilt_with : Verdict Inputs → Verdict Inputs → ℤ → List ℕ → ℕ → ℕ → Verdict NewFile
rebuilt_with oldinputs newinputs zone old room places = zone_judged zone before (oldinputs then λ i. newinputs then λ j. rebuilt i j zone old room places)

unfoldable pub rebuilt_from : List ℕ → List ℕ → List ℕ → ℤ → ℕ → ℕ → Verdict NewFile
rebuilt_from old oldinput input zone room places = rebuilt_with (inputs_of oldinput) (inputs_of input) zone old room places

-- once so many bytes of each were taken: `Pieces` says that it is what is rebuilt from these bytes
unfoldable pub rebuilt_from_taken : List ℕ → List ℤ → ℕ → List ℤ → ℕ → ℤ → ℕ → ℕ → Verdict NewFile
rebuilt_from_taken old oldws oldbytes ws bytes zone room places = rebuilt_with (inputs_taken oldws oldbytes) (inputs_taken ws bytes) zone old room places
