-- The months of a sui in lent words, three a month: what was found refused, then 12 where fewer words are lent than the months take. Assumes nothing: these are
-- definitions.
use Rattle.std.specs.Prelude.{List, [], ◌∷◌, ℕ, ltb, ℤ, pos, length}
use Rattle.refusals.specs.Verdict.{Verdict, answered, refuse_when, ◌before◌, ◌then◌}
use Rattle.months.specs.declared.Sui.{Sui}
use Rattle.built.specs.Build.{months_in, words_of}

-- handle, first day and length of each month
abbrev pub sui_words : Sui → List ℤ
sui_words sui = words_of (months_in sui)

unfoldable pub sui_into : Verdict Sui → ℕ → Verdict Sui
sui_into found room = found then λ sui. refuse_when (ltb room (length (sui_words sui))) 12 before answered sui

-- the number of the answer: how many months
abbrev pub sui_numbers : Sui → List ℤ
sui_numbers sui = pos sui.count ∷ []
