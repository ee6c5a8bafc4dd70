-- What is put where a sui is found, and what the answers of the walk say on paper. Assumes nothing: these are definitions.
use Rattle.std.specs.Prelude.{List, [], ◌∷◌, ℕ, ◌/◌, ℤ, pos, length}
use Rattle.whole.specs.Lists.{placed}
use Rattle.refusals.specs.Verdict.{Verdict, answered, refused, ◌then◌}
use Rattle.months.specs.declared.Sui.{Sui}
use Rattle.built.specs.Build.{words_of, months_in as months-in, month_words}

-- how many months a sui has, and how many all have
abbrev pub months_of : Verdict Sui → Verdict ℕ
months_of v = v then (λ sui. answered sui.count)

abbrev pub months_in : Verdict (List Sui) → Verdict ℕ
months_in v = v then (λ suis. answered (length (month_words suis) / 3))

-- the words of a sui's record, and of its months
abbrev pub year_words : ℤ → Sui → List ℤ
year_words y sui = y ∷ pos sui.count ∷ []

abbrev pub sui_months : Sui → List ℤ
sui_months sui = words_of (months-in sui)

-- put at a place where there is one; else nothing is put
abbrev pub put_when : Verdict Sui → (Sui → List ℤ) → ℕ → List ℤ → List ℤ
put_when (answered sui) words at l = placed at (words sui) l
put_when (refused number segment) words at l = l
