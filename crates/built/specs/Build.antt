-- The file build (document 01, "Almanac file" and "Refusal numbers"): the suis of consecutive years, one after another, their records as the content of a file,
-- and its bytes. Assumes nothing: these are definitions.
use Rattle.std.specs.Prelude.{not, List, [], ◌∷◌, ◌++◌, ℕ, zero, suc, ℤ, pos, nat_abs, ◌+ℤ◌, take}
use Rattle.whole.specs.Tests.{in_range}
use Rattle.refusals.specs.Verdict.{Verdict, answered, refuse_when, ◌before◌, ◌then◌}
use Rattle.inputs.specs.Inputs.{Inputs, judged_in}
use Rattle.months.specs.declared.Month.{Month}
use Rattle.months.specs.declared.Sui.{Sui}
use Rattle.sui.specs.Sui.{sui_of_year}
use Rattle.content.specs.Content.{Content, content}
use Rattle.almanac.specs.Answers.{bytes_into, bytes_counted}

-- ---- the records of suis, as the content of a file
-- the months that a sui has: behind them its list is filled up
abbrev pub months_in : Sui → List Month
months_in sui = take sui.count sui.months

unfoldable pub words_of : List Month → List ℤ
words_of [] = []
words_of (m ∷ months) = m.handle ∷ m.first ∷ m.length ∷ words_of months

-- of suis from a year on: year and number of months of each
unfoldable pub sui_words : ℤ → List Sui → List ℤ
sui_words year [] = []
sui_words year (sui ∷ suis) = year ∷ pos sui.count ∷ sui_words (year +ℤ pos 1) suis

-- the months of each, one behind the other
unfoldable pub month_words : List Sui → List ℤ
month_words [] = []
month_words (sui ∷ suis) = words_of (months_in sui) ++ month_words suis

abbrev pub content_for : List ℤ → ℤ → List Sui → Content
content_for leap first suis = content leap (sui_words first suis) (month_words suis)

-- ---- by a sui for each year, whatever it is
-- each sui in year order by 8 to 10: the first n from a year on; the first refusal wins
unfoldable pub suis_by : (ℤ → Verdict Sui) → ℤ → ℕ → Verdict (List Sui)
suis_by sui_of first zero = answered []
suis_by sui_of first (suc n) = suis_by sui_of first n then λ suis. sui_of (first +ℤ pos n) then λ sui. answered (suis ++ (sui ∷ []))

unfoldable pub content_by : List ℤ → (ℤ → Verdict Sui) → ℤ → ℕ → Verdict Content
content_by leap sui_of first n = suis_by sui_of first n then λ suis. answered (content_for leap first suis)

-- its bytes; 12 where there is not room for all
unfoldable pub bytes_by : List ℤ → (ℤ → Verdict Sui) → ℤ → ℕ → ℕ → Verdict (List ℕ)
bytes_by leap sui_of first n room = content_by leap sui_of first n then λ c. bytes_into c room

-- behind the judgement of zone and inputs: after 7 the count is judged, then each sui in year order by 8 to 10, then 12
unfoldable pub built_by : Verdict (Unit {0}) → List ℤ → (ℤ → Verdict Sui) → ℤ → ℤ → ℕ → Verdict (List ℕ)
built_by judged leap sui_of first count room =
    judged
    before refuse_when (not (in_range (pos 1) (pos 128) count)) 8
    before bytes_by leap sui_of first (nat_abs count) room

-- ---- by a leap table and two series
module _ (i : Inputs) (zone : ℤ) where
  abbrev pub suis_from : ℤ → ℕ → Verdict (List Sui)
  suis_from = suis_by (sui_of_year i zone)

  abbrev pub content_built : ℤ → ℕ → Verdict Content
  content_built = content_by i.leap (sui_of_year i zone)

  abbrev pub bytes_of_years : ℤ → ℕ → ℕ → Verdict (List ℕ)
  bytes_of_years = bytes_by i.leap (sui_of_year i zone)

  -- the whole: 15; 1; Sun 2 to 5; Moon 2 to 5; 7; 8; each sui; 12
  abbrev pub bytes_built : ℤ → ℤ → ℕ → Verdict (List ℕ)
  bytes_built = built_by (judged_in i zone) i.leap (sui_of_year i zone)

  -- how many bytes it has
  unfoldable pub file_built : ℤ → ℤ → ℕ → Verdict ℕ
  file_built first count room = bytes_counted (bytes_built first count room)
