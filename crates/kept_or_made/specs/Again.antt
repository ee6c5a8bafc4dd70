-- A sui put again: where its days are the old ones, its months are copied from the old file, else they are made. Assumes nothing: these are definitions.
use Rattle.std.specs.Prelude.{◌≡◌, Bool, true, false, cond, List, [], ◌∷◌, ◌++◌, ℕ, zero, suc, ◌+◌, ◌*◌, ◌/◌, ◌≤◌, ◌<◌, ℤ, pos, ◌+ℤ◌, length, get_or, take, drop}
use Rattle.whole.specs.Evaluated.{same_words}
use Rattle.whole.specs.Lists.{placed}
use Rattle.refusals.specs.Verdict.{Verdict, answered, refused, ◌then◌}
use Rattle.inputs.specs.Inputs.{Inputs}
use Rattle.months.specs.declared.Sui.{Sui}
use Rattle.months.specs.declared.SuiDays.{SuiDays}
use Rattle.months.specs.Months.{sui_of}
use Rattle.sui.specs.Sui.{sui_days}
use Rattle.almanac.specs.Fields.{times, numbers_in}
use Rattle.almanac.specs.Layout.{month_fields}
use Rattle.built.specs.Build.{suis_from, month_words}
use Rattle.build.specs.theory.Put.{months_of, sui_months}
use Rattle.kept_or_made.specs.declared.inner.years.Again.{Again}
use Rattle.rebuilt.specs.Rebuild.{days_words}

-- how many months, and their words
abbrev pub again_count : Bool → ℕ → Verdict Sui → Verdict ℕ
again_count true months v = answered months
again_count false months v = months_of v

abbrev pub again_months : Bool → List ℤ → Verdict Sui → Verdict (List ℤ)
again_months true copied v = answered copied
again_months false copied v = v then λ sui. answered (sui_months sui)

-- put at a place where there is something to put
abbrev pub put_answered : {A : Type 0} → Verdict A → (A → List ℤ) → ℕ → List ℤ → List ℤ
put_answered (answered a) words at l = placed at (words a) l
put_answered (refused number segment) words at l = l

-- the months' words that stand in a file
abbrev pub months_at_place : List ℕ → ℕ → ℕ → List ℤ
months_at_place file at n = numbers_in (times n month_fields) file at

-- ---- one year, by its days and the words of the old ones
abbrev pub is_same_as : Verdict SuiDays → List ℤ → Bool
is_same_as (answered days) words = same_words words (days_words days)
is_same_as (refused number segment) words = false

abbrev pub year_count : ℤ → Verdict SuiDays → List ℤ → Verdict ℕ
year_count year v before = v then λ days. again_count (same_words before (days_words days)) days.months (sui_of year days)

abbrev pub year_months : ℤ → Verdict SuiDays → List ℤ → List ℕ → ℕ → Verdict (List ℤ)
year_months year v before file at = v then λ days. again_months (same_words before (days_words days)) (months_at_place file at days.months) (sui_of year days)

-- the year is listed where it is kept
abbrev pub year_listed : ℤ → Verdict SuiDays → List ℤ → List ℤ
year_listed year v before = cond (is_same_as v before) (year ∷ []) []

abbrev pub year_again : ℤ → Verdict SuiDays → List ℤ → ℕ → Verdict Again
year_again year v before years = year_count year v before then λ months. answered (record { months = months; years = years + length (year_listed year v before) })

-- ---- n years: those listed
unfoldable pub listed_again : Inputs → ℤ → ℤ → List ℤ → ℕ → List ℤ
listed_again i zone first before zero = []
listed_again i zone first before (suc n) = listed_again i zone first before n ++ year_listed (first +ℤ pos n) (sui_days i zone (first +ℤ pos n)) (take 28 (drop (28 * n) before))

abbrev pub years_again : Inputs → ℤ → ℤ → List ℤ → ℕ → Verdict Again
years_again i zone first before n = suis_from i zone first n then λ suis. answered (record { months = length (month_words suis) / 3; years = length (listed_again i zone first before n) })

-- ---- what copying asks: where the days of year j are the old ones, the old file has the months of the sui at their place
pub record Copies (i : Inputs) (zone first : ℤ) (n : ℕ) (before : List ℤ) (file : List ℕ) (at : ℕ) : Type 0 where
  pub room : 28 * n ≤ length before
  -- how many months the old suis have, and those before year j
  pub months : ℕ → ℕ
  pub months_before : ℕ → ℕ
  pub are_months : (j : ℕ) → j < n → get_or before (28 * j) (pos 0) ≡ pos (months j)
  pub months_few : (j : ℕ) → j < n → months j ≤ 13
  pub starts : months_before 0 ≡ 0
  pub goes_on : (j : ℕ) → j < n → months_before (j + 1) ≡ months_before j + months j
  pub few_before : (j : ℕ) → j ≤ n → months_before j ≤ 13 * j
  pub small : at ≤ 20000
  pub sui_kept : (j : ℕ) → j < n → (days : SuiDays) → sui_days i zone (first +ℤ pos j) ≡ answered days → same_words (take 28 (drop (28 * j) before)) (days_words days) ≡ true
      → (sui : Sui) × ((sui_of (first +ℤ pos j) days ≡ answered sui) × ((months_at_place file (at + 9 * months_before j) days.months ≡ sui_months sui) × (at + 9 * months_before j + 9 * days.months ≤ length file)))
