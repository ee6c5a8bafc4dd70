-- The rebuild (document 02, order 1; its zone, order 5): the file of the old file's years from new inputs, and the years of the suis whose days the new inputs leave as
-- they were. Assumes nothing: these are definitions.
use Rattle.std.specs.Prelude.{Bool, false, cond, not, List, [], ◌∷◌, ◌++◌, ℕ, zero, suc, ltb, ℤ, pos, ◌+ℤ◌, length}
use Rattle.whole.specs.Evaluated.{same_numbers, same_words}
use Rattle.refusals.specs.Verdict.{Verdict, answered, refused, refuse_when, ◌before◌, ◌then◌}
use Rattle.clock.specs.Answers.{zone_judged}
use Rattle.inputs.specs.Inputs.{Inputs}
use Rattle.months.specs.declared.SuiDays.{SuiDays}
use Rattle.sui.specs.Sui.{sui_days}
use Rattle.content.specs.Content.{Content, sui_count, year_at}
use Rattle.almanac.specs.Layout.{file_of}
use Rattle.built.specs.Build.{bytes_of_years, bytes_built}
use Rattle.rebuilt.specs.declared.Rebuilt.{Rebuilt}
use Rattle.rebuilt.specs.declared.Years.{Years}

-- ---- the old file: "13 first, when the old file is not one that the old inputs give"
-- the years of a file
abbrev pub years_in : Content → Years
years_in c = record { first = year_at c.suis 0; count = sui_count c }

-- a build gave these bytes
abbrev pub is_file : Verdict (List ℕ) → List ℕ → Bool
is_file (answered bytes) file = same_numbers bytes file
is_file (refused number segment) file = false

-- a lawful file, and what a build for its own years gives
unfoldable pub given_by : (ℤ → ℤ → Verdict (List ℕ)) → List ℕ → Verdict Years
given_by built file = file_of file then λ c. refuse_when (not (is_file (built (years_in c).first (pos (years_in c).count)) file)) 13 before answered (years_in c)

-- ---- the suis that are kept: "whose new-moon days (from its month 11 to the next sui's) and 13 zhongqi days are unchanged"
-- the days of a sui in one list: how many months it has, its new-moon days, its zhongqi days
unfoldable pub days_words : SuiDays → List ℤ
days_words days = pos days.months ∷ days.moons ++ days.zhongqi

unfoldable pub same_days : SuiDays → SuiDays → Bool
same_days a b = same_words (days_words a) (days_words b)

abbrev pub is_kept : Verdict SuiDays → Verdict SuiDays → Bool
is_kept (answered a) (answered b) = same_days a b
is_kept (answered a) (refused number segment) = false
is_kept (refused number segment) v = false

-- "the answer lists exactly the years of those suis": of n years, in rising order
unfoldable pub kept_by : (ℤ → Bool) → ℤ → ℕ → List ℤ
kept_by kept first zero = []
kept_by kept first (suc n) = kept_by kept first n ++ cond (kept (first +ℤ pos n)) ((first +ℤ pos n) ∷ []) []

-- ---- behind the zone: 13; then the fresh build's refusals in its order, 12 for its bytes the last of them; then 12 for the years
pub record NewFile : Type 0 where
  pub bytes : List ℕ
  pub years : List ℤ

unfoldable pub new_file_by : Verdict (List ℕ) → List ℤ → ℕ → Verdict NewFile
new_file_by built years places = built then λ bytes. refuse_when (ltb places (length years)) 12 before answered (record { bytes = bytes; years = years })

unfoldable pub rebuilt_by : Verdict Years → (ℤ → ℤ → Verdict (List ℕ)) → (ℤ → Bool) → ℕ → Verdict NewFile
rebuilt_by given built kept places = given then λ y. new_file_by (built y.first (pos y.count)) (kept_by kept y.first y.count) places

-- ---- by old and new leap table and series
-- as many bytes as any file has
abbrev pub most_bytes : ℕ
most_bytes = 16140

abbrev pub given : Inputs → ℤ → List ℕ → Verdict Years
given old zone = given_by (λ first count. bytes_built old zone first count most_bytes)

module _ (old new : Inputs) (zone : ℤ) where
  abbrev pub kept : ℤ → Bool
  kept year = is_kept (sui_days old zone year) (sui_days new zone year)

  -- the whole: 15 before 13
  abbrev pub rebuilt : List ℕ → ℕ → ℕ → Verdict NewFile
  rebuilt file room places = zone_judged zone before rebuilt_by (given old zone file) (λ first count. bytes_built new zone first count room) kept places

  -- behind the judgement of the old file and of the inputs
  abbrev pub new_file : ℤ → ℕ → ℕ → ℕ → Verdict NewFile
  new_file first n room places = new_file_by (bytes_of_years new zone first n room) (kept_by kept first n) places

-- ---- the answer on paper, and what the lent places hold
abbrev pub counted : Verdict NewFile → Verdict Rebuilt
counted v = v then λ n. answered (record { bytes = length n.bytes; years = length n.years })

abbrev pub new_bytes : NewFile → List ℕ
new_bytes n = n.bytes

abbrev pub kept_years : NewFile → List ℤ
kept_years n = n.years
