-- Any two results that the promises of `list_years` allow are the same result, and so is what the lent room holds. Assumes nothing.
use Rattle.std.specs.Prelude.{◌≡◌, List, ℕ, ℤ, length, Result}
use Rattle.refusals.specs.Verdict.{one_result, one_content, paper}
use Rattle.refusals.specs.Lent.{written_into}
use Rattle.refusals.specs.declared.Refusal.{Refusal}
use Rattle.almanac.specs.Answers.{bytes_counted, all_bytes}
use Rattle.almanac.specs.OneResult.{written_apart}
use Rattle.kept_years.specs.Answers.{lines_listed}

module _ (file : List ℕ) (years : List ℤ) (out : List ℕ) where
  pub list_years_one_result : (a b : Result ℕ Refusal) → paper a ≡ bytes_counted (lines_listed file years (length out)) → paper b ≡ bytes_counted (lines_listed file years (length out)) → a ≡ b
  list_years_one_result a b p q = one_result paper written_apart a b p q

  pub list_years_one_content : (a b : List ℕ) → a ≡ written_into (lines_listed file years (length out)) all_bytes out → b ≡ written_into (lines_listed file years (length out)) all_bytes out → a ≡ b
  list_years_one_content a b p q = one_content a b p q
