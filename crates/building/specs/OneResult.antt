-- Any two results that the promises of an entry point allow are the same result, and so is what the lent file holds. Assumes nothing.
use Rattle.std.specs.Prelude.{◌≡◌, List, ℕ, ℤ, length, Result, Option}
use Rattle.refusals.specs.declared.Refusal.{Refusal}
use Rattle.refusals.specs.Verdict.{one_result, one_content, paper}
use Rattle.refusals.specs.Lent.{written_into}
use Rattle.series.specs.declared.Body.{Body}
use Rattle.almanac.specs.Answers.{bytes_counted, all_bytes}
use Rattle.almanac.specs.OneResult.{written_apart}
use Rattle.building.specs.Building.{built_from_taken}
use Rattle.building.specs.Refused.{refused_in_taken}

module _ (ws : List ℤ) (bytes : ℕ) (zone : ℤ) (file : List ℕ) where
  pub build_taken_one_result : (a b : Result ℕ Refusal) → paper a ≡ bytes_counted (built_from_taken ws bytes zone (length file)) → paper b ≡ bytes_counted (built_from_taken ws bytes zone (length file)) → a ≡ b
  build_taken_one_result a b p q = one_result paper written_apart a b p q

  pub build_taken_one_content : (a b : List ℕ) → a ≡ written_into (built_from_taken ws bytes zone (length file)) all_bytes file → b ≡ written_into (built_from_taken ws bytes zone (length file)) all_bytes file → a ≡ b
  build_taken_one_content a b p q = one_content a b p q

pub refused_series_one_result : (ws : List ℤ) (bytes : ℕ) (zone : ℤ) (a b : Option Body) → a ≡ refused_in_taken ws bytes zone → b ≡ refused_in_taken ws bytes zone → a ≡ b
refused_series_one_result ws bytes zone a b p q = one_content a b p q
