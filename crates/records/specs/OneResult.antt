-- "any two results allowed are shown to be the same result": for each entry point of this crate, and for the lent lists. Assumes nothing.
use Rattle.std.specs.Prelude.{◌≡◌, List, ℤ, length, Result, ℕ}
use Rattle.refusals.specs.Verdict.{Verdict, OneToOne, one_result, one_content, paper, results_apart}
use Rattle.refusals.specs.Lent.{written_into}
use Rattle.inputs.specs.Inputs.{Inputs}
use Rattle.months.specs.declared.Month.{Month}
use Rattle.months.specs.declared.Sui.{Sui}
use Rattle.months.specs.Limits.{months_of}
use Rattle.sui.specs.Sui.{sui_for}
use Rattle.records.specs.Records.{records_into, all_records, records_counted}
use Rattle.refusals.specs.declared.Refusal.{Refusal}

-- the paper tells answers apart
pub months_apart : OneToOne (paper {A = ℕ})
months_apart = results_apart

-- whatever was found
module _ (found : Verdict Sui) (out : List Month) where
  stored_one_result : (a b : Result ℕ Refusal) → paper a ≡ records_counted (records_into found (length out)) → paper b ≡ records_counted (records_into found (length out)) → a ≡ b
  stored_one_result a b p q = one_result paper months_apart a b p q

  stored_one_content : (a b : List Month) → a ≡ written_into (records_into found (length out)) all_records out → b ≡ written_into (records_into found (length out)) all_records out → a ≡ b
  stored_one_content a b p q = one_content a b p q

module _ (found : Result Sui Refusal) (out : List Month) where
  pub store_one_result : (a b : Result ℕ Refusal) → paper a ≡ records_counted (records_into (paper found) (length out)) → paper b ≡ records_counted (records_into (paper found) (length out)) → a ≡ b
  store_one_result = stored_one_result (paper found) out

  pub store_one_content : (a b : List Month) → a ≡ written_into (records_into (paper found) (length out)) all_records out → b ≡ written_into (records_into (paper found) (length out)) all_records out → a ≡ b
  store_one_content = stored_one_content (paper found) out

module _ (year : ℤ) (moons zhongqi : List ℤ) (out : List Month) where
  pub months_into_one_result : (a b : Result ℕ Refusal) → paper a ≡ records_counted (records_into (months_of year moons zhongqi) (length out)) → paper b ≡ records_counted (records_into (months_of year moons zhongqi) (length out)) → a ≡ b
  months_into_one_result = stored_one_result (months_of year moons zhongqi) out

  pub months_into_one_content : (a b : List Month) → a ≡ written_into (records_into (months_of year moons zhongqi) (length out)) all_records out → b ≡ written_into (records_into (months_of year moons zhongqi) (length out)) all_records out → a ≡ b
  months_into_one_content = stored_one_content (months_of year moons zhongqi) out

module _ (i : Inputs) (zone year : ℤ) (out : List Month) where
  pub sui_into_one_result : (a b : Result ℕ Refusal) → paper a ≡ records_counted (records_into (sui_for i zone year) (length out)) → paper b ≡ records_counted (records_into (sui_for i zone year) (length out)) → a ≡ b
  sui_into_one_result = stored_one_result (sui_for i zone year) out

  pub sui_into_one_content : (a b : List Month) → a ≡ written_into (records_into (sui_for i zone year) (length out)) all_records out → b ≡ written_into (records_into (sui_for i zone year) (length out)) all_records out → a ≡ b
  sui_into_one_content = stored_one_content (sui_for i zone year) out
