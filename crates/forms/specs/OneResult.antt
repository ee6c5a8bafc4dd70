-- "any two results allowed are shown to be the same result": for each entry point of this crate, and for the lent lists. Assumes nothing.
use Rattle.std.specs.Prelude.{◌≡◌, List, ℕ, ℤ, length, Result}
use Rattle.std.proofs.Common.{sym, ◌∙◌}
use Rattle.std.specs.Borrow.{Bor}
use Rattle.refusals.specs.declared.Refusal.{Refusal}
use Rattle.refusals.specs.Verdict.{paper}
use Rattle.refusals.specs.Lent.{written_into}
use Rattle.times.specs.declared.Second.{Second}
use Rattle.series.specs.declared.Body.{Body}
use Rattle.series.specs.Acceptance.{series_judged, value_of}
use Rattle.series.specs.OneResult as of-series
use Rattle.marks.specs.Answers.{counted_marks, listed_into, words_listed}
use Rattle.marks.specs.OneResult as of-marks
use Rattle.inputs.specs.Inputs.{inputs_judged}
use Rattle.inputs.proofs.Theorems as of-inputs
use Rattle.months.specs.declared.Month.{Month}
use Rattle.months.specs.declared.Sui.{Sui}
use Rattle.sui.specs.Sui.{sui_for}
use Rattle.sui.proofs.Theorems as of_sui
use Rattle.almanac.specs.Answers.{all_bytes}
use Rattle.built.specs.Build.{bytes_built, file_built}
use Rattle.built.specs.Theorems as of-build
use Rattle.records.specs.Records.{records_into, all_records, records_counted}
use Rattle.records.specs.OneResult as of-records
use Rattle.forms.specs.declared.Series.{Series}
use Rattle.forms.specs.Forms.{series_of, inputs_of}

-- ---- over a series as one thing
pub series_of_one_result : (start : Second) (coefs : Bor (List ℤ)) (a b : Series) → (a.start ≡ start) × (a.coefs ≡ coefs) → (b.start ≡ start) × (b.coefs ≡ coefs) → a ≡ b
series_of_one_result start coefs a b p q = λ t. record { start = (p.0 ∙ sym q.0) t; coefs = (p.1 ∙ sym q.1) t }

module _ (body : Body) (s : Series) where
  pub accept_one_result : (a b : Result (Unit {0}) Refusal) → paper a ≡ series_judged (series_of body s) → paper b ≡ series_judged (series_of body s) → a ≡ b
  accept_one_result = of-series.accept_one_result (series_of body s)

  pub value_at_one_result : (second : Second) (a b : Result ℤ Refusal) → paper a ≡ value_of (series_of body s) second.0 → paper b ≡ value_of (series_of body s) second.0 → a ≡ b
  value_at_one_result second = of-series.value_at_one_result (series_of body s) second.0

  pub count_marks_one_result : (a b : Result ℕ Refusal) → paper a ≡ counted_marks (series_of body s) → paper b ≡ counted_marks (series_of body s) → a ≡ b
  count_marks_one_result = of-marks.count_marks_one_result (series_of body s)

  pub list_marks_one_result : (room : ℕ) (a b : Result ℕ Refusal) → paper a ≡ listed_into (series_of body s) room → paper b ≡ listed_into (series_of body s) room → a ≡ b
  list_marks_one_result = of-marks.list_marks_one_result (series_of body s)

  pub list_marks_one_content : (out a b : List ℤ) → a ≡ written_into (listed_into (series_of body s) (length out)) (words_listed (series_of body s)) out → b ≡ written_into (listed_into (series_of body s) (length out)) (words_listed (series_of body s)) out → a ≡ b
  list_marks_one_content = of-marks.list_marks_one_content (series_of body s)

pub judge_one_result : (leap : List ℤ) (sun moon : Series) (a b : Result (Unit {0}) Refusal) → paper a ≡ inputs_judged (inputs_of leap sun moon) → paper b ≡ inputs_judged (inputs_of leap sun moon) → a ≡ b
judge_one_result leap sun moon = of-inputs.judge_one_result (inputs_of leap sun moon)

pub sui_one_result : (leap : List ℤ) (sun moon : Series) (zone year : ℤ) (a b : Result Sui Refusal) → paper a ≡ sui_for (inputs_of leap sun moon) zone year → paper b ≡ sui_for (inputs_of leap sun moon) zone year → a ≡ b
sui_one_result leap sun moon zone year = of_sui.sui_one_result (inputs_of leap sun moon) zone year

module _ (leap : List ℤ) (sun moon : Series) (zone first count : ℤ) where
  pub build_one_result : (room : ℕ) (a b : Result ℕ Refusal) → paper a ≡ file_built (inputs_of leap sun moon) zone first count room → paper b ≡ file_built (inputs_of leap sun moon) zone first count room → a ≡ b
  build_one_result = of-build.build_one_result (inputs_of leap sun moon) zone first count

  pub build_one_content : (file a b : List ℕ) → a ≡ written_into (bytes_built (inputs_of leap sun moon) zone first count (length file)) all_bytes file → b ≡ written_into (bytes_built (inputs_of leap sun moon) zone first count (length file)) all_bytes file → a ≡ b
  build_one_content = of-build.build_one_content (inputs_of leap sun moon) zone first count

module _ (leap : List ℤ) (sun moon : Series) (zone year : ℤ) (out : List Month) where
  pub sui_into_one_result : (a b : Result ℕ Refusal) → paper a ≡ records_counted (records_into (sui_for (inputs_of leap sun moon) zone year) (length out)) → paper b ≡ records_counted (records_into (sui_for (inputs_of leap sun moon) zone year) (length out)) → a ≡ b
  sui_into_one_result = of-records.sui_into_one_result (inputs_of leap sun moon) zone year out

  pub sui_into_one_content : (a b : List Month) → a ≡ written_into (records_into (sui_for (inputs_of leap sun moon) zone year) (length out)) all_records out → b ≡ written_into (records_into (sui_for (inputs_of leap sun moon) zone year) (length out)) all_records out → a ≡ b
  sui_into_one_content = of-records.sui_into_one_content (inputs_of leap sun moon) zone year out
