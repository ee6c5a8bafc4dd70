-- "any two results allowed are shown to be the same result": for each entry point of this crate. Assumes nothing.
use Rattle.std.specs.Prelude.{◌≡◌, ℤ, Result}
use Rattle.refusals.specs.Verdict.{OneToOne, one_result, checks_apart, paper, results_apart}
use Rattle.series.specs.Series.{Series}
use Rattle.series.specs.Acceptance.{series_judged, value_of}
use Rattle.refusals.specs.declared.Refusal.{Refusal}

pub values_apart : OneToOne (paper {A = ℤ})
values_apart = results_apart

pub accept_one_result : (s : Series) (a b : Result (Unit {0}) Refusal) → paper a ≡ series_judged s → paper b ≡ series_judged s → a ≡ b
accept_one_result s = one_result paper checks_apart

pub value_at_one_result : (s : Series) (second : ℤ) (a b : Result ℤ Refusal) → paper a ≡ value_of s second → paper b ≡ value_of s second → a ≡ b
value_at_one_result s second = one_result paper values_apart
