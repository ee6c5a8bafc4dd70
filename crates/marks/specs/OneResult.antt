-- "any two results allowed are shown to be the same result": for each entry point of this crate, and for the lent list. Assumes nothing.
use Rattle.std.specs.Prelude.{◌≡◌, List, ℕ, ℤ, length, Result}
use Rattle.refusals.specs.Verdict.{OneToOne, one_result, one_content, paper, results_apart}
use Rattle.series.specs.Series.{Series}
use Rattle.refusals.specs.Lent.{written_into}
use Rattle.marks.specs.Answers.{counted_marks, listed_into, words_listed}
use Rattle.refusals.specs.declared.Refusal.{Refusal}

pub counts_apart : OneToOne (paper {A = ℕ})
counts_apart = results_apart

pub lists_apart : OneToOne (paper {A = ℕ})
lists_apart = results_apart

pub count_marks_one_result : (s : Series) (a b : Result ℕ Refusal) → paper a ≡ counted_marks s → paper b ≡ counted_marks s → a ≡ b
count_marks_one_result s = one_result paper counts_apart

pub list_marks_one_result : (s : Series) (room : ℕ) (a b : Result ℕ Refusal) → paper a ≡ listed_into s room → paper b ≡ listed_into s room → a ≡ b
list_marks_one_result s room = one_result paper lists_apart

pub list_marks_one_content : (s : Series) (out a b : List ℤ) → a ≡ written_into (listed_into s (length out)) (words_listed s) out → b ≡ written_into (listed_into s (length out)) (words_listed s) out → a ≡ b
list_marks_one_content s out = one_content
