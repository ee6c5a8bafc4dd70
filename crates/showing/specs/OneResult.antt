-- Any two results that the promises of `show` allow are the same result, and so is what the lent room holds. Assumes nothing.
use Rattle.std.specs.Prelude.{◌≡◌, List, ℕ, length, Result}
use Rattle.refusals.specs.Verdict.{OneToOne, one_result, one_content, paper, results_apart}
use Rattle.refusals.specs.Lent.{written_into}
use Rattle.refusals.specs.declared.Refusal.{Refusal}
use Rattle.showing.specs.Answers.{text_shown, all_bytes, shown}

-- the paper tells answers apart
pub shown_apart : OneToOne (paper {A = ℕ})
shown_apart = results_apart

module _ (file out : List ℕ) where
  pub show_one_result : (a b : Result ℕ Refusal) → paper a ≡ shown file (length out) → paper b ≡ shown file (length out) → a ≡ b
  show_one_result a b p q = one_result paper shown_apart a b p q

  pub show_one_content : (a b : List ℕ) → a ≡ written_into (text_shown file (length out)) all_bytes out → b ≡ written_into (text_shown file (length out)) all_bytes out → a ≡ b
  show_one_content a b p q = one_content a b p q
