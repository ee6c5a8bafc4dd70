-- Any two results that the promises of an entry point allow are the same result, and so is what each lent place holds. Assumes nothing.
use Rattle.std.specs.Prelude.{◌≡◌, List, ℕ, ℤ, length, Result}
use Rattle.refusals.specs.Verdict.{OneToOne, one_result, one_content, paper, results_apart}
use Rattle.refusals.specs.Lent.{written_into}
use Rattle.refusals.specs.declared.Refusal.{Refusal}
use Rattle.content.specs.Content.{Content}
use Rattle.almanac.specs.declared.Counts.{Counts}
use Rattle.almanac.specs.Answers.{checked_file, content_read, read_file, bytes_to_write, all_bytes, written_file}

-- ---- the paper tells answers apart
pub files_apart : OneToOne (paper {A = Counts})
files_apart = results_apart

pub written_apart : OneToOne (paper {A = ℕ})
written_apart = results_apart

-- ---- the entry points
pub check_file_one_result : (file : List ℕ) (a b : Result Counts Refusal) → paper a ≡ checked_file file → paper b ≡ checked_file file → a ≡ b
check_file_one_result file a b p q = one_result paper files_apart a b p q

module _ (file : List ℕ) (leap suis months : List ℤ) where
  pub read_file_one_result : (a b : Result Counts Refusal) → paper a ≡ read_file file (length leap) (length suis) (length months) → paper b ≡ read_file file (length leap) (length suis) (length months) → a ≡ b
  read_file_one_result a b p q = one_result paper files_apart a b p q

  -- whichever of the three lent places it is
  pub read_file_one_content : (words : Content → List ℤ) (lent a b : List ℤ) → a ≡ written_into (content_read file (length leap) (length suis) (length months)) words lent → b ≡ written_into (content_read file (length leap) (length suis) (length months)) words lent → a ≡ b
  read_file_one_content words lent a b p q = one_content a b p q

module _ (c : Content) (file : List ℕ) where
  pub write_file_one_result : (a b : Result ℕ Refusal) → paper a ≡ written_file c (length file) → paper b ≡ written_file c (length file) → a ≡ b
  write_file_one_result a b p q = one_result paper written_apart a b p q

  pub write_file_one_content : (a b : List ℕ) → a ≡ written_into (bytes_to_write c (length file)) all_bytes file → b ≡ written_into (bytes_to_write c (length file)) all_bytes file → a ≡ b
  write_file_one_content a b p q = one_content a b p q
