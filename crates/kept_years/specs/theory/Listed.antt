-- What is listed of a file, by what its check says. Assumes nothing.
use Rattle.std.specs.Prelude.{◌≡◌, refl, List, ℕ, ℤ, length}
use Rattle.std.proofs.Common.{sym}
use Rattle.refusals.specs.Verdict.{Verdict, answered, refused, answer_or_refusal, ◌then◌}
use Rattle.content.specs.Content.{Content}
use Rattle.almanac.specs.declared.Counts.{Counts}
use Rattle.almanac.specs.Layout.{content_at, file_of}
use Rattle.almanac.specs.Answers.{counts_in, checked_file}
use Rattle.almanac.specs.theory.Checked.{sui_count_lem}
use Rattle.almanac.proofs.theory.Reader.{Checked}
use Rattle.kept_years.specs.KeptYears.{lines, lines_of}
use Rattle.kept_years.specs.Answers.{lines_into, lines_listed}
use Rattle.kept_years.specs.theory.Putting.{Promises}

module _ (file : List ℕ) (years : List ℤ) (out : List ℕ) where
  refused_as : (v : Verdict Content) {number segment : ℕ} → refused number segment ≡ (v then (λ c. answered (counts_in c))) → v ≡ refused number segment
  refused_as (answered c) e = answer_or_refusal (sym e)
  refused_as (refused k s) e = cc

  pub not_listed : {number segment : ℕ} → refused number segment ≡ checked_file file → Promises out (lines_listed file years (length out)) (refused number segment) out
  unfolding checked_file lines_listed
  not_listed e = rw (refused_as (file_of file) e) (refl, refl)

  pub is_listed_lem : (n : Counts) → Checked file n → lines_listed file years (length out) ≡ lines_into (lines (content_at file n).suis years n.suis) (length out)
  unfolding lines_listed lines_of
  is_listed_lem n k = rw (k.is, sui_count_lem file n)

  pub passing_on : {bytes same : Verdict (List ℕ)} {v : Verdict ℕ} {last : List ℕ} → bytes ≡ same → Promises out same v last → Promises out bytes v last
  passing_on e p = rw e p
