-- Checking a file: what its counts and its content say together. Assumes nothing.
use Rattle.std.specs.Prelude.{◌≡◌, Bool, false, ◌||◌, List, ◌++◌, ℕ, ◌+◌, ◌*◌, ◌/◌, ◌%◌, ◌≤◌, ◌<◌, ltb, ℤ, length, take, drop}
use Rattle.std.proofs.Math.Path.{refl}
use Rattle.std.proofs.Common.{sym, ap, ◌∙◌, arith, eq-eqb, le-leb, take_at}
use Rattle.std.proofs.Math.Bool.{true}
use Rattle.std.proofs.Math.Nat.{mul-div_cancel_left}
use Rattle.refusals.specs.Verdict.{answered, refused}
use Rattle.whole.specs.Booleans.{both_hold}
use Rattle.clock.specs.Leap.{leap_lawful}
use Rattle.clock.proofs.theory.Table.{few}
use Rattle.almanac.specs.declared.Counts.{Counts}
use Rattle.content.specs.Content.{entry_count, sui_count, month_count, whole_suis, lawful}
use Rattle.content.specs.Steps.{suis_lawful}
use Rattle.content.proofs.theory.Walk.{leap_broken, suis_decide}
use Rattle.almanac.specs.Fields.{Field, times, numbers_in}
use Rattle.almanac.specs.Layout.{entry_fields, sui_fields, month_fields, suis_at, months_at, counts_of, content_at, content_of, file_of}
use Rattle.almanac.specs.Answers.{counts_in, checked_file}
use Rattle.almanac.specs.theory.FieldLaws.{numbers_length, length_times}
use Rattle.almanac.specs.theory.Rules.{rules, some_sui, few_suis}

-- ---- which lent list is too short for its section
abbrev pub short_for : Counts → ℕ → ℕ → ℕ → Bool
short_for n leap suis months = ltb leap (2 * n.entries) || (ltb suis (2 * n.suis) || ltb months (3 * n.months))

-- ---- the words that were read stand at the front
pub section_words : (n : ℕ) (fields : List Field) (file : List ℕ) (at : ℕ) → length (numbers_in (times n fields) file at) ≡ length fields * n
section_words n fields file at = numbers_length (times n fields) file at ∙ length_times n fields

pub section_read : (n m : ℕ) (fields : List Field) (file : List ℕ) (at : ℕ) (rest last : List ℤ) → m ≡ length fields * n → last ≡ numbers_in (times n fields) file at ++ drop m rest → take m last ≡ numbers_in (times n fields) file at
section_read n m fields file at rest last size e = rw e (take_at (numbers_in (times n fields) file at) (drop m rest) m (section_words n fields file at ∙ sym size))

-- ---- the counts of the content are those of the file
module _ (file : List ℕ) (n : Counts) where
  pub entries_of : length (content_at file n).leap ≡ 2 * n.entries
  unfolding content_at
  entries_of = section_words n.entries entry_fields file 4

  pub suis_of : length (content_at file n).suis ≡ 2 * n.suis
  unfolding content_at
  suis_of = section_words n.suis sui_fields file (suis_at n.entries + 4)

  pub months_of_lem : length (content_at file n).months ≡ 3 * n.months
  unfolding content_at
  months_of_lem = section_words n.months month_fields file (months_at n.entries n.suis + 4)

  pub entry_count_lem : entry_count (content_at file n) ≡ n.entries
  entry_count_lem = ap (λ (k : ℕ). k / 2) entries_of ∙ mul-div_cancel_left n.entries (omega arith)

  pub sui_count_lem : sui_count (content_at file n) ≡ n.suis
  sui_count_lem = ap (λ (k : ℕ). k / 2) suis_of ∙ mul-div_cancel_left n.suis (omega arith)

  pub month_count_lem : month_count (content_at file n) ≡ n.months
  month_count_lem = ap (λ (k : ℕ). k / 3) months_of_lem ∙ mul-div_cancel_left n.months (omega arith)

  pub same_counts : counts_in (content_at file n) ≡ n
  same_counts = λ t. record { entries = entry_count_lem t; suis = sui_count_lem t; months = month_count_lem t }

  -- ---- what was read is the content
  pub leap_read : (rest last : List ℤ) → last ≡ numbers_in (times n.entries entry_fields) file 4 ++ drop (2 * n.entries) rest → take (2 * n.entries) last ≡ (content_at file n).leap
  unfolding content_at
  leap_read rest last = section_read n.entries (2 * n.entries) entry_fields file 4 rest last refl

  -- ---- a lawful content is small
  unlawful : (lawful (content_at file n) ≡ true → ⊥) → false ≡ lawful (content_at file n)
  unlawful f = go (lawful (content_at file n)) refl
    where
      go : (b : Bool) → lawful (content_at file n) ≡ b → false ≡ lawful (content_at file n)
      go true e = absurd (f e)
      go false e = sym e

  pub too_many_entries : 64 < n.entries → false ≡ lawful (content_at file n)
  too_many_entries h = unlawful (λ e. omega (arith, entry_count_lem, few (content_at file n).leap (rules (content_at file n) e).table))

  pub too_many_suis : 128 < n.suis → false ≡ lawful (content_at file n)
  too_many_suis h = unlawful (λ e. omega (arith, sui_count_lem, few_suis (content_at file n) (rules (content_at file n) e)))

  pub no_suis : n.suis < 1 → false ≡ lawful (content_at file n)
  no_suis h = unlawful (λ e. omega (arith, sui_count_lem, some_sui (content_at file n) (rules (content_at file n) e)))

  -- ---- the rules of a file whose counts may be lawful
  pub table_broken : leap_lawful (content_at file n).leap ≡ false → false ≡ lawful (content_at file n)
  table_broken e = leap_broken (content_at file n).leap (content_at file n).suis (content_at file n).months e

  pub suis_decide_file : 1 ≤ n.suis → n.suis ≤ 128 → leap_lawful (content_at file n).leap ≡ true → suis_lawful (content_at file n).suis (content_at file n).months ≡ lawful (content_at file n)
  unfolding whole_suis
  suis_decide_file some few table = suis_decide (content_at file n).leap (content_at file n).suis (content_at file n).months table whole
    where
      whole : whole_suis (length (content_at file n).suis) ≡ true
      whole = rw suis_of (both_hold _ _ (eq-eqb (2 * n.suis % 2) 0 (omega arith)) (both_hold _ _ (le-leb 2 (2 * n.suis) (omega arith)) (le-leb (2 * n.suis) 256 (omega arith))))

  -- ---- the check
  pub file_lawful : answered n ≡ counts_of file → lawful (content_at file n) ≡ true → answered n ≡ checked_file file
  unfolding checked_file file_of content_of
  file_lawful e l = rw (← e, l, same_counts)

  pub file_unlawful : answered n ≡ counts_of file → lawful (content_at file n) ≡ false → refused 13 0 ≡ checked_file file
  unfolding checked_file file_of content_of
  file_unlawful e l = rw (← e, l)

pub file_uncounted : (file : List ℕ) (number segment : ℕ) → refused number segment ≡ counts_of file → refused number segment ≡ checked_file file
unfolding checked_file file_of content_of
file_uncounted file number segment e = rw (← e)
