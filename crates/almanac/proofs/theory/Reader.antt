-- Reading a file into lent words: what the check says of it, and what each lent place holds afterwards. Assumes nothing.
use Rattle.std.specs.Prelude.{◌≡◌, refl, true, false, List, ◌++◌, ℕ, ◌*◌, ◌≤◌, ltb, ℤ, length, drop}
use Rattle.std.proofs.Common.{sym, ap, ◌∙◌, arith, ltb-false}
use Rattle.refusals.specs.Verdict.{Verdict, answered, refused, answers_apart, answer_or_refusal, then_answered, refuse_when, ◌before◌, ◌then◌}
use Rattle.refusals.specs.Lent.{written_into}
use Rattle.whole.specs.Booleans.{neither}
use Rattle.clock.proofs.theory.Table.{few}
use Rattle.almanac.specs.declared.Counts.{Counts}
use Rattle.content.specs.Content.{Content, lawful, leap_words, sui_words, month_words}
use Rattle.almanac.specs.Layout.{end_at, content_at, file_of}
use Rattle.almanac.specs.Answers.{counts_in, checked_file, content_read, read_file}
use Rattle.almanac.specs.Theorems as theorems
use Rattle.almanac.specs.theory.Whole.{found}
use Rattle.almanac.specs.theory.Rules.{rules, few_suis, months_few}
use Rattle.almanac.specs.theory.Checked.{short_for, entries_of, suis_of, months_of_lem, entry_count_lem, sui_count_lem, month_count_lem, same_counts}

-- ---- what a file that was checked is known to be
pub record Checked (file : List ℕ) (n : Counts) : Type 0 where
  pub is : file_of file ≡ answered (content_at file n)
  pub ends : length file ≡ end_at n.entries n.suis n.months
  pub entries_few : n.entries ≤ 64
  pub suis_few : n.suis ≤ 128
  pub months_few : n.months ≤ 1664

pub checked : (file : List ℕ) (n : Counts) → answered n ≡ checked_file file → Checked file n
unfolding checked_file
checked file n e =
    let a = then_answered (file_of file) _ n (sym e) in
    let r = theorems.read file a.0 a.1 in
    let same : r.counts ≡ n = sym (same_counts file r.counts) ∙ ap counts_in r.is ∙ answers_apart a.2 in
    let content : a.0 ≡ content_at file n = sym r.is ∙ ap (content_at file) same in
    let keeps : lawful (content_at file n) ≡ true = ap lawful (sym content) ∙ r.keeps_rules in
    let k = rules (content_at file n) keeps in
    record {
      is = a.1 ∙ ap answered content;
      ends = (found file n (r.counted ∙ ap answered same)).ends;
      entries_few = omega (arith, entry_count_lem file n, few (content_at file n).leap k.table);
      suis_few = omega (arith, sui_count_lem file n, few_suis (content_at file n) k);
      months_few = omega (arith, month_count_lem file n, months_few (content_at file n) k);
    }

-- ---- the four promises of the reader
module _ (file : List ℕ) (leap suis months : List ℤ) where
  abbrev pub Promises : Verdict Counts → List ℤ → List ℤ → List ℤ → Type 0
  Promises v leap-last suis-last months-last =
      (v ≡ read_file file (length leap) (length suis) (length months))
      × ((leap-last ≡ written_into (content_read file (length leap) (length suis) (length months)) leap_words leap)
      × ((suis-last ≡ written_into (content_read file (length leap) (length suis) (length months)) sui_words suis)
      × (months-last ≡ written_into (content_read file (length leap) (length suis) (length months)) month_words months)))

  promises : (v : Verdict Content) → content_read file (length leap) (length suis) (length months) ≡ v → Promises (v then (λ c. answered (counts_in c))) (written_into v leap_words leap) (written_into v sui_words suis) (written_into v month_words months)
  unfolding read_file
  promises v e = rw e (refl, (refl, (refl, refl)))

  refused_as : (v : Verdict Content) (number segment : ℕ) → refused number segment ≡ (v then (λ c. answered (counts_in c))) → v ≡ refused number segment
  refused_as (answered c) number segment e = answer_or_refusal (sym e)
  refused_as (refused k s) number segment e = cc

  pub file_refused : (number segment : ℕ) → refused number segment ≡ checked_file file → Promises (refused number segment) leap suis months
  unfolding checked_file content_read
  file_refused number segment e = promises (refused number segment) (rw (refused_as (file_of file) number segment e))

  module _ (n : Counts) (k : Checked file n) where
    room_decides : content_read file (length leap) (length suis) (length months) ≡ (refuse_when (short_for n (length leap) (length suis) (length months)) 12 before answered (content_at file n))
    unfolding content_read
    room_decides = rw (k.is, entries_of file n, suis_of file n, months_of_lem file n)

    pub no_room : short_for n (length leap) (length suis) (length months) ≡ true → Promises (refused 12 0) leap suis months
    no_room e = promises (refused 12 0) (room_decides ∙ (rw e))

    pub all_read : short_for n (length leap) (length suis) (length months) ≡ false → Promises (answered n) ((content_at file n).leap ++ drop (2 * n.entries) leap) ((content_at file n).suis ++ drop (2 * n.suis) suis) ((content_at file n).months ++ drop (3 * n.months) months)
    all_read e = rw (same_counts file n, entries_of file n, suis_of file n, months_of_lem file n) at (promises (answered (content_at file n)) (room_decides ∙ (rw e)))

-- where none is too short, each has the room of its section
pub room_is : (n : Counts) (leap suis months : ℕ) → short_for n leap suis months ≡ false → (2 * n.entries ≤ leap) × ((2 * n.suis ≤ suis) × (3 * n.months ≤ months))
room_is n leap suis months e =
    let a = neither (ltb leap (2 * n.entries)) _ e in
    let b = neither (ltb suis (2 * n.suis)) _ a.1 in
    (ltb-false _ _ a.0, (ltb-false _ _ b.0, ltb-false _ _ b.1))
