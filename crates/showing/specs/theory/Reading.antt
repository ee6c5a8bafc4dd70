-- A lawful file always fits the words that are lent for it, so what is read is its content. Assumes nothing.
use Rattle.std.specs.Prelude.{◌≡◌, false, List, ℕ, ◌*◌, ◌≤◌, ℤ, take, drop}
use Rattle.std.proofs.Math.Path.{refl, ap}
use Rattle.std.proofs.Common.{sym, ◌∙◌, arith, le-ltb}
use Rattle.std.proofs.Math.ListN.{length}
use Rattle.std.proofs.Math.Seq.{take_at}
use Rattle.refusals.specs.Verdict.{Verdict, answered, refused, refuse_when, answers_apart, answer_or_refusal, ◌before◌, ◌then◌}
use Rattle.refusals.specs.Lent.{written_into}
use Rattle.clock.proofs.theory.Table.{few}
use Rattle.almanac.specs.declared.Counts.{Counts}
use Rattle.content.specs.Content.{Content, month_count, month_words}
use Rattle.almanac.specs.Layout.{file_of}
use Rattle.almanac.specs.Answers.{counts_in, too_short, content_read, read_file}
use Rattle.almanac.specs.Theorems.{read_is_lawful}
use Rattle.almanac.specs.theory.Rules.{Rules, rules, entries_whole, words_of_suis, few_suis, months_counted, months_few}
use Rattle.showing.specs.Shown.{text_of}
use Rattle.showing.specs.Answers.{text_into, text_shown, all_bytes, shown}
use Rattle.showing.specs.theory.Dated.{Dated, dated}
use Rattle.showing.specs.theory.Putting.{Promises}

month_length_lem : (c : Content) → Rules c → length c.months ≡ 3 * month_count c
month_length_lem c r = omega (arith, r.months_whole, months_counted c r)

fits : (c : Content) → Rules c → too_short c 128 256 4992 ≡ false
fits c r =
    rw (
      le-ltb 128 (length c.leap) (omega (arith, entries_whole c r, few c.leap r.table)),
      le-ltb 256 (length c.suis) (omega (arith, words_of_suis c r, few_suis c r)),
      le-ltb 4992 (length c.months) (omega (arith, month_length_lem c r, months_few c r)),
    )

module _ (file : List ℕ) where
  all_fit : content_read file 128 256 4992 ≡ file_of file
  unfolding content_read
  all_fit = go (file_of file) refl
    where
      go : (v : Verdict Content) → file_of file ≡ v → (v then (λ c. refuse_when (too_short c 128 256 4992) 12 before answered c)) ≡ v
      go (answered c) e = rw (fits c (rules c (read_is_lawful file c e)))
      go (refused number segment) e = refl

  -- what was read, by the counts that were answered
  pub record Shows (n : Counts) (last : List ℤ) : Type 0 where
    pub content : Content
    pub is : file_of file ≡ answered content
    pub months_read : take (3 * n.months) last ≡ content.months
    pub size : length content.months ≡ 3 * n.months
    pub few_months : n.months ≤ 1664
    pub first_days : Dated content.months (month_count content)

  pub shows : {a b d : ℕ} → 128 ≡ a → 256 ≡ b → 4992 ≡ d → (n : Counts) (words last : List ℤ) → answered n ≡ read_file file a b d → last ≡ written_into (content_read file a b d) month_words words → Shows n last
  unfolding read_file
  shows ea eb ed n words last answer held = go (file_of file) refl (rw (← ea, ← eb, ← ed, all_fit) at answer) (rw (← ea, ← eb, ← ed, all_fit) at held)
    where
      go : (v : Verdict Content) → file_of file ≡ v → answered n ≡ (v then (λ c. answered (counts_in c))) → last ≡ written_into v month_words words → Shows n last
      go (answered c) e p q =
          let r = rules c (read_is_lawful file c e) in
          let same : n.months ≡ month_count c = ap (λ (m : Counts). m.months) (answers_apart p) in
          let size : length c.months ≡ 3 * n.months = omega (arith, month_length_lem c r) in
          record {
            content = c;
            is = e;
            months_read = ap (take (3 * n.months)) q ∙ take_at c.months (drop (length c.months) words) (3 * n.months) size;
            size = size;
            few_months = omega (arith, months_few c r);
            first_days = dated c r;
          }
      go (refused number segment) e p q = answer_or_refusal p

  pub refused_read : {a b d : ℕ} → 128 ≡ a → 256 ≡ b → 4992 ≡ d → {number segment : ℕ} → refused number segment ≡ read_file file a b d → file_of file ≡ refused number segment
  unfolding read_file
  refused_read ea eb ed {number} {segment} answer = go (file_of file) refl (rw (← ea, ← eb, ← ed, all_fit) at answer)
    where
      go : (v : Verdict Content) → file_of file ≡ v → refused number segment ≡ (v then (λ c. answered (counts_in c))) → file_of file ≡ refused number segment
      go (answered c) e p = answer_or_refusal (sym p)
      go (refused m s) e p = e ∙ cc

  -- ---- the two promises of `show`
  module _ (out : List ℕ) where
    abbrev pub ShowPromises : Verdict ℕ → List ℕ → Type 0
    ShowPromises v last = (v ≡ shown file (length out)) × (last ≡ written_into (text_shown file (length out)) all_bytes out)

    pub not_shown : {number segment : ℕ} → file_of file ≡ refused number segment → ShowPromises (refused number segment) out
    unfolding shown text_shown
    not_shown e = rw e (refl, refl)

    pub is_shown_lem : (c : Content) → file_of file ≡ answered c → {v : Verdict ℕ} {last : List ℕ} → Promises c.months out (text_into (text_of c) (length out)) v last → ShowPromises v last
    unfolding shown text_shown
    is_shown_lem c e p = rw e p
