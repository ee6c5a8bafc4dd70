-- The judgement of an old file, step by step: a build into room enough, and its bytes beside the file's; the years of a lawful file, of which there are 1 to 128.
-- Assumes nothing.
use Rattle.std.proofs.Math.Path.{◌≡◌}
use Rattle.std.specs.Prelude.{refl, false, List, ◌++◌, ℕ, ◌+◌, ◌*◌, ◌≤◌, ℤ, length, take, drop}
use Rattle.std.proofs.Common.{sym, ap, ◌∙◌, arith, length-append, take_at}
use Rattle.whole.specs.Evaluated.{same_numbers}
use Rattle.refusals.specs.Verdict.{Verdict, answered, refused, answers_apart, answer_or_refusal, then_answered, ◌then◌}
use Rattle.refusals.specs.Lent.{written_into}
use Rattle.words.specs.Words.{signed4}
use Rattle.content.specs.Content.{Content, sui_count, year_at}
use Rattle.almanac.specs.declared.Counts.{Counts}
use Rattle.almanac.specs.Layout.{suis_at, content_at, file_of}
use Rattle.almanac.specs.Answers.{counts_in, checked_file, bytes_counted, all_bytes}
use Rattle.almanac.specs.Theorems.{read}
use Rattle.almanac.specs.theory.Checked.{sui_count_lem}
use Rattle.almanac.proofs.theory.Reader.{Checked}
use Rattle.almanac.specs.theory.Records.{sui_stands}
use Rattle.almanac.specs.theory.Rules.{rules, some_sui, few_suis}
use Rattle.rebuilt.specs.declared.Years.{Years}
use Rattle.rebuilt.specs.Rebuild.{years_in, is_file}

-- ---- a build into lent room
module _ (v : Verdict (List ℕ)) where
  pub not_its_file : {number segment : ℕ} → refused number segment ≡ bytes_counted v → (file : List ℕ) → false ≡ is_file v file
  not_its_file e file = go v e
    where
      go : {number segment : ℕ} (u : Verdict (List ℕ)) → refused number segment ≡ bytes_counted u → false ≡ is_file u file
      go (answered bytes) e = answer_or_refusal (sym e)
      go (refused number segment) e = refl

  pub record Wrote (size : ℕ) (room last : List ℕ) : Type 0 where
    pub bytes : List ℕ
    pub are_bytes : v ≡ answered bytes
    pub stand : take size last ≡ bytes
    pub inside : size ≤ length last

  pub wrote : {size : ℕ} (room last : List ℕ) → answered size ≡ bytes_counted v → last ≡ written_into v all_bytes room → Wrote size room last
  wrote {size} room last e f =
      let found = then_answered v (λ bytes. answered (length bytes)) size (sym e) in
      let bytes = found.0 in
      let long : length bytes ≡ size = answers_apart found.2 in
      let is : last ≡ bytes ++ drop (length bytes) room = f ∙ ap (λ (u : Verdict (List ℕ)). written_into u all_bytes room) found.1 in
      record {
        bytes = bytes;
        are_bytes = found.1;
        stand = ap (take size) is ∙ take_at bytes (drop (length bytes) room) size long;
        inside = omega (arith, long, ap length is, length-append bytes (drop (length bytes) room));
      }

  pub its_file : {size : ℕ} {room last : List ℕ} → Wrote size room last → (file : List ℕ) → same_numbers (take size last) file ≡ is_file v file
  its_file w file = ap (λ (b : List ℕ). same_numbers b file) w.stand ∙ sym (ap (λ (u : Verdict (List ℕ)). is_file u file) w.are_bytes)

-- ---- the years of a file
module _ (file : List ℕ) where
  pub no_years : {number segment : ℕ} → refused number segment ≡ checked_file file → ◌≡◌ {A = Verdict Years} (refused number segment) (file_of file then λ c. answered (years_in c))
  unfolding checked_file
  no_years e = go (file_of file) e
    where
      go : {number segment : ℕ} (u : Verdict Content) → ◌≡◌ {A = Verdict Counts} (refused number segment) (u then λ c. answered (counts_in c)) → ◌≡◌ {A = Verdict Years} (refused number segment) (u then λ c. answered (years_in c))
      go (answered c) e = answer_or_refusal (sym e)
      go (refused number segment) e = cc

  -- a lawful content has 1 to 128 suis
  pub some_years : {c : Content} → file_of file ≡ answered c → (1 ≤ sui_count c) × (sui_count c ≤ 128)
  some_years {c} e = let k = rules c (read file c e).keeps_rules in (some_sui c k, few_suis c k)

  pub years_read : {n : Counts} → Checked file n → {first : ℤ} → first ≡ signed4 file (4 + 8 * n.entries + 4) → answered (record { first = first; count = n.suis }) ≡ (file_of file then λ c. answered (years_in c))
  years_read {n} k {first} e = rw k.is (ap answered years)
    where
      count : sui_count (content_at file n) ≡ n.suis
      count = sui_count_lem file n

      here : suis_at n.entries + 4 + 5 * 0 ≡ 4 + 8 * n.entries + 4
      here = omega arith

      year : first ≡ year_at (content_at file n).suis 0
      year = e ∙ ap (signed4 file) (sym here) ∙ sym (sui_stands file n 0 (omega (arith, count, some_years k.is))).0

      years : ◌≡◌ {A = Years} (record { first = first; count = n.suis }) (years_in (content_at file n))
      years = λ t. record { first = year t; count = sym count t }

  -- where the years of a file are answered, they are 1 to 128
  pub years_few : {y : Years} → (file_of file then λ c. answered (years_in c)) ≡ answered y → (1 ≤ y.count) × (y.count ≤ 128)
  years_few {y} e =
      let found = then_answered (file_of file) (λ c. answered (years_in c)) y e in
      let same : sui_count found.0 ≡ y.count = ap (λ (y : Years). y.count) (answers_apart found.2) in
      let few = some_years found.1 in
      (omega (arith, same, few), omega (arith, same, few))
