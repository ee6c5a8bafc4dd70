-- What is proved of the file build, over its definitions: what is built is lawful, it holds the leap table and the sui of each year, the reader accepts it and
-- reads that content; one result. Assumes nothing but what a statement says itself.
use Rattle.std.specs.Prelude.{◌≡◌, true, not, List, ℕ, ◌+◌, ◌/◌, ◌≤◌, ◌<◌, ltb, ℤ, pos, nat_abs, ◌+ℤ◌, length, Result}
use Rattle.std.proofs.Common.{sym, ap, ◌∙◌, arith}
use Rattle.std.proofs.lemmas.Bool.{not-false}
use Rattle.whole.specs.Ranges.{Within}
use Rattle.whole.specs.Tests.{in_range}
use Rattle.refusals.specs.Verdict.{Verdict, answered, accepted, refuse_when, ◌before◌, ◌then◌, then_answered, test_answered, answers_apart, one_result, one_content, paper}
use Rattle.refusals.specs.Lent.{written_into}
use Rattle.inputs.specs.Inputs.{Inputs, judged_in}
use Rattle.inputs.specs.Known.{Known}
use Rattle.inputs.proofs.Theorems.{known}
use Rattle.months.specs.declared.Sui.{Sui}
use Rattle.months.specs.Answers.{no_sui}
use Rattle.months.proofs.theory.Suis.{month}
use Rattle.sui.specs.Sui.{sui_for, sui_of_year}
use Rattle.sui.proofs.theory.Answered.{inputs_answered}
use Rattle.content.specs.Content.{Content, sui_count, year_at, count_at, month_at, months_before, lawful}
use Rattle.almanac.specs.Layout.{bytes_of, file_of}
use Rattle.almanac.specs.Answers.{bytes_into, all_bytes}
use Rattle.almanac.specs.Theorems.{written_is_read}
use Rattle.almanac.specs.OneResult.{written_apart}
use Rattle.built.specs.Build.{suis_from, sui_words, content_for, content_built, bytes_built, file_built, built_by, bytes_by, content_by}
use Rattle.built.specs.theory.Words.{length_sui_words}
use Rattle.built.specs.theory.Years.{suis_are}
use Rattle.built.specs.theory.Records.{sui_at, suis_whole, year_at_lem, count_at_lem, month_at_lem}
use Rattle.built.specs.theory.Count.{count_small}
use Rattle.built.specs.theory.Lawful.{content_is_lawful}
use Rattle.refusals.specs.declared.Refusal.{Refusal}

-- a content that was built is that of the suis that were found
suis_built : (i : Inputs) (zone first : ℤ) (n : ℕ) {c : Content} → content_built i zone first n ≡ answered c → (suis : List Sui) × (suis_from i zone first n ≡ answered suis) × (content_for i.leap first suis ≡ c)
unfolding content_by
suis_built i zone first n {c} e =
    let found = then_answered (suis_from i zone first n) (λ suis. answered (content_for i.leap first suis)) c e in
    (found.0, found.1, answers_apart found.2)

-- ---- what is built is lawful
pub built_is_lawful : (i : Inputs) (zone : ℤ) → Known i → Within 1000 zone → (first : ℤ) (n : ℕ) → 0 < n → n ≤ 128 → {c : Content} → content_built i zone first n ≡ answered c → lawful c ≡ true
built_is_lawful i zone k small first n some few e =
    let built = suis_built i zone first n e in
    rw (← built.2) (content_is_lawful i zone k small first n built.0 (suis_are i zone first n built.1) some few)

-- ---- it holds the leap table, and one sui for each year
pub leap_table_is_kept : (i : Inputs) (zone first : ℤ) (n : ℕ) {c : Content} → content_built i zone first n ≡ answered c → c.leap ≡ i.leap
leap_table_is_kept i zone first n e = sym (ap (λ (c : Content). c.leap) (suis_built i zone first n e).2)

pub one_sui_a_year : (i : Inputs) (zone first : ℤ) (n : ℕ) {c : Content} → content_built i zone first n ≡ answered c → sui_count c ≡ n
one_sui_a_year i zone first n e =
    let built = suis_built i zone first n e in
    let all = (suis_are i zone first n built.1).all in
    let half : length (sui_words first built.0) / 2 ≡ n = omega (arith, length_sui_words first built.0) in
    sym (ap sui_count built.2) ∙ half

-- record j of the content is the answered sui, of this year, with its months behind those of the records before it
pub record InFile (answer : Verdict Sui) (year : ℤ) (c : Content) (j : ℕ) : Type 0 where
  pub sui : Sui
  pub is_sui : answer ≡ answered sui
  pub year_is : year_at c.suis j ≡ year
  pub count_is : count_at c.suis j ≡ pos sui.count
  pub months_are : (place : ℕ) → place < sui.count → month_at c.months (months_before c.suis j + place) ≡ month sui place

pub sui_of_each_year : (i : Inputs) (zone first : ℤ) (n : ℕ) {c : Content} → content_built i zone first n ≡ answered c → (j : ℕ) → j < n → InFile (sui_of_year i zone (first +ℤ pos j)) (first +ℤ pos j) c j
sui_of_each_year i zone first n e j h =
    let built = suis_built i zone first n e in
    let suis = built.0 in
    let s = suis_are i zone first n built.1 in
    let inside : j < length suis = omega (arith, s.all) in
    rw (← built.2)
    (record {
      sui = sui_at suis j;
      is_sui = s.each j h no_sui;
      year_is = year_at_lem first suis j inside;
      count_is = count_at_lem first suis j inside;
      months_are = month_at_lem first suis (suis_whole i zone first n suis s) j inside;
    })

-- for accepted inputs and zone that is what `sui` answers for the year
pub sui_of_accepted : (i : Inputs) (zone : ℤ) → judged_in i zone ≡ accepted → (year : ℤ) → sui_for i zone year ≡ sui_of_year i zone year
unfolding sui_for
sui_of_accepted i zone judged year = rw judged

pub sui_for_each_year : (i : Inputs) (zone : ℤ) → judged_in i zone ≡ accepted → (first : ℤ) (n : ℕ) {c : Content} → content_built i zone first n ≡ answered c → (j : ℕ) → j < n → InFile (sui_for i zone (first +ℤ pos j)) (first +ℤ pos j) c j
sui_for_each_year i zone judged first n e j h = rw (sui_of_accepted i zone judged (first +ℤ pos j)) (sui_of_each_year i zone first n e j h)

-- ---- the reader accepts what is built, and reads that content
pub record BuiltFile (i : Inputs) (zone first count : ℤ) (bytes : List ℕ) : Type 0 where
  pub content : Content
  pub is_content : content_built i zone first (nat_abs count) ≡ answered content
  pub is_written : bytes ≡ bytes_of content
  pub is_read : file_of bytes ≡ answered content

pub built_is_read : (i : Inputs) (zone first count : ℤ) (room : ℕ) {bytes : List ℕ} → bytes_built i zone first count room ≡ answered bytes → BuiltFile i zone first count bytes
unfolding built_by bytes_by
built_is_read i zone first count room {bytes} e =
    let n = nat_abs count in
    let rest = content_built i zone first n then λ c. bytes_into c room in
    let judged = inputs_answered i zone (refuse_when (not (in_range (pos 1) (pos 128) count)) 8 before rest) e in
    let counted = test_answered (not (in_range (pos 1) (pos 128) count)) 8 rest bytes judged.1 in
    let few = count_small count (not-false (in_range (pos 1) (pos 128) count) counted.0) in
    let made = then_answered (content_built i zone first n) (λ c. bytes_into c room) bytes counted.1 in
    let c = made.0 in
    let written : bytes_of c ≡ bytes = answers_apart (test_answered (ltb room (length (bytes_of c))) 12 (answered (bytes_of c)) bytes made.2).1 in
    let keeps = built_is_lawful i zone (known i judged.0) judged.2 first n few.0 few.1 made.1 in
    record { content = c; is_content = made.1; is_written = sym written; is_read = ap file_of (sym written) ∙ written_is_read c keeps }

-- ---- one result: any two answers that the build may give are the same, and so is what the lent file holds
module _ (i : Inputs) (zone first count : ℤ) where
  pub build_one_result : (room : ℕ) (a b : Result ℕ Refusal) → paper a ≡ file_built i zone first count room → paper b ≡ file_built i zone first count room → a ≡ b
  build_one_result room a b p q = one_result paper written_apart a b p q

  pub build_one_content : (file a b : List ℕ) → a ≡ written_into (bytes_built i zone first count (length file)) all_bytes file → b ≡ written_into (bytes_built i zone first count (length file)) all_bytes file → a ≡ b
  build_one_content file a b p q = one_content a b p q
