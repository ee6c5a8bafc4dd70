-- An old file that a build gives: what the judgement's answer tells, that it refuses by 13 alone, and that the years of what a build gives are those that it was
-- asked for. Assumes nothing but what a statement says itself.
use Rattle.std.specs.Prelude.{◌≡◌, refl, Bool, true, false, List, [], ◌∷◌, ℕ, ◌+◌, ◌≤◌, eqb, ltb, ℤ, pos, nat_abs, ◌+ℤ◌, length}
use Rattle.std.proofs.Common.{sym, ap₂, ◌∙◌, arith, le-ltb}
use Rattle.std.proofs.Math.Path.{ap}
use Rattle.std.proofs.Math.Bool.{not}
use Rattle.std.proofs.lemmas.Bool.{not-false}
use Rattle.whole.specs.Laws.{abs_of_nonneg}
use Rattle.whole.specs.Solver.{⇑, ring}
use Rattle.whole.specs.Tests.{in_range}
use Rattle.refusals.specs.Verdict.{Verdict, answered, refused, accepted, refuse_when, ◌before◌, ◌then◌, then_answered, test_answered, before_accepted, before_answered, answers_apart, test_passes}
use Rattle.clock.specs.Answers.{zone_judged}
use Rattle.inputs.specs.Inputs.{Inputs, inputs_judged, judged_in}
use Rattle.words.specs.Words.{pattern4}
use Rattle.content.specs.Content.{Content, lawful, year_at}
use Rattle.almanac.specs.Layout.{bytes_of, suis_at, months_at, end_at, counts_of, content_at, content_of, file_of}
use Rattle.almanac.specs.Answers.{counts_in, checked_file, bytes_into}
use Rattle.almanac.proofs.theory.Reader.{checked}
use Rattle.built.specs.Build.{content_built, bytes_built, built_by, bytes_by}
use Rattle.built.specs.Theorems.{BuiltFile, built_is_read, one_sui_a_year, sui_of_each_year}
use Rattle.built.specs.theory.Count.{count_natural, count_small}
use Rattle.rebuilt.specs.declared.Years.{Years}
use Rattle.rebuilt.specs.Rebuild.{years_in, is_file, given_by, most_bytes}
use Rattle.alike.specs.Alike.{bytes_are, bytes_alike}

-- ---- a build that gave these bytes
pub is_file_lem : (v : Verdict (List ℕ)) (file : List ℕ) → is_file v file ≡ true → v ≡ answered file
is_file_lem (answered bytes) file e = ap answered (bytes_are bytes file e)
is_file_lem (refused number segment) file e = let z : ◌≡◌ {A = ℕ} 0 1 = cc in absurd (omega arith)

file_is : {v : Verdict (List ℕ)} (file : List ℕ) → v ≡ answered file → is_file v file ≡ true
file_is file e = rw e (sym (bytes_alike {a = file} {b = file} refl))

-- ---- refused by 13 alone
abbrev By13 : {A : Type 0} → Verdict A → Type 0
By13 (answered a) = Unit {0}
By13 (refused number segment) = (number ≡ 13) × (segment ≡ 0)

record Only13 {A : Type 0} (v : Verdict A) : Type 0 where
  says : By13 v

answer : {A : Type 0} (a : A) → Only13 (answered a)
answer a = record { says = tt }

test : (bad : Bool) → Only13 (refuse_when bad 13)
test true = record { says = (refl, refl) }
test false = record { says = tt }

infixr 5 ◌and◌
◌and◌ : {A B : Type 0} {u : Verdict A} {v : Verdict B} → Only13 u → Only13 v → Only13 (u before v)
◌and◌ {u = answered a} h k = k
◌and◌ {u = refused number segment} h k = record { says = h.says }

and_then : {A B : Type 0} {u : Verdict A} {f : A → Verdict B} → Only13 u → ((a : A) → Only13 (f a)) → Only13 (u then f)
and_then {u = answered a} h k = k a
and_then {u = refused number segment} h k = record { says = h.says }

file_only_13 : (file : List ℕ) → Only13 (file_of file)
unfolding file_of content_of counts_of
file_only_13 file =
    let entries = pattern4 file 0 in
    let suis = pattern4 file (suis_at entries) in
    let months = pattern4 file (months_at entries suis) in
    and_then
    (and_then
    (test (ltb (length file) 4)
    and test (ltb (length file) (suis_at entries + 4))
    and test (ltb (length file) (months_at entries suis + 4))
    and test (not (eqb (length file) (end_at entries suis months)))
    and answer (record { entries = entries; suis = suis; months = months }))
    (λ n. answer (content_at file n)))
    (λ c. test (not (lawful c)) and answer c)

-- ---- what is given, and what is not
module _ (built : ℤ → ℤ → Verdict (List ℕ)) (file : List ℕ) where
  pub record Given (y : Years) : Type 0 where
    pub content : Content
    pub is_read : file_of file ≡ answered content
    pub years_are : years_in content ≡ y
    pub is_built : built y.first (pos y.count) ≡ answered file

  pub given_tells : {y : Years} → given_by built file ≡ answered y → Given y
  unfolding given_by
  given_tells {y} e =
      let read = then_answered (file_of file) _ y e in
      let c = read.0 in
      let same = test_answered (not (is_file (built (years_in c).first (pos (years_in c).count)) file)) 13 (answered (years_in c)) y read.2 in
      let are : years_in c ≡ y = answers_apart same.1 in
      record {
        content = c;
        is_read = read.1;
        years_are = are;
        is_built = ap (λ (y : Years). built y.first (pos y.count)) (sym are) ∙ is_file_lem (built (years_in c).first (pos (years_in c).count)) file (not-false _ same.0);
      }

  pub given_when : {y : Years} → Given y → given_by built file ≡ answered y
  unfolding given_by
  given_when {y} g =
      let c = g.content in
      let same = ap (λ (y : Years). built y.first (pos y.count)) g.years_are ∙ g.is_built in
      rw g.is_read (sym (test_passes 13 (answered (years_in c)) (ap not (file_is file same))) ∙ ap answered g.years_are)

  given_only_13 : Only13 (given_by built file)
  unfolding given_by
  given_only_13 = and_then (file_only_13 file) (λ c. test (not (is_file (built (years_in c).first (pos (years_in c).count)) file)) and answer (years_in c))

  pub not_given : ((y : Years) → given_by built file ≡ answered y → ⊥) → given_by built file ≡ refused 13 0
  not_given none = go (given_by built file) refl given_only_13
    where
      go : (v : Verdict Years) → given_by built file ≡ v → Only13 v → v ≡ refused 13 0
      go (answered y) e o = absurd (none y e)
      go (refused number segment) e o = ap₂ refused o.says.0 o.says.1

-- ---- the years of what a build gives
module _ (i : Inputs) (zone first count : ℤ) (room : ℕ) {file : List ℕ} (e : bytes_built i zone first count room ≡ answered file) where
  judged : (judged_in i zone ≡ accepted) × (refuse_when (not (in_range (pos 1) (pos 128) count)) 8 before (content_built i zone first (nat_abs count) then λ c. bytes_into c room) ≡ answered file)
  unfolding built_by bytes_by
  judged = before_answered (judged_in i zone) (refuse_when (not (in_range (pos 1) (pos 128) count)) 8 before (content_built i zone first (nat_abs count) then λ c. bytes_into c room)) e

  pub built_in_zone : zone_judged zone ≡ accepted
  unfolding judged_in
  built_in_zone = (before_accepted (zone_judged zone) (inputs_judged i) judged.0).0

  in_range_lem : in_range (pos 1) (pos 128) count ≡ true
  in_range_lem = not-false (in_range (pos 1) (pos 128) count) (test_answered (not (in_range (pos 1) (pos 128) count)) 8 (content_built i zone first (nat_abs count) then λ c. bytes_into c room) file judged.1).0

  pub count_built : pos (nat_abs count) ≡ count
  count_built = abs_of_nonneg {a = count} (count_natural count in_range_lem)

  as_built : BuiltFile i zone first count file
  as_built = built_is_read i zone first count room e

  years_asked : years_in as_built.content ≡ record { first = first; count = nat_abs count }
  years_asked = λ t. record { first = first_is t; count = one_sui_a_year i zone first (nat_abs count) as_built.is_content t }
    where
      here : first +ℤ pos 0 ≡ first
      here = ⇑ (first ∷ []) (search ring depth 9) refl

      first_is : year_at as_built.content.suis 0 ≡ first
      first_is = (sui_of_each_year i zone first (nat_abs count) as_built.is_content 0 (count_small count in_range_lem).0).year_is ∙ here

  -- a file that is built takes no more bytes than any file has
  few_bytes : length file ≤ most_bytes
  unfolding checked_file
  few_bytes =
      let k = checked file (counts_in as_built.content) (rw as_built.is_read) in
      omega (arith, k.ends, k.entries_few, k.suis_few, k.months_few)

  pub room_enough : bytes_built i zone first count most_bytes ≡ answered file
  unfolding built_by bytes_by
  room_enough =
      let c = as_built.content in
      rw (judged.0, in_range_lem, as_built.is_content) (sym (test_passes 12 (answered (bytes_of c)) (le-ltb most_bytes (length (bytes_of c)) (rw (← as_built.is_written) few_bytes))) ∙ ap answered (sym as_built.is_written))

-- the build of most_bytes gives it, and so it is given, with the years that were asked for
pub built_is_given : (i : Inputs) (zone first count : ℤ) {file : List ℕ} (e : bytes_built i zone first count most_bytes ≡ answered file) → given_by (λ first count. bytes_built i zone first count most_bytes) file ≡ answered (record { first = first; count = nat_abs count })
built_is_given i zone first count {file} e =
    let f = as_built i zone first count most_bytes e in
    given_when (λ first count. bytes_built i zone first count most_bytes) file
    (record {
      content = f.content;
      is_read = f.is_read;
      years_are = years_asked i zone first count most_bytes e;
      is_built = ap (λ (n : ℤ). bytes_built i zone first n most_bytes) (count_built i zone first count most_bytes e) ∙ e;
    })
