-- What is proved of the rebuild, over its definitions (document 02, order 1): its file is the fresh build of the new inputs; which old files the old inputs give, and
-- 13 for every other; which years are listed, in rising order; that nothing of the old file is taken but records of those suis; one result. Assumes nothing but what
-- a statement says itself.
use Rattle.std.specs.Prelude.{◌≡◌, Bool, true, false, cond, List, ◌++◌, ◌↔◌, ℕ, zero, suc, ◌+◌, ◌*◌, ◌≤◌, ◌<◌, ltb, ℤ, pos, nat_abs, ◌+ℤ◌, length, get_or, take, ◌<ℤ◌, Result}
use Rattle.std.proofs.Math.Path.{refl}
use Rattle.std.proofs.Common.{sym, ap, ap₂, subst, ◌∙◌, arith, take-suc, take_all}
use Rattle.refusals.specs.Verdict.{Verdict, answered, refused, OneToOne, then_answered, test_answered, before_answered, answers_apart, one_result, one_content, ◌then◌, paper, results_apart}
use Rattle.refusals.specs.Lent.{written_into}
use Rattle.clock.specs.Clock.{is_zone}
use Rattle.clock.specs.Answers.{zone_judged}
use Rattle.inputs.specs.Inputs.{Inputs}
use Rattle.months.specs.declared.SuiDays.{SuiDays}
use Rattle.months.specs.declared.Sui.{Sui}
use Rattle.months.specs.Months.{sui_of}
use Rattle.months.specs.Answers.{no_sui}
use Rattle.sui.specs.Sui.{sui_days, sui_of_year}
use Rattle.content.specs.Content.{Content, entry_count, sui_count, months_before}
use Rattle.almanac.specs.Fields.{times, numbers_in}
use Rattle.almanac.specs.Layout.{month_fields, months_at, file_of}
use Rattle.almanac.specs.theory.Part.{months_in_file}
use Rattle.built.specs.Build.{months_in, words_of, month_words, content_for, content_by, suis_from, bytes_built}
use Rattle.built.specs.Theorems.{built_is_read}
use Rattle.built.specs.theory.Records.{sui_at}
use Rattle.built.specs.theory.Words.{month_words_snoc}
use Rattle.built.specs.theory.Years.{suis_are}
use Rattle.rebuilt.specs.declared.Years.{Years}
use Rattle.rebuilt.specs.Rebuild.{NewFile, new_file_by, rebuilt_by, most_bytes, given, kept_by, kept, rebuilt, counted, new_bytes, kept_years}
use Rattle.rebuilt.specs.theory.Given.{Given, given_tells, given_when, not_given, built_in_zone, built_is_given, count_built, room_enough}
use Rattle.rebuilt.proofs.theory.Kept.{fourteen_moons, same_days_lem, both_found, kept_when}
use Rattle.rebuilt.proofs.theory.Listed.{StandsIn, KeptYear, years_of}
use Rattle.rebuilt.specs.theory.Records.{words_in_turn, fewer_found, own_words, words_before}
use Rattle.rebuilt.specs.Theorems.{taken}
use Rattle.rebuilt.specs.declared.Rebuilt.{Rebuilt}
use Rattle.refusals.specs.declared.Refusal.{Refusal}

-- ---- "a file of the same suis, equal byte for byte to a fresh build"
pub record Fresh (old new : Inputs) (zone : ℤ) (file : List ℕ) (room : ℕ) (n : NewFile) : Type 0 where
  pub years : Years
  pub is_given : given old zone file ≡ answered years
  pub is_fresh : bytes_built new zone years.first (pos years.count) room ≡ answered n.bytes
  pub are_kept : kept_by (kept old new zone) years.first years.count ≡ n.years

pub rebuilt_is_fresh : (old new : Inputs) (zone : ℤ) (file : List ℕ) (room places : ℕ) {n : NewFile} → rebuilt old new zone file room places ≡ answered n → Fresh old new zone file room n
unfolding rebuilt_by new_file_by
rebuilt_is_fresh old new zone file room places {n} e =
    let in_zone = before_answered (zone_judged zone) _ e in
    let given-first = then_answered (given old zone file) _ n in_zone.1 in
    let y = given-first.0 in
    let listed = kept_by (kept old new zone) y.first y.count in
    let built = then_answered (bytes_built new zone y.first (pos y.count) room) _ n given-first.2 in
    let roomy = test_answered (ltb places (length listed)) 12 (answered (record { bytes = built.0; years = listed })) n built.2 in
    let is : record { bytes = built.0; years = listed } ≡ n = answers_apart roomy.1 in
    record {
      years = y;
      is_given = given-first.1;
      is_fresh = built.1 ∙ ap (λ (m : NewFile). answered m.bytes) is;
      are_kept = ap (λ (m : NewFile). m.years) is;
    }

-- ---- "13 first, when the old file is not one that the old inputs give"
-- given are the years of a lawful file that the build of the old inputs for those years gives ..
abbrev pub old_build : Inputs → ℤ → ℤ → ℤ → Verdict (List ℕ)
old_build old zone first count = bytes_built old zone first count most_bytes

pub given_means : (old : Inputs) (zone : ℤ) (file : List ℕ) (y : Years) → given old zone file ≡ answered y ↔ Given (old_build old zone) file y
given_means old zone file y = (given_tells (old_build old zone) file, given_when (old_build old zone) file)

-- .. and what a build gives is lawful, of the years that it was asked for: these are the years of a file exactly if the build of the old inputs for them gives it ..
pub given_years_exactly : (old : Inputs) (zone : ℤ) (file : List ℕ) (y : Years) → given old zone file ≡ answered y ↔ (bytes_built old zone y.first (pos y.count) most_bytes ≡ answered file)
given_years_exactly old zone file y = (λ g. (given_tells (old_build old zone) file g).is_built, λ b. built_is_given old zone y.first (pos y.count) b)

-- .. and a file is given exactly if that build gives it for some first year and count of suis
pub given_exactly : (old : Inputs) (zone : ℤ) (file : List ℕ) → ((y : Years) × (given old zone file ≡ answered y)) ↔ ((first count : ℤ) × (bytes_built old zone first count most_bytes ≡ answered file))
given_exactly old zone file = (
  λ g. (g.0.first, pos g.0.count, (given_tells (old_build old zone) file g.1).is_built),
  λ b. (record { first = b.0; count = nat_abs b.1 }, built_is_given old zone b.0 b.1 b.2),
)

-- (the bytes that any file has are room enough: what is built in other room is built in that)
pub most_bytes_are_enough : (i : Inputs) (zone first count : ℤ) (room : ℕ) {bytes : List ℕ} → bytes_built i zone first count room ≡ answered bytes → bytes_built i zone first count most_bytes ≡ answered bytes
most_bytes_are_enough i zone first count room e = room_enough i zone first count room e

-- any other file is refused by 13, whatever the new inputs are, and the room; only a zone out of range goes before it
pub no_zone_is_15 : (old new : Inputs) (zone : ℤ) → is_zone zone ≡ false → (file : List ℕ) (room places : ℕ) → rebuilt old new zone file room places ≡ refused 15 0
unfolding zone_judged
no_zone_is_15 old new zone e file room places = rw e

pub not_given_is_13 : (old : Inputs) (zone : ℤ) → is_zone zone ≡ true → (file : List ℕ) → ((first count : ℤ) → bytes_built old zone first count most_bytes ≡ answered file → ⊥) → (new : Inputs) (room places : ℕ) → rebuilt old new zone file room places ≡ refused 13 0
unfolding zone_judged rebuilt_by
not_given_is_13 old zone z file none new room places = rw (z, not_given (old_build old zone) file (λ y e. none y.first (pos y.count) (given_tells (old_build old zone) file e).is_built))

-- ---- "Refusals: those of a fresh build in its order, and 13 first": behind 13 the fresh build for the old file's years, then 12 for the years that are kept
pub then_as_fresh : (old new : Inputs) (zone first count : ℤ) {file : List ℕ} → bytes_built old zone first count most_bytes ≡ answered file → (room places : ℕ) → rebuilt old new zone file room places ≡ new_file_by (bytes_built new zone first count room) (kept_by (kept old new zone) first (nat_abs count)) places
unfolding rebuilt_by
then_as_fresh old new zone first count {file} e room places =
    rw (built_in_zone old zone first count most_bytes e, built_is_given old zone first count e)
    (ap (λ (n : ℤ). new_file_by (bytes_built new zone first n room) (kept_by (kept old new zone) first (nat_abs count)) places) (count_built old zone first count most_bytes e))

-- ---- "whose new-moon days (from its month 11 to the next sui's) and 13 zhongqi days are unchanged"
pub record Unchanged (old new : Inputs) (zone year : ℤ) : Type 0 where
  pub days : SuiDays
  pub under_old : sui_days old zone year ≡ answered days
  pub under_new : sui_days new zone year ≡ answered days

pub kept_exactly : (old new : Inputs) (zone year : ℤ) → kept old new zone year ≡ true ↔ Unchanged old new zone year
kept_exactly old new zone year = (unchanged, λ u. kept_when u.under_old u.under_new)
  where
    unchanged : kept old new zone year ≡ true → Unchanged old new zone year
    unchanged e =
        let f = both_found (sui_days old zone year) (sui_days new zone year) e in
        let same = same_days_lem f.one f.other (fourteen_moons old zone year f.is_one) (fourteen_moons new zone year f.is_other) f.alike in
        record { days = f.one; under_old = f.is_one; under_new = f.is_other ∙ ap answered (sym same) }

-- ---- "the answer lists exactly the years of those suis"
module _ (old new : Inputs) (zone first : ℤ) (n : ℕ) where
  pub listed_years_exactly : (year : ℤ) → StandsIn (kept_by (kept old new zone) first n) year ↔ KeptYear (kept old new zone) first n year
  listed_years_exactly year = (of_list, in_list)
    where
      l : List ℤ
      l = kept_by (kept old new zone) first n

      of_list : StandsIn l year → KeptYear (kept old new zone) first n year
      of_list s = subst (λ (z : ℤ). KeptYear (kept old new zone) first n z) s.stands ((years_of (kept old new zone) first n).are_kept s.place s.inside)

      in_list : KeptYear (kept old new zone) first n year → StandsIn l year
      in_list k = subst (λ (z : ℤ). StandsIn l z) k.is ((years_of (kept old new zone) first n).all k.turn k.in_turn (ap (kept old new zone) k.is ∙ k.is_kept))

  pub listed_years_rise : (i k : ℕ) → i < k → k < length (kept_by (kept old new zone) first n) → get_or (kept_by (kept old new zone) first n) i (pos 0) <ℤ get_or (kept_by (kept old new zone) first n) k (pos 0)
  listed_years_rise = (years_of (kept old new zone) first n).rise

-- nothing is taken from the old file but records of suis that are kept: whatever stands there for the others, the same words are taken
pub only_kept_records_are_taken : (keeps : ℕ → Bool) (old other made : ℕ → List ℤ) (n : ℕ) → ((j : ℕ) → j < n → keeps j ≡ true → old j ≡ other j) → taken keeps old made n ≡ taken keeps other made n
unfolding taken
only_kept_records_are_taken keeps old other made zero same = refl
only_kept_records_are_taken keeps old other made (suc n) same = go (only_kept_records_are_taken keeps old other made n (λ j h. same j (omega arith))) (keeps n) refl
  where
    go : taken keeps old made n ≡ taken keeps other made n → (t : Bool) → keeps n ≡ t → taken keeps old made (suc n) ≡ taken keeps other made (suc n)
    go before true e = rw e (ap₂ (λ (a b : List ℤ). a ++ b) before (same n (omega arith) e))
    go before false e = rw e (ap (λ (a : List ℤ). a ++ made n) before)

-- and the words that are taken are those of the fresh build
abbrev pub words_at : List Sui → ℕ → List ℤ
words_at suis j = words_of (months_in (sui_at suis j))

-- (all of them made)
taken_are_made : (keeps : ℕ → Bool) (suis : List Sui) (n : ℕ) → n ≤ length suis → taken keeps (words_at suis) (words_at suis) n ≡ month_words (take n suis)
unfolding taken
taken_are_made keeps suis zero h = unfold month_words in refl
taken_are_made keeps suis (suc n) h =
    ap₂ (λ (a b : List ℤ). a ++ b) (taken_are_made keeps suis n (omega arith)) (either (keeps n) (words_at suis n))
    ∙ sym (ap month_words (take-suc suis n no_sui (omega arith)) ∙ month_words_snoc (take n suis) (sui_at suis n))
  where
    either : (t : Bool) (words : List ℤ) → cond t words words ≡ words
    either true words = refl
    either false words = refl

-- a sui that is kept is the same sui under both
kept_is_same : (old new : Inputs) (zone year : ℤ) → kept old new zone year ≡ true → sui_of_year old zone year ≡ sui_of_year new zone year
kept_is_same old new zone year e = let u = (kept_exactly old new zone year).0 e in ap (λ (v : Verdict SuiDays). v then sui_of year) (u.under_old ∙ sym u.under_new)

pub taken_is_fresh : (old new : Inputs) (zone first : ℤ) (n : ℕ) {olds news : List Sui} → suis_from old zone first n ≡ answered olds → suis_from new zone first n ≡ answered news → month_words news ≡ taken (λ j. kept old new zone (first +ℤ pos j)) (words_at olds) (words_at news) n
taken_is_fresh old new zone first n {olds} {news} e f =
    let keeps : ℕ → Bool = λ j. kept old new zone (first +ℤ pos j) in
    let o = suis_are old zone first n e in
    let w = suis_are new zone first n f in
    let same : (j : ℕ) → j < n → keeps j ≡ true → words_at olds j ≡ words_at news j = λ j h k.
    ap (λ (s : Sui). words_of (months_in s)) (answers_apart (sym (o.each j h no_sui) ∙ kept_is_same old new zone (first +ℤ pos j) k ∙ w.each j h no_sui)) in
    sym (only_kept_records_are_taken keeps (words_at olds) (words_at news) (words_at news) n same ∙ taken_are_made keeps news n (omega (arith, w.all)) ∙ ap month_words (take_all n news (omega (arith, w.all))))

-- the old words of sui j are the numbers that stand at its place in the old file: from its months on, behind nine bytes for each month of the suis before it
pub record OldRecords (old : Inputs) (zone : ℤ) (file : List ℕ) (y : Years) : Type 0 where
  pub suis : List Sui
  pub are_suis : suis_from old zone y.first y.count ≡ answered suis
  pub content : Content
  pub is_read : file_of file ≡ answered content
  pub in_file : (j : ℕ) → j < y.count → numbers_in (times (sui_at suis j).count month_fields) file (months_at (entry_count content) (sui_count content) + 4 + 9 * months_before content.suis j) ≡ words_at suis j

pub old_records_in_file : (old : Inputs) (zone : ℤ) (file : List ℕ) {y : Years} → given old zone file ≡ answered y → OldRecords old zone file y
unfolding content_by
old_records_in_file old zone file {y} e =
    let first = y.first in
    let n = y.count in
    let b = built_is_read old zone first (pos n) most_bytes (given_tells (old_build old zone) file e).is_built in
    let c = b.content in
    let found = then_answered (suis_from old zone first n) (λ suis. answered (content_for old.leap first suis)) c b.is_content in
    let suis = found.0 in
    let is : content_for old.leap first suis ≡ c = answers_apart found.2 in
    record {
      suis = suis;
      are_suis = found.1;
      content = c;
      is_read = b.is_read;
      in_file = λ j h.
          let own = (suis_are old zone first n found.1).each j h no_sui in
          let done = fewer_found old zone first j n found.1 (omega arith) in
          let turn = words_in_turn old zone first j n found.1 done.1 own h in
          let before = words_before old zone first n found.1 j done.1 (omega arith) ∙ ap (λ (c : Content). 3 * months_before c.suis j) is in
          (months_in_file file c b.is_read (month_words done.0) (words_at suis j) turn.0 (ap (λ (c : Content). c.months) (sym is) ∙ turn.1) (months_before c.suis j) (sui_at suis j).count before (own_words old zone first j own)).0;
    }

-- ---- one result: any two answers that the rebuild may give are the same, and so is what each lent place holds
pub rebuilt_apart : OneToOne (paper {A = Rebuilt})
rebuilt_apart = results_apart

module _ (old new : Inputs) (zone : ℤ) (file : List ℕ) where
  pub rebuild_one_result : (room places : ℕ) (a b : Result Rebuilt Refusal) → paper a ≡ counted (rebuilt old new zone file room places) → paper b ≡ counted (rebuilt old new zone file room places) → a ≡ b
  rebuild_one_result room places a b p q = one_result paper rebuilt_apart a b p q

  -- the lent bytes, and the lent list of years
  pub rebuild_one_content : (lent : List ℕ) (places : ℕ) (a b : List ℕ) → a ≡ written_into (rebuilt old new zone file (length lent) places) new_bytes lent → b ≡ written_into (rebuilt old new zone file (length lent) places) new_bytes lent → a ≡ b
  rebuild_one_content lent places a b p q = one_content a b p q

  pub rebuild_one_list : (room : ℕ) (lent a b : List ℤ) → a ≡ written_into (rebuilt old new zone file room (length lent)) kept_years lent → b ≡ written_into (rebuilt old new zone file room (length lent)) kept_years lent → a ≡ b
  rebuild_one_list room lent a b p q = one_content a b p q
