-- What copying from the old file asks, once the old inputs gave it: all its suis were found, the months of each stand at their place in it, and the years whose days
-- are those kept as words are the kept ones. Assumes nothing.
use Rattle.std.specs.Prelude.{◌≡◌, Bool, true, ltb, ℤ, nat_abs, ◌+ℤ◌, drop}
use Rattle.std.proofs.Math.Path.{refl, sym, ap, ap₂}
use Rattle.std.proofs.Common.{◌∙◌, get_or-take}
use Rattle.std.proofs.Math.Bool.{cond}
use mathlib.Core.List.{List, [], ◌∷◌, ◌++◌}
use Prim.Native.Nat.{ℕ, zero, suc, ◌+◌, ◌*◌, ◌/◌, ◌≤◌, ◌<◌}
use native.Mathlib.Omega.{arith}
use borrow.Author.Tests.{ltb-false}
use Rattle.std.proofs.Math.IntN.{pos}
use Rattle.std.proofs.Math.ListN.{length, get_or, take}
use Rattle.std.proofs.Math.Seq.{get_or-drop}
use Rattle.whole.specs.Evaluated.{same_words}
use Rattle.whole.specs.Lists.{placed, placed_length}
use Rattle.whole.specs.Ranges.{Within}
use Rattle.refusals.specs.Verdict.{Verdict, answered, refused, then_answered, test_answered, answers_apart}
use Rattle.inputs.specs.Inputs.{Inputs}
use Rattle.inputs.specs.Known.{Known}
use Rattle.months.specs.declared.Sui.{Sui}
use Rattle.months.specs.declared.SuiDays.{SuiDays}
use Rattle.months.specs.Answers.{no_sui}
use Rattle.months.specs.Months.{sui_of}
use Rattle.sui.specs.Sui.{sui_days}
use Rattle.content.specs.Content.{sui_count, count_at, months_before}
use Rattle.almanac.specs.Layout.{months_at, bytes_of, file_of}
use Rattle.almanac.specs.Answers.{bytes_into}
use Rattle.almanac.specs.Theorems.{written_is_read}
use Rattle.almanac.specs.theory.Part.{months_in_file}
use Rattle.built.specs.Build.{suis_from, sui_words, month_words, content_for, content_built, content_by, bytes_of_years, bytes_by}
use Rattle.built.specs.Theorems.{built_is_lawful, one_sui_a_year}
use Rattle.build.specs.theory.Put.{sui_months}
use Rattle.built.specs.theory.Records.{sui_at, none_before, months_more, count_at_lem}
use Rattle.built.specs.theory.Years.{suis_are}
use Rattle.rebuilt.specs.Rebuild.{most_bytes, days_words, same_days, is_kept, kept_by, kept}
use Rattle.kept_or_made.specs.Again.{is_same_as, months_at_place, listed_again, Copies}
use Rattle.alike.specs.Alike.{words_are, words_alike}
use Rattle.rebuilt.proofs.theory.Kept.{fourteen_moons, same_days_lem}
use Rattle.kept_or_made.specs.OldDays.{AllFound, DaysOf, days_of_years, days_of_lem, words_of, days_long, days_at}
use Rattle.rebuilt.specs.theory.Records.{words_in_turn, fewer_found, own_words, words_before}

-- ---- a file that accepted inputs gave: its suis, and that the reader reads them
pub record OldFile (i : Inputs) (zone first : ℤ) (n : ℕ) (file : List ℕ) : Type 0 where
  pub suis : List Sui
  pub found : suis_from i zone first n ≡ answered suis
  pub is_read : file_of file ≡ answered (content_for i.leap first suis)
  pub count_is : sui_count (content_for i.leap first suis) ≡ n
  pub bytes_few : length file ≤ most_bytes

module _ (old : Inputs) (zone first : ℤ) (known : Known old) (small : Within 1000 zone) (n : ℕ) (some : 0 < n) (few : n ≤ 128) {file : List ℕ} (e : bytes_of_years old zone first n most_bytes ≡ answered file) where
  pub old_file : OldFile old zone first n file
  unfolding bytes_by content_by
  old_file =
      let made = then_answered (content_built old zone first n) (λ c. bytes_into c most_bytes) file e in
      let c = made.0 in
      let fitting = test_answered (ltb most_bytes (length (bytes_of c))) 12 (answered (bytes_of c)) file made.2 in
      let written : bytes_of c ≡ file = answers_apart fitting.1 in
      let found = then_answered (suis_from old zone first n) (λ suis. answered (content_for old.leap first suis)) c made.1 in
      let is : content_for old.leap first found.0 ≡ c = answers_apart found.2 in
      let keeps = built_is_lawful old zone known small first n some few made.1 in
      record {
        suis = found.0;
        found = found.1;
        is_read = ap file_of (sym written) ∙ written_is_read c keeps ∙ ap answered (sym is);
        count_is = ap sui_count is ∙ one_sui_a_year old zone first n made.1;
        bytes_few = omega (arith, ltb-false most_bytes (length (bytes_of c)) fitting.0, ap length written);
      }

  pub all_found : AllFound old zone first n
  all_found = record { suis = old_file.suis; found = old_file.found }

  -- ---- its suis, and how many months stand before each
  abbrev suis : List Sui
  suis = old_file.suis

  abbrev before_sui : ℕ → ℕ
  before_sui = months_before (sui_words first suis)

  days_old : (j : ℕ) → j < n → DaysOf old zone (first +ℤ pos j)
  days_old = days_of_lem old zone first known n all_found

  sui_old : (j : ℕ) (h : j < n) → (days_old j h).sui ≡ sui_at suis j
  sui_old j h = answers_apart (sym (days_old j h).is_sui ∙ (suis_are old zone first n old_file.found).each j h no_sui)

  months_old : (j : ℕ) (h : j < n) → (days_old j h).days.months ≡ (sui_at suis j).count
  months_old j h = (days_old j h).same_count ∙ ap (λ (s : Sui). s.count) (sui_old j h)

  count_old : (j : ℕ) → j < n → nat_abs (count_at (sui_words first suis) j) ≡ (sui_at suis j).count
  count_old j h = ap nat_abs (count_at_lem first suis j (omega (arith, (suis_are old zone first n old_file.found).all)))

  thirteen : (j : ℕ) → j < n → (sui_at suis j).count ≤ 13
  thirteen j h = omega (arith, months_old j h, (days_old j h).few_months)

  few_before_sui : (j : ℕ) → j ≤ n → before_sui j ≤ 13 * j
  few_before_sui zero h = omega (arith, none_before (sui_words first suis))
  few_before_sui (suc j) h = omega (arith, few_before_sui j (omega arith), months_more (sui_words first suis) j, count_old j (omega arith), thirteen j (omega arith))

  -- ---- the months of sui j stand in the file
  abbrev months_from : ℕ
  months_from = months_at (length old.leap / 2) n + 4

  in_file : (j : ℕ) → j < n → (months_at_place file (months_from + 9 * before_sui j) (sui_at suis j).count ≡ sui_months (sui_at suis j)) × (months_from + 9 * before_sui j + 9 * (sui_at suis j).count ≤ length file)
  in_file j h =
      let own = (suis_are old zone first n old_file.found).each j h no_sui in
      let done = fewer_found old zone first j n old_file.found (omega arith) in
      let turn = words_in_turn old zone first j n old_file.found done.1 own h in
      let there = words_before old zone first n old_file.found j done.1 (omega arith) in
      rw old_file.count_is at (months_in_file file (content_for old.leap first suis) old_file.is_read (month_words done.0) (sui_months (sui_at suis j)) turn.0 turn.1 (before_sui j) (sui_at suis j).count there (own_words old zone first j own))

  -- ---- the words of the old days, in a list that they were put into
  module _ (l : List ℤ) (room : 28 * n ≤ length l) {before : List ℤ} (put : before ≡ placed 0 (days_of_years old zone first n) l) where
    words_there : (j : ℕ) (h : j < n) → take 28 (drop (28 * j) before) ≡ days_words (days_old j h).days
    unfolding days_old
    words_there j h =
        ap (λ (x : List ℤ). take 28 (drop (28 * j) x)) put
        ∙ days_at old zone first known n all_found n j (drop (0 + length (days_of_years old zone first n)) l) (omega arith) h
        ∙ words_of old zone first known n all_found j h

    months_there : (j : ℕ) → j < n → get_or before (28 * j) (pos 0) ≡ pos (sui_at suis j).count
    unfolding days_words
    months_there j h =
        let here : 28 * j + 0 ≡ 28 * j = omega arith in
        sym (get_or-take 28 (drop (28 * j) before) 0 (pos 0) (omega arith) ∙ get_or-drop (28 * j) before 0 (pos 0) ∙ ap (λ (k : ℕ). get_or before k (pos 0)) here)
        ∙ ap (λ (x : List ℤ). get_or x 0 (pos 0)) (words_there j h)
        ∙ ap pos (months_old j h)

    long : 28 * n ≤ length before
    long = let words = days_long old zone first known n all_found n (omega arith) in omega (arith, room, ap length put, placed_length l (days_of_years old zone first n) 0 (omega (arith, words, room)))

    module _ (new : Inputs) where
      -- ---- days that are the old ones by their words are the old ones
      same_as_old : (j : ℕ) (h : j < n) (days : SuiDays) → sui_days new zone (first +ℤ pos j) ≡ answered days → same_words (take 28 (drop (28 * j) before)) (days_words days) ≡ true → (days_old j h).days ≡ days
      unfolding same_days
      same_as_old j h days f same =
          let year = first +ℤ pos j in
          let is = days_old j h in
          same_days_lem is.days days (fourteen_moons old zone year is.are_days) (fourteen_moons new zone year f) (sym (words_alike (sym (words_there j h) ∙ words_are (take 28 (drop (28 * j) before)) (days_words days) same)))

      pub copies_from_old : Copies new zone first n before file (months_at (length old.leap / 2) n + 4)
      copies_from_old =
          record {
            room = long;
            months = λ j. (sui_at suis j).count;
            months_before = before_sui;
            are_months = months_there;
            months_few = thirteen;
            starts = none_before (sui_words first suis);
            goes_on = λ j h. let next : j + 1 ≡ suc j = omega arith in ap before_sui next ∙ months_more (sui_words first suis) j ∙ ap (λ (k : ℕ). before_sui j + k) (count_old j h);
            few_before = few_before_sui;
            small = omega (arith, (in_file 0 some).1, old_file.bytes_few);
            sui_kept = λ j h days f same.
                let is = same_as_old j h days f same in
                let count : days.months ≡ (sui_at suis j).count = ap (λ (d : SuiDays). d.months) (sym is) ∙ months_old j h in
                let there = in_file j h in (
                  sui_at suis j,
                  (
                    ap (sui_of (first +ℤ pos j)) (sym is) ∙ (days_old j h).by_rule ∙ ap answered (sui_old j h),
                    (ap (months_at_place file (months_from + 9 * before_sui j)) count ∙ there.0, omega (arith, count, there.1)),
                  ),
                );
          }

      -- ---- the years that are listed are the kept ones
      kept_by_words : (j : ℕ) (h : j < n) → is_same_as (sui_days new zone (first +ℤ pos j)) (take 28 (drop (28 * j) before)) ≡ kept old new zone (first +ℤ pos j)
      unfolding same_days
      kept_by_words j h =
          let is = days_old j h in
          ap (is_same_as (sui_days new zone (first +ℤ pos j))) (words_there j h)
          ∙ go is.days (sui_days new zone (first +ℤ pos j))
          ∙ ap (λ (u : Verdict SuiDays). is_kept u (sui_days new zone (first +ℤ pos j))) (sym is.are_days)
        where
          go : (a : SuiDays) (v : Verdict SuiDays) → is_same_as v (days_words a) ≡ is_kept (answered a) v
          go a (answered b) = refl
          go a (refused number segment) = refl

      listed_so_far : (m : ℕ) → m ≤ n → listed_again new zone first before m ≡ kept_by (kept old new zone) first m
      unfolding listed_again kept_by
      listed_so_far zero h = refl
      listed_so_far (suc m) h = ap₂ (λ (a : List ℤ) (t : Bool). a ++ cond t ((first +ℤ pos m) ∷ []) []) (listed_so_far m (omega arith)) (kept_by_words m (omega arith))

      pub listed_is_kept : listed_again new zone first before n ≡ kept_by (kept old new zone) first n
      listed_is_kept = listed_so_far n (omega arith)
