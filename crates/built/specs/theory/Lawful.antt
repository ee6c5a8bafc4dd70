-- The content of found suis keeps the rules of the file, rule by rule. Assumes nothing.
use Rattle.std.specs.Prelude.{◌≡◌, true, List, [], ◌∷◌, ℤ, nat_abs, ◌+ℤ◌, ◌-ℤ◌}
use Rattle.std.proofs.Math.Path.{refl, ap}
use Rattle.std.proofs.Common.{sym, ◌∙◌}
use Prim.Native.Nat.{ℕ, zero, suc, ◌+◌, ◌-◌, ◌*◌, ◌/◌, ◌%◌, ◌≤◌, ◌<◌}
use native.Mathlib.Omega.{arith}
use borrow.Author.Tests.{eq-eqb, le-leb}
use Rattle.std.proofs.Math.IntN.{pos}
use Rattle.std.proofs.Math.ListN.{length}
use Rattle.whole.specs.Below.{every, every_true}
use Rattle.whole.specs.Booleans.{both_hold}
use Rattle.whole.specs.Distance.{back_one}
use Rattle.whole.specs.Parts.{ℤ_rules}
use Rattle.whole.specs.Ranges.{Within}
use Rattle.whole.specs.Solver.{⇑, ring}
use Rattle.whole.specs.Tests.{in_range, is_exactly, says_in_range, says_exactly}
use Rattle.dates.specs.Answers.{has_date}
use Rattle.inputs.specs.Inputs.{Inputs}
use Rattle.inputs.specs.Known.{Known}
use Rattle.months.specs.declared.Month.{Month}
use Rattle.months.specs.declared.Sui.{Sui}
use Rattle.months.specs.Answers.{no_sui}
use Rattle.months.proofs.theory.Suis.{month}
use Rattle.content.specs.Content.{year_at, count_at, month_at, months_before, follows_year, good_sui, leaps_before, good_handle, good_start, good_days, good_month, good_months, good_sui_months, whole_suis, lawful}
use Rattle.content.proofs.theory.Judged.{first_start}
use Rattle.built.specs.Build.{sui_words, month_words, content_for}
use Rattle.built.specs.theory.Words.{length_sui_words}
use Rattle.built.specs.theory.Years.{SuisOf}
use Rattle.built.specs.theory.Records.{sui_at, Whole, suis_whole, none_before, months_more, year_at_lem, count_at_lem, month_at_lem, length_month_words}
use Rattle.built.specs.theory.Kept.{KeptSui, kept}
use Rattle.built.specs.theory.Following.{next_follows}
use Rattle.built.specs.theory.Leaps.{count_is, handle_good}

year_after : (first : ℤ) (j : ℕ) → first +ℤ pos (suc j) ≡ first +ℤ pos j +ℤ pos 1
year_after first j = let e : suc j ≡ j + 1 = omega arith in rw e (⇑ (first ∷ pos j ∷ []) (search ring depth 9) refl)

-- ---- of any content
-- 1 to 128 suis of two words each
whole_suis_lem : (words n : ℕ) → words ≡ 2 * n → 0 < n → n ≤ 128 → whole_suis words ≡ true
unfolding whole_suis
whole_suis_lem words n e some few =
    let even : words % 2 ≡ 0 = omega arith in
    rw (eq-eqb (words % 2) 0 even, le-leb 2 words (omega arith), le-leb words 256 (omega arith))

-- a month begins where the one before it ends
starts_behind : (months : List ℤ) (k : ℕ) (a b : Month) → month_at months k ≡ a → month_at months (suc k) ≡ b → a.first +ℤ a.length ≡ b.first → good_start months (suc k) ≡ true
unfolding good_start
starts_behind months k a b p q e =
    let x = (month_at months k).first +ℤ (month_at months k).length in
    says_exactly x (month_at months (suc k)).first (ap (λ (m : Month). m.first) q ∙ sym e ∙ sym (ap (λ (m : Month). m.first +ℤ m.length) p))

good_days_lem : (months : List ℤ) (k : ℕ) (m : Month) → month_at months k ≡ m → good_start months k ≡ true → in_range (pos 29) (pos 30) m.length ≡ true → has_date (m.first +ℤ m.length -ℤ pos 1) ≡ true → good_days months k ≡ true
unfolding good_days
good_days_lem months k m p start length dated =
    let l = ap (λ (x : Month). in_range (pos 29) (pos 30) x.length) p ∙ length in
    let d = ap (λ (x : Month). has_date (x.first +ℤ x.length -ℤ pos 1)) p ∙ dated in
    rw (start, l, d)

module _ (i : Inputs) (zone : ℤ) (known : Known i) (small : Within 1000 zone) (first : ℤ) (n : ℕ) (suis : List Sui) (s : SuisOf i zone first n suis) where
  abbrev words : List ℤ
  words = sui_words first suis

  abbrev months : List ℤ
  months = month_words suis

  -- where the months of the j-th sui begin
  abbrev from : ℕ → ℕ
  from j = months_before words j

  whole : Whole suis
  whole = suis_whole i zone first n suis s

  module _ (j : ℕ) (h : j < n) where
    sui_kept : KeptSui (first +ℤ pos j) (sui_at suis j)
    sui_kept = kept i zone known small (first +ℤ pos j) (s.each j h no_sui)

    year_is : year_at words j ≡ first +ℤ pos j
    year_is = year_at_lem first suis j (omega (arith, s.all))

    count_of : count_at words j ≡ pos (sui_at suis j).count
    count_of = count_at_lem first suis j (omega (arith, s.all))

    months_are : (place : ℕ) → place < (sui_at suis j).count → month_at months (from j + place) ≡ month (sui_at suis j) place
    months_are = month_at_lem first suis whole j (omega (arith, s.all))

  -- ---- suis
  follows : (j : ℕ) → j < n → follows_year words j ≡ true
  unfolding follows_year
  follows zero h = refl
  follows (suc j) h =
      says_exactly (year_at words j +ℤ pos 1) (year_at words (suc j)) (year_is (suc j) h ∙ year_after first j ∙ ap (λ (y : ℤ). y +ℤ pos 1) (sym (year_is j (omega arith))))

  sui_good : (j : ℕ) → j < n → good_sui words j ≡ true
  unfolding good_sui
  sui_good j h =
      let k = sui_kept j h in
      let few = k.few in
      let year = ap (in_range (pos 1700) (pos 2500)) (year_is j h) ∙ k.in_range in
      let count = ap (in_range (pos 12) (pos 13)) (count_of j h) ∙ says_in_range (pos 12) (pos 13) (pos (sui_at suis j).count) (omega ℤ_rules) (omega ℤ_rules) in
      rw (year, follows j h, count)

  -- ---- days
  start_good : (j : ℕ) → j < n → (place : ℕ) → place < (sui_at suis j).count → good_start months (from j + place) ≡ true
  start_good j h (suc place) l =
      let e : from j + suc place ≡ suc (from j + place) = omega arith in
      rw e (starts_behind months (from j + place) (month (sui_at suis j) place) (month (sui_at suis j) (suc place)) (months_are j h place (omega arith)) (ap (month_at months) (sym e) ∙ months_are j h (suc place) l) ((sui_kept j h).meets place l))
  start_good zero h zero l =
      let none = none_before words in
      let e : from 0 + 0 ≡ 0 = omega arith in
      sym (first_start months (from 0 + 0) e) ∙ ap (λ (m : Month). has_date m.first) (months_are 0 h 0 l) ∙ (sui_kept 0 h).first_dated 0 l
  start_good (suc j) h zero l =
      let count = (sui_at suis j).count in
      let some = (sui_kept j (omega arith)).few in
      let more = months_more words j in
      let is = ap nat_abs (count_of j (omega arith)) in
      let e : from (suc j) + 0 ≡ suc (from j + (count - 1)) = omega arith in
      let back : first +ℤ pos (suc j) -ℤ pos 1 ≡ first +ℤ pos j = ap (λ (y : ℤ). y -ℤ pos 1) (year_after first j) ∙ back_one (first +ℤ pos j) in
      rw e (starts_behind months (from j + (count - 1)) (month (sui_at suis j) (count - 1)) (month (sui_at suis (suc j)) 0)
      (months_are j (omega arith) (count - 1) (omega arith))
      (ap (month_at months) (sym e) ∙ months_are (suc j) h 0 l)
      (next_follows i zone known (first +ℤ pos j) (first +ℤ pos (suc j)) back (s.each j (omega arith) no_sui) (s.each (suc j) h no_sui)))

  -- ---- months
  month_good : (j : ℕ) → j < n → (place : ℕ) → place < (sui_at suis j).count → good_month months (first +ℤ pos j) (pos (sui_at suis j).count) (from j) place ≡ true
  unfolding good_month
  month_good j h place l =
      let k = sui_kept j h in
      let here = months_are j h place l in
      both_hold _ _
      (ap (λ (m : Month). good_handle (first +ℤ pos j) (pos (sui_at suis j).count) (leaps_before months (from j) place) place m.handle) here ∙ handle_good k months (from j) (months_are j h) place l)
      (good_days_lem months (from j + place) (month (sui_at suis j) place) here (start_good j h place l) (k.lengths place l) (k.last_dated place l))

  months_good : (j : ℕ) → j < n → good_sui_months words months j ≡ true
  unfolding good_sui_months good_months
  months_good j h =
      let count = (sui_at suis j).count in
      let leaps = leaps_before months (from j) count in
      rw (year_is j h, count_of j h)
      (both_hold (every (good_month months (first +ℤ pos j) (pos count) (from j)) count) (is_exactly (pos (12 + leaps)) (pos count))
      (every_true (good_month months (first +ℤ pos j) (pos count) (from j)) count (month_good j h))
      (says_exactly (pos (12 + leaps)) (pos count) (ap pos (sym (count_is (sui_kept j h) months (from j) (months_are j h))))))

  -- ---- all of it
  pub content_is_lawful : 0 < n → n ≤ 128 → lawful (content_for i.leap first suis) ≡ true
  unfolding lawful
  content_is_lawful some few =
      let long = length_sui_words first suis in
      let all = s.all in
      let half : length words / 2 ≡ n = omega arith in
      let right = eq-eqb (length months) (3 * from n) (length_month_words first suis whole ∙ ap (λ (m : ℕ). 3 * from m) all) in
      rw (half, known.sun_ready.lawful_table, whole_suis_lem (length words) n (omega arith) some few, every_true (good_sui words) n sui_good, right, every_true (good_sui_months words months) n months_good)
