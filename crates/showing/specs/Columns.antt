-- No column is too narrow for its number: of each month of a lawful content every number that its line shows is not negative and has no more digits than its column
-- (`columns_wide_enough`). Assumes nothing.
use Rattle.std.specs.Prelude.{◌≡◌, refl, Bool, true, false, cond, List, [], ◌∷◌, ℕ, zero, suc, ◌+◌, ◌-◌, ◌*◌, ◌≤◌, ◌<◌, leb, ℤ, pos, nat_abs, get_or}
use Rattle.std.proofs.Common.{sym, ◌∙◌, ⊎_elim, arith, leb-true}
use Rattle.whole.specs.Parts.{◌⩽◌, ◌≺◌, ℤ_rules}
use Rattle.whole.specs.Solver.{⇑, ⇓, ring}
use Rattle.whole.specs.Tests.{in_range, in_range_says}
use Rattle.refusals.specs.Verdict.{answer_or_refusal}
use Rattle.dates.specs.Answers.{has_date}
use Rattle.dates.specs.Calendar.{leap_year, month_lengths, month_length, lengths_in, date_for}
use Rattle.dates.proofs.Theorems.{date_has_number, date_is_valid}
use Rattle.dates.proofs.theory.Days.{Valid, valid_says}
use Rattle.dates.proofs.theory.Judged.{day_found, refused_outside_1500_to_2600}
use Rattle.months.specs.declared.Month.{Month}
use Rattle.months.specs.Handles.{number_at, leap_mark, handle, handle_at}
use Rattle.months.proofs.theory.Numbering.{number_small, mark_small}
use Rattle.content.specs.Content.{Content, month_count, month_at, lawful}
use Rattle.almanac.specs.theory.FieldLaws.{Counted}
use Rattle.almanac.specs.theory.Rules.{Rules, rules, counted_in, year_range, length_range, handle_is, Placed, placed}
use Rattle.showing.specs.theory.Dated.{dated}

-- not negative, and below the limit of its column
pub record WideEnough (m : Month) : Type 0 where
  pub handle : Counted 100000 m.handle
  pub year : Counted 10000 (date_for m.first).year
  pub month : Counted 100 (date_for m.first).month
  pub day : Counted 100 (date_for m.first).day
  pub days : Counted 100 m.length

in-column : (limit : ℕ) (low high z : ℤ) → (low ⩽ z) × (z ⩽ high) → pos 0 ⩽ low → high ≺ pos limit → Counted limit z
in-column limit low high z r l u =
    let ρ = low ∷ high ∷ z ∷ pos limit ∷ [] in
    let a = ⇓ ρ r.0 (search ring) in
    let b = ⇓ ρ r.1 (search ring) in
    counted_in limit z (⇑ ρ (search ring) (omega (arith, ⇓ ρ l (search ring)))) (⇑ ρ (search ring) (omega (arith, ⇓ ρ u (search ring))))

-- ---- the date
-- no month is longer than 31 days
abbrev at_most31 : List ℕ → Bool
at_most31 [] = true
at_most31 (n ∷ ns) = cond (leb n 31) (at_most31 ns) false

each_at_most : (ns : List ℕ) → at_most31 ns ≡ true → (i : ℕ) → get_or ns i 0 ≤ 31
each_at_most [] e i = omega arith
each_at_most (n ∷ ns) e i = go (λ q j. each_at_most ns q j) (leb n 31) refl e i
  where
    go : (at_most31 ns ≡ true → (j : ℕ) → get_or ns j 0 ≤ 31) → (b : Bool) → leb n 31 ≡ b → cond b (at_most31 ns) false ≡ true → (i : ℕ) → get_or (n ∷ ns) i 0 ≤ 31
    go behind true p q zero = leb-true n 31 p
    go behind true p q (suc i) = behind q i
    go behind false p q i = let z : ◌≡◌ {A = ℕ} 0 1 = cc in absurd (omega arith)

twelve_at_most : (leap : Bool) → at_most31 (month_lengths leap) ≡ true
unfolding month_lengths
twelve_at_most true = refl
twelve_at_most false = refl

month_at_most : (y m : ℤ) → month_length y m ≤ 31
unfolding month_length
month_at_most y m = each_at_most (lengths_in y) (twelve_at_most (leap_year y)) (nat_abs m - 1)

module _ (n : ℤ) (h : has_date n ≡ true) where
  facts : Valid (date_for n).year (date_for n).month (date_for n).day
  facts = valid_says (date_for n).year (date_for n).month (date_for n).day (date_is_valid n)

  year_in : in_range (pos 1500) (pos 2600) (date_for n).year ≡ true
  year_in = go (in_range (pos 1500) (pos 2600) (date_for n).year) refl
    where
      go : (b : Bool) → in_range (pos 1500) (pos 2600) (date_for n).year ≡ b → b ≡ true
      go true e = refl
      go false e = answer_or_refusal (day_found (date_for n) (record { 0 = n }) (date_is_valid n) h (sym (date_has_number n)) ∙ sym (refused_outside_1500_to_2600 (date_for n) e))

  year_wide : Counted 10000 (date_for n).year
  year_wide = in-column 10000 (pos 1500) (pos 2600) (date_for n).year (in_range_says (pos 1500) (pos 2600) (date_for n).year year_in) (omega ℤ_rules) (omega ℤ_rules)

  month_wide : Counted 100 (date_for n).month
  month_wide = in-column 100 (pos 1) (pos 12) (date_for n).month (facts.month_from, facts.month_to) (omega ℤ_rules) (omega ℤ_rules)

  day_wide : Counted 100 (date_for n).day
  day_wide =
      let most = month_length (date_for n).year (date_for n).month in
      in-column 100 (pos 1) (pos most) (date_for n).day (facts.day_from, facts.day_to) (omega ℤ_rules) (omega (ℤ_rules, month_at_most (date_for n).year (date_for n).month))

-- ---- the handle
handle_wide : (h year : ℤ) (leap place : ℕ) → (pos 1700 ⩽ year) × (year ⩽ pos 2500) → h ≡ handle_at year leap place → Counted 100000 h
unfolding handle_at handle
handle_wide h year leap place range e =
    let n = 2 * number_at leap place + leap_mark leap place in
    let ρ = year ∷ pos n ∷ h ∷ [] in
    let low = ⇓ ρ range.0 (search ring) in
    let high = ⇓ ρ range.1 (search ring) in
    let number = number_small leap place in
    let mark = mark_small leap place in
    counted_in 100000 h (⇑ ρ (search ring depth 9) (omega (arith, ⇓ ρ e (search ring depth 9)))) (⇑ ρ (search ring depth 9) (omega (arith, ⇓ ρ e (search ring depth 9))))

-- ---- each month of a lawful content
pub columns_wide_enough : (c : Content) → lawful c ≡ true → (k : ℕ) → k < month_count c → WideEnough (month_at c.months k)
columns_wide_enough c l k h = record {
  handle = handle_at_lem;
  year = year_wide first has_date_lem;
  month = month_wide first has_date_lem;
  day = day_wide first has_date_lem;
  days = days_at;
}
  where
    r : Rules c
    r = rules c l

    p : Placed c r k
    p = placed c r k h

    first : ℤ
    first = (month_at c.months k).first

    has_date_lem : has_date first ≡ true
    has_date_lem = (dated c r).each k h

    handle_at_lem : Counted 100000 (month_at c.months k).handle
    handle_at_lem =
        let range = year_range c r p.i p.sui_in_lem in
        rw p.is (⊎_elim (λ e. handle_wide _ _ _ _ range e) (λ e. handle_wide _ _ _ _ range e) (handle_is c r p.i p.sui_in_lem p.place p.place_in))

    days_at : Counted 100 (month_at c.months k).length
    days_at = rw p.is (in-column 100 (pos 29) (pos 30) _ (length_range c r p.i p.sui_in_lem p.place p.place_in) (omega ℤ_rules) (omega ℤ_rules))
