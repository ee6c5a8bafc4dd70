-- The sui of a year keeps every rule of the file that speaks of one sui alone. Assumes nothing.
use Rattle.std.specs.Prelude.{◌≡◌, true, ℕ, suc, ◌+◌, ◌-◌, ◌≤◌, ◌<◌, ℤ, pos, ◌+ℤ◌, ◌-ℤ◌}
use Rattle.std.proofs.Math.Path.{sym, ap}
use Rattle.std.proofs.Common.{◌∙◌, arith, add-one, ltb-false}
use Rattle.std.proofs.lemmas.Bool.{not-false}
use Rattle.whole.specs.Found.{first_below_before}
use Rattle.whole.specs.Parts.{ℤ_rules}
use Rattle.whole.specs.Ranges.{Within}
use Rattle.whole.specs.Tests.{in_range, in_range_says}
use Rattle.refusals.specs.Verdict.{answered, then_answered}
use Rattle.dates.specs.Answers.{has_date}
use Rattle.inputs.specs.Inputs.{Inputs}
use Rattle.inputs.specs.Known.{Known}
use Rattle.months.specs.declared.SuiDays.{SuiDays}
use Rattle.months.specs.declared.Sui.{Sui}
use Rattle.months.specs.Handles.{handle_at, month_of}
use Rattle.months.specs.Months.{by_first, month_count, month_first, month_length, leap_month, month_at, good_length, bad_month, first_bad_month, sui_of}
use Rattle.months.specs.Limits.{year_in_range}
use Rattle.months.proofs.Theorems.{leap_month_stands}
use Rattle.months.proofs.theory.Days.{found_listed, found_months, found_twelve, found_first}
use Rattle.months.proofs.theory.Leap.{leap_of_others}
use Rattle.months.proofs.theory.Listed.{at_most_thirteen}
use Rattle.months.proofs.theory.Suis.{month, no_bad_month, sui_count_lem, month_is, handle_is, first_is, end_is}
use Rattle.sui.specs.Sui.{new_moon_days, zhongqi_days, sui_days, sui_of_year}
use Rattle.sui.proofs.Theorems.{thirteen_zhongqi, new_moon_days_rise}
use Rattle.sui.proofs.theory.Answered.{days_found_lem}
use Rattle.built.specs.theory.Dated.{new_moons_dated, last_day_dated}

-- the rules of one sui; `leap` is the place of its leap month, 12 in a sui of twelve
pub record KeptSui (year : ℤ) (sui : Sui) : Type 0 where
  pub in_range : in_range (pos 1700) (pos 2500) year ≡ true
  pub few : (12 ≤ sui.count) × (sui.count ≤ 13)
  pub leap : ℕ
  pub leap_stands : (0 < leap) × (leap ≤ 12)
  pub none_in_twelve : (sui.count ≡ 13 → ⊥) → sui.count ≡ leap
  pub handles : (place : ℕ) → place < sui.count → (month sui place).handle ≡ handle_at year leap place
  pub lengths : (place : ℕ) → place < sui.count → Rattle.whole.specs.Tests.in_range (pos 29) (pos 30) (month sui place).length ≡ true
  pub meets : (place : ℕ) → suc place < sui.count → (month sui place).first +ℤ (month sui place).length ≡ (month sui (suc place)).first
  pub first_dated : (place : ℕ) → place < sui.count → has_date (month sui place).first ≡ true
  pub last_dated : (place : ℕ) → place < sui.count → has_date ((month sui place).first +ℤ (month sui place).length -ℤ pos 1) ≡ true

-- a month of the sui is 29 or 30 days
length_good : (year : ℤ) (days : SuiDays) {sui : Sui} → sui_of year days ≡ answered sui → (place : ℕ) → place < sui.count → in_range (pos 29) (pos 30) (month sui place).length ≡ true
unfolding first_bad_month bad_month good_length month_length month_at month_of
length_good year days e place h =
    let count = sui_count_lem year days e in
    let none = ltb-false (first_bad_month days) days.months (no_bad_month year days e) in
    let good = not-false (good_length (month_length days place)) (first_below_before (bad_month days) days.months place (omega arith)) in
    rw (month_is year days e place h) good

module _ (i : Inputs) (zone : ℤ) (known : Known i) (small : Within 1000 zone) (year : ℤ) {sui : Sui} (e : sui_of_year i zone year ≡ answered sui) where
  made : (days : SuiDays) × (sui_days i zone year ≡ answered days) × (sui_of year days ≡ answered sui)
  made = then_answered (sui_days i zone year) (sui_of year) sui e

  -- each new moon of the sui, and that of the next month 11, has a date
  firsts_dated : (days : SuiDays) → sui_days i zone year ≡ answered days → (place : ℕ) → place ≤ days.months → has_date (month_first days place) ≡ true
  unfolding month_count
  firsts_dated days f place h =
      let found = days_found_lem i zone year f in
      let moons = new_moon_days i zone in
      let zhongqi = zhongqi_days i zone found.first found.last in
      let listed = found_listed moons zhongqi found.by_rule in
      let count = found_months moons zhongqi found.by_rule in
      let few = at_most_thirteen days.months (found_twelve moons zhongqi found.by_rule) in
      rw (found_first moons zhongqi found.by_rule place h) (new_moons_dated i zone known small (by_first moons zhongqi - 1 + place) (omega arith))

  pub kept : KeptSui year sui
  unfolding year_in_range
  kept =
      let days = made.0 in
      let f = made.2 in
      let found = days_found_lem i zone year made.1 in
      let moons = new_moon_days i zone in
      let zhongqi = zhongqi_days i zone found.first found.last in
      let count = sui_count_lem year days f in
      record {
        in_range = found.in_range;
        few = let n = at_most_thirteen days.months (found_twelve moons zhongqi found.by_rule) in omega arith;
        leap = leap_month days;
        leap_stands = leap_month_stands moons zhongqi (new_moon_days_rise i zone known) (thirteen_zhongqi i zone known year found.is_first found.is_last) found.by_rule;
        none_in_twelve = λ other. let is = leap_of_others days (λ q. other (sym count ∙ q)) in sym count ∙ is;
        handles = handle_is year days f;
        lengths = length_good year days f;
        meets = λ place h. end_is year days f place (omega arith) ∙ ap (month_first days) (add-one place) ∙ sym (first_is year days f (suc place) h);
        first_dated = λ place h. rw (first_is year days f place h) (firsts_dated days made.1 place (omega arith));
        last_dated = λ place h. last_day_dated (month sui place).first (month sui place).length
            (let long = (in_range_says (pos 29) (pos 30) (month sui place).length (length_good year days f place h)).0 in omega ℤ_rules)
            (rw (first_is year days f place h) (firsts_dated days made.1 place (omega arith)))
            (rw (end_is year days f place h) (firsts_dated days made.1 (place + 1) (omega arith)));
      }
