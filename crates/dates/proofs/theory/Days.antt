-- Days of a year: a date is its year and how many days of that year are over, and the other way round. Assumes nothing.
use Rattle.std.specs.Prelude.{ℕ, zero, suc, ◌+◌, ◌-◌, ◌<◌, ◌≡◌, Bool, true, false, ℤ, negsuc, ◌+ℤ◌, ◌-ℤ◌, ◌≤ℤ◌, length, get_or, take}
use Rattle.std.proofs.Math.Path.{refl, ap}
use Rattle.std.proofs.Common.{◌∙◌}
use mathlib.Core.List.{[], ◌∷◌}
use Rattle.std.proofs.Math.IntN.{pos, nat_abs}
use native.Mathlib.Omega.{arith}
use Rattle.whole.specs.Booleans.{both, both_hold}
use Rattle.whole.specs.Tests.{in_range, in_range_says, says_in_range}
use Rattle.whole.specs.Parts.{ℤ_rules, ≤→, ≡→, ◌⩽◌, ◌≺◌}
use Rattle.whole.specs.Laws.{abs_of_nonneg}
use Rattle.whole.specs.Solver.{⇑, ⇓, ring}
use Rattle.dates.specs.declared.Date.{Date}
use Rattle.dates.specs.Calendar.{leap_year, new_year, month_lengths, lengths_in, total, year_length, year_of, month_length, days_before, months_over, valid_date, number_of, valid, day_number, date_in_year, date_for}
use Rattle.dates.proofs.theory.Years.{next_year, year_found, year_unique}
use Rattle.dates.proofs.theory.Months.{InMonth, month_found, month_unique, within_all}

-- ---- what `valid` says
pub record Valid (y m d : ℤ) : Type 0 where
  pub month_from : pos 1 ⩽ m
  pub month_to : m ⩽ pos 12
  pub day_from : pos 1 ⩽ d
  pub day_to : d ⩽ pos (month_length y m)

pub valid_says : (y m d : ℤ) → valid_date y m d ≡ true → Valid y m d
unfolding valid_date
valid_says y m d e =
    let b = both (in_range (pos 1) (pos 12) m) (in_range (pos 1) (pos (month_length y m)) d) e in
    let month = in_range_says (pos 1) (pos 12) m b.0 in
    let day = in_range_says (pos 1) (pos (month_length y m)) d b.1 in
    record { month_from = month.0; month_to = month.1; day_from = day.0; day_to = day.1 }

pub says_valid : {y m d : ℤ} → Valid y m d → valid_date y m d ≡ true
unfolding valid_date
says_valid {y} {m} {d} v =
    both_hold (in_range (pos 1) (pos 12) m) (in_range (pos 1) (pos (month_length y m)) d)
    (says_in_range (pos 1) (pos 12) m v.month_from v.month_to)
    (says_in_range (pos 1) (pos (month_length y m)) d v.day_from v.day_to)

-- ---- months by their place in the list
pub twelve : (leap : Bool) → length (month_lengths leap) ≡ 12
unfolding month_lengths
twelve true = refl
twelve false = refl

pub length_at : (y : ℤ) (i : ℕ) → month_length y (pos (suc i)) ≡ get_or (lengths_in y) i 0
unfolding month_length
length_at y i = let e : suc i - 1 ≡ i = omega arith in ap (λ (j : ℕ). get_or (lengths_in y) j 0) e

pub before_at : (y : ℤ) (i : ℕ) → days_before y (pos (suc i)) ≡ total (take i (lengths_in y))
unfolding days_before
before_at y i = let e : suc i - 1 ≡ i = omega arith in ap (λ (j : ℕ). total (take j (lengths_in y))) e

-- a number that is not below 1 is one more than a count
pub from_one : (z : ℤ) → pos 1 ⩽ z → z ≡ pos (suc (nat_abs z - 1))
from_one (pos zero) h = absurd (omega ℤ_rules)
from_one (pos (suc n)) h = ap (λ (i : ℕ). pos (suc i)) (omega arith)
from_one (negsuc n) h = absurd (omega ℤ_rules)

pub number_at : (y : ℤ) (i j : ℕ) → number_of y (pos (suc i)) (pos (suc j)) ≡ new_year y +ℤ pos (total (take i (lengths_in y)) + j)
unfolding number_of
number_at y i j = let ρ = new_year y ∷ pos (total (take i (lengths_in y))) ∷ pos j ∷ pos (suc j) ∷ [] in rw (before_at y i) (⇑ ρ (search ring depth 9) (omega arith))

-- ---- the date when k days of year y are over
module _ (y : ℤ) (k : ℕ) (h : k < year_length y) where
  here : InMonth (lengths_in y) k (months_over (lengths_in y) k)
  here = month_found (lengths_in y) k h

  pub number_in_year : day_number (date_in_year y k) ≡ new_year y +ℤ pos k
  unfolding date_in_year
  number_in_year =
      let over = months_over (lengths_in y) k in
      let e : total (take over (lengths_in y)) + (k - total (take over (lengths_in y))) ≡ k = omega (arith, here) in
      number_at y over (k - total (take over (lengths_in y))) ∙ ap (λ (t : ℕ). new_year y +ℤ pos t) e

  facts : Valid (date_in_year y k).year (date_in_year y k).month (date_in_year y k).day
  unfolding date_in_year
  facts =
      let over = months_over (lengths_in y) k in
      let t = twelve (leap_year y) in
      record { month_from = omega ℤ_rules; month_to = omega (ℤ_rules, here); day_from = omega ℤ_rules; day_to = rw (length_at y over) (omega (ℤ_rules, here)) }

  pub valid_in_year : valid (date_in_year y k) ≡ true
  valid_in_year = says_valid facts

  -- k days after the first of January
  pub date_in_year_lem : date_for (new_year y +ℤ pos k) ≡ date_in_year y k
  unfolding date_for
  date_in_year_lem = rw (year_unique {n = new_year y +ℤ pos k} {y = y} from to) (ap (date_in_year y) over)
    where
      from : new_year y ⩽ new_year y +ℤ pos k
      from = let ρ = new_year y ∷ pos k ∷ [] in ⇑ ρ (search ring) (omega arith)

      to : new_year y +ℤ pos k ≺ new_year (y +ℤ pos 1)
      to = rw (next_year y) (let ρ = new_year y ∷ pos k ∷ pos (year_length y) ∷ [] in ⇑ ρ (search ring) (omega arith))

      over : nat_abs (new_year y +ℤ pos k -ℤ new_year y) ≡ k
      over = ap nat_abs (let ρ = new_year y ∷ pos k ∷ [] in ⇑ ρ {A = new_year y +ℤ pos k -ℤ new_year y ≡ pos k} (search ring depth 9) refl)

-- ---- any day lies k days after the first of January of its year
module _ (n : ℤ) where
  unfoldable pub days_over : ℕ
  days_over = nat_abs (n -ℤ new_year (year_of n))

  pub day_is_lem : n ≡ new_year (year_of n) +ℤ pos days_over
  unfolding days_over
  day_is_lem = let ρ = n ∷ new_year (year_of n) ∷ pos (nat_abs (n -ℤ new_year (year_of n))) ∷ [] in ⇑ ρ (search ring) (omega (arith, ⇓ ρ (abs_of_nonneg (⇑ ρ {A = pos 0 ≤ℤ (n -ℤ new_year (year_of n))} (search ring) (omega (arith, ⇓ ρ (year_found n).0 (search ring))))) (search ring)))

  pub day_within : days_over < year_length (year_of n)
  day_within = let ρ = n ∷ new_year (year_of n) ∷ pos days_over ∷ pos (year_length (year_of n)) ∷ [] in omega (arith, ⇓ ρ day_is_lem (search ring), ⇓ ρ (rw (next_year (year_of n)) at (year_found n).1) (search ring))

  pub date_is : date_for n ≡ date_in_year (year_of n) days_over
  unfolding date_for days_over
  date_is = refl

-- ---- a valid date is a place in the list of its year's months, and a place in that month
abbrev pub date_at : ℤ → ℕ → ℕ → Date
date_at y i j = record { year = y; month = pos (suc i); day = pos (suc j) }

module _ (y : ℤ) (i j : ℕ) (hi : i < length (lengths_in y)) (hj : j < get_or (lengths_in y) i 0) where
  pub place_within : total (take i (lengths_in y)) + j < year_length y
  place_within = within_all (lengths_in y) i j hi hj

  pub date_at_lem : date_in_year y (total (take i (lengths_in y)) + j) ≡ date_at y i j
  unfolding date_in_year
  date_at_lem = let e : total (take i (lengths_in y)) + j - total (take i (lengths_in y)) ≡ j = omega arith in rw (month_unique (lengths_in y) i j hi hj, e)

pub record Placed (d : Date) : Type 0 where
  pub i : ℕ
  pub j : ℕ
  pub month : i < length (lengths_in d.year)
  pub day : j < get_or (lengths_in d.year) i 0
  pub is : d ≡ date_at d.year i j

module _ (d : Date) (v : valid d ≡ true) where
  facts_of : Valid d.year d.month d.day
  facts_of = valid_says d.year d.month d.day v

  month_is : d.month ≡ pos (suc (nat_abs d.month - 1))
  month_is = from_one d.month facts_of.month_from

  day_of_month_is : d.day ≡ pos (suc (nat_abs d.day - 1))
  day_of_month_is = from_one d.day facts_of.day_from

  pub placed : Placed d
  unfolding month_length
  placed =
      record {
        i = nat_abs d.month - 1;
        j = nat_abs d.day - 1;
        month = omega (arith, ≡→ month_is, ≤→ facts_of.month_to, twelve (leap_year d.year));
        day = omega (arith, ≡→ day_of_month_is, ≤→ facts_of.day_to);
        is = λ t. record { year = d.year; month = month_is t; day = day_of_month_is t };
      }
