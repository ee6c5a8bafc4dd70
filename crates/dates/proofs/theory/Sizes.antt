-- How large the numbers of dates are. Assumes nothing.
use Rattle.std.specs.Prelude.{ℕ, zero, suc, ◌-◌, ◌<◌, ◌≤◌, ◌≡◌, Bool, true, false, cond, List, [], ◌∷◌, ℤ, pos, negsuc, nat_abs, ◌-ℤ◌, get_or}
use Rattle.std.specs.Int.Signed.{lt_z}
use Rattle.std.proofs.Common.{arith}
use Rattle.whole.specs.Parts.{ℤ_rules}
use Rattle.whole.specs.Laws.{abs_of_nonneg}
use Rattle.whole.specs.Solver.{⇑, ⇓, ring}
use Rattle.whole.specs.Ranges.{Within, within, bounds}
use Rattle.whole.proofs.Floor.{bound_floor}
use Rattle.whole.specs.Tests.{in_range_says}
use Rattle.dates.specs.Calendar.{leap_year, leap_years_to, new_year, month_lengths, lengths_in, total, year_length, year_or_next, year_of, month_length, days_before}
use Rattle.dates.specs.Answers.{has_date}
use Rattle.dates.proofs.theory.Months.{take_below}
use Rattle.dates.proofs.theory.Days.{Valid}

-- ---- months
lengths_small : (leap : Bool) → total (month_lengths leap) < 400
unfolding month_lengths
lengths_small true = omega arith
lengths_small false = omega arith

pub year_sum : (y : ℤ) → year_length y < 400
year_sum y = lengths_small (leap_year y)

one_below_all : (ls : List ℕ) (i : ℕ) → get_or ls i 0 ≤ total ls
one_below_all [] zero = omega arith
one_below_all [] (suc i) = omega arith
one_below_all (l ∷ ls) zero = omega arith
one_below_all (l ∷ ls) (suc i) = omega (arith, one_below_all ls i)

pub month_small : (y : ℤ) (i : ℕ) → get_or (lengths_in y) i 0 < 400
month_small y i = omega (arith, year_sum y, one_below_all (lengths_in y) i)

pub before_small : (y m : ℤ) → Within 400 (pos (days_before y m))
unfolding days_before
before_small y m = record { within = omega (arith, year_sum y, take_below (lengths_in y) (nat_abs m - 1)) }

-- ---- dates
pub day_small : (y m d : ℤ) → Valid y m d → Within 400 d
unfolding month_length
day_small y m d v = record { within = let ρ = d ∷ pos (nat_abs d) ∷ [] in omega (ℤ_rules, month_small y (nat_abs m - 1), abs_of_nonneg {a = d} (⇑ ρ (search ring) (omega (arith, ⇓ ρ v.day_from (search ring)))), v.day_to) }

pub range_small : (n : ℤ) → has_date n ≡ true → Within 200000 n
unfolding has_date
range_small n e =
    let r = in_range_says (negsuc 149999) (pos 200000) n e in
    let ρ = n ∷ [] in
    record { within = ⇑ ρ (search ring) (omega (arith, ⇓ ρ r.0 (search ring), ⇓ ρ r.1 (search ring))) }

pub near_small : (n : ℤ) → Within 200000 n → Within 100000000 (year_or_next n)
unfolding year_or_next
near_small n h = within (search (bounds, bound_floor) depth 9) tt

pub year_small : (n : ℤ) → Within 200000 n → Within 1000000000 (year_of n)
unfolding year_of
year_small n h = go (near_small n h) (lt_z n (new_year (year_or_next n)))
  where
    go : Within 100000000 (year_or_next n) → (b : Bool) → Within 1000000000 (cond b (year_or_next n -ℤ pos 1) (year_or_next n))
    go small true = within (search bounds) tt
    go small false = within (search bounds) tt

-- leap years, and the first of January of a year
pub leap_years_small : (y : ℤ) → Within 2000000000 y → Within 6000000000 (leap_years_to y)
unfolding leap_years_to
leap_years_small y h = within (search (bounds, bound_floor) depth 9) tt

pub new_year_small : (y : ℤ) → Within 1000000000 y → Within 1000000000000 (new_year y)
unfolding new_year
new_year_small y h =
    let before : Within 2000000000 (y -ℤ pos 1) = within (search bounds) tt in
    let leap = leap_years_small (y -ℤ pos 1) before in
    within (search bounds depth 9) tt
