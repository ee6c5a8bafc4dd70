-- When the two entry points answer, and when they refuse: a year outside 1500 to 2600 has no day of the range. Assumes nothing.
use Rattle.std.specs.Prelude.{◌+◌, ◌≡◌, refl, Bool, true, false, [], ◌∷◌, pos, negsuc, ◌+ℤ◌, take}
use Rattle.std.proofs.Common.{sym, ap, ◌∙◌, ⊎_elim, arith}
use Rattle.whole.specs.Booleans.{second_fails}
use Rattle.whole.specs.Parts.{◌⩽◌, ◌≺◌}
use Rattle.whole.specs.Solver.{⇑, ⇓, ring}
use Rattle.whole.specs.Tests.{in_range, below_range, above_range, out_of_range}
use Rattle.whole.specs.Floor.{floor_div}
use Rattle.refusals.specs.Verdict.{answered, refused}
use Rattle.dates.specs.declared.Date.{Date}
use Rattle.times.specs.declared.Day.{Day}
use Rattle.dates.specs.Calendar.{leap_years_to, new_year, lengths_in, total, year_length, valid, day_number, date_for}
use Rattle.dates.specs.Answers.{has_date, date_of, day_of}
use Rattle.dates.proofs.theory.Years.{next_year, in_order}
use Rattle.dates.proofs.theory.Days.{placed, number_at, place_within}

-- ---- the date of a day
pub date_refused : (n : Day) → has_date n.0 ≡ false → refused 6 0 ≡ date_of n
unfolding date_of
date_refused n e = rw e

pub date_found : (n : Day) → has_date n.0 ≡ true → answered (date_for n.0) ≡ date_of n
unfolding date_of
date_found n e = rw e

-- ---- the day of a date
pub no_date : (d : Date) → valid d ≡ false → refused 6 0 ≡ day_of d
unfolding day_of
no_date d e = rw e

pub no_day : (d : Date) → has_date (day_number d) ≡ false → refused 6 0 ≡ day_of d
unfolding day_of
no_day d e = rw (second_fails (valid d) (has_date (day_number d)) e)

pub day_found : (d : Date) (n : Day) → valid d ≡ true → has_date n.0 ≡ true → n.0 ≡ day_number d → answered n ≡ day_of d
unfolding day_of
day_found d n v h e = let g : has_date (day_number d) ≡ true = rw (sym e) h in rw (v, g) (ap answered (λ t. record { 0 = e t }))

by_valid : (d : Date) → (valid d ≡ true → has_date (day_number d) ≡ false) → refused 6 0 ≡ day_of d
by_valid d f = go (valid d) refl
  where
    go : (b : Bool) → valid d ≡ b → refused 6 0 ≡ day_of d
    go true e = no_day d (f e)
    go false e = no_date d e

-- ---- a valid date's day lies in its year
pub in_its_year : (d : Date) → valid d ≡ true → (new_year d.year ⩽ day_number d) × (day_number d ≺ new_year (d.year +ℤ pos 1))
in_its_year d v =
    let p = placed d v in
    let y = d.year in
    let k = total (take p.i (lengths_in y)) + p.j in
    let e : day_number d ≡ new_year y +ℤ pos k = ap day_number p.is ∙ number_at y p.i p.j in
    let l = place_within y p.i p.j p.month p.day in
    let ρ = new_year y ∷ day_number d ∷ pos k ∷ new_year (y +ℤ pos 1) ∷ pos (year_length y) ∷ [] in
    (⇑ ρ (search ring) (omega (arith, ⇓ ρ e (search ring))), ⇑ ρ (search ring) (omega (arith, ⇓ ρ e (search ring), ⇓ ρ (next_year y) (search ring))))

year_1500 : new_year (pos 1500) ≡ negsuc 182620
unfolding new_year leap_years_to floor_div
year_1500 = refl

year_2601 : new_year (pos 2601) ≡ pos 219511
unfolding new_year leap_years_to floor_div
year_2601 = refl

-- every date of a year before 1500 has a day before -150,000, and every date of one after 2600 has a day after 200,000
no_day_before_1500 : (d : Date) → valid d ≡ true → d.year ≺ pos 1500 → has_date (day_number d) ≡ false
unfolding has_date
no_day_before_1500 d v before =
    let y = d.year in
    let n = day_number d in
    let ρ = y ∷ [] in
    let o : new_year (y +ℤ pos 1) ⩽ new_year (pos 1500) = in_order (⇑ ρ (search ring) (omega (arith, ⇓ ρ before (search ring)))) in
    let σ = new_year (y +ℤ pos 1) ∷ n ∷ [] in
    below_range (negsuc 149999) (pos 200000) n (⇑ σ (search ring) (omega (arith, ⇓ σ (rw year_1500 at o) (search ring), ⇓ σ (in_its_year d v).1 (search ring))))

no_day_after_2600 : (d : Date) → valid d ≡ true → pos 2600 ≺ d.year → has_date (day_number d) ≡ false
unfolding has_date
no_day_after_2600 d v after =
    let y = d.year in
    let n = day_number d in
    let ρ = y ∷ [] in
    let o : new_year (pos 2601) ⩽ new_year y = in_order (⇑ ρ (search ring) (omega (arith, ⇓ ρ after (search ring)))) in
    let σ = new_year y ∷ n ∷ [] in
    above_range (negsuc 149999) (pos 200000) n (⇑ σ (search ring) (omega (arith, ⇓ σ (rw year_2601 at o) (search ring), ⇓ σ (in_its_year d v).0 (search ring))))

pub refused_outside_1500_to_2600 : (d : Date) → in_range (pos 1500) (pos 2600) d.year ≡ false → refused 6 0 ≡ day_of d
refused_outside_1500_to_2600 d e = by_valid d (λ v. ⊎_elim (λ (h : d.year ≺ pos 1500). no_day_before_1500 d v h) (λ (h : pos 2600 ≺ d.year). no_day_after_2600 d v h) (out_of_range (pos 1500) (pos 2600) d.year e))
