-- The date after a date has the next number: inside a month, from month to month, from year to year. Assumes nothing.
use Rattle.std.specs.Prelude.{ℕ, suc, ◌+◌, ◌<◌, ◌≡◌, refl, Bool, true, false, cond, [], ◌∷◌, ℤ, pos, ◌+ℤ◌, length, get_or, take}
use Rattle.std.proofs.Common.{sym, ap, ◌∙◌, arith}
use Rattle.std.specs.Int.Signed.{lt_z}
use Rattle.whole.specs.Parts.{ℤ_rules, ◌⩽◌}
use Rattle.whole.specs.Solver.{⇑, ⇓, ring, lt_no}
use Rattle.dates.specs.Calendar.{leap_year, new_year, lengths_in, total, year_length, month_length, days_before, number_of, day_number, date_after}
use Rattle.dates.proofs.theory.Years.{next_year}
use Rattle.dates.proofs.theory.Months.{take_next, take_all}
use Rattle.dates.proofs.theory.Days.{date_at, number_at, length_at, twelve}

same_month : (y m d : ℤ) → number_of y m (d +ℤ pos 1) ≡ number_of y m d +ℤ pos 1
unfolding number_of
same_month y m d = let ρ = new_year y ∷ pos (days_before y m) ∷ d ∷ [] in ⇑ ρ (search ring depth 12) (omega arith)

module _ (y : ℤ) (i j : ℕ) (hi : i < length (lengths_in y)) (last : get_or (lengths_in y) i 0 ≡ suc j) where
  over : total (take (suc i) (lengths_in y)) + 0 ≡ total (take i (lengths_in y)) + j + 1
  over = omega (arith, take_next (lengths_in y) i hi)

  next_month : number_of y (pos (suc i) +ℤ pos 1) (pos 1) ≡ number_of y (pos (suc i)) (pos (suc j)) +ℤ pos 1
  next_month =
      let m : suc i + 1 ≡ suc (suc i) = omega arith in
      let ρ = new_year y ∷ pos (total (take i (lengths_in y)) + j) ∷ [] in
      ap (λ (t : ℕ). number_of y (pos t) (pos 1)) m
      ∙ number_at y (suc i) 0
      ∙ ap (λ (t : ℕ). new_year y +ℤ pos t) over
      ∙ ⇑ ρ {A = new_year y +ℤ pos (total (take i (lengths_in y)) + j + 1) ≡ new_year y +ℤ pos (total (take i (lengths_in y)) + j) +ℤ pos 1} (search ring depth 9) (omega arith)
      ∙ ap (λ (z : ℤ). z +ℤ pos 1) (sym (number_at y i j))

  new_year_lem : suc i ≡ length (lengths_in y) → number_of (y +ℤ pos 1) (pos 1) (pos 1) ≡ number_of y (pos (suc i)) (pos (suc j)) +ℤ pos 1
  new_year_lem all =
      let ρ = new_year (y +ℤ pos 1) ∷ new_year y ∷ pos (year_length y) ∷ pos (total (take i (lengths_in y)) + j) ∷ [] in
      let e : year_length y ≡ total (take i (lengths_in y)) + j + 1 = sym (take_all (lengths_in y)) ∙ ap (λ (t : ℕ). total (take t (lengths_in y))) (sym all) ∙ omega (arith, over) in
      number_at (y +ℤ pos 1) 0 0
      ∙ ⇑ ρ {A = new_year (y +ℤ pos 1) +ℤ pos 0 ≡ new_year y +ℤ pos (total (take i (lengths_in y)) + j) +ℤ pos 1} (search ring depth 9) (omega (arith, ⇓ ρ (next_year y) (search ring)))
      ∙ ap (λ (z : ℤ). z +ℤ pos 1) (sym (number_at y i j))

pub next_at : (y : ℤ) (i j : ℕ) → i < length (lengths_in y) → j < get_or (lengths_in y) i 0 → day_number (date_after (date_at y i j)) ≡ day_number (date_at y i j) +ℤ pos 1
unfolding date_after
next_at y i j hi hj = go (lt_z (pos (suc j)) (pos (month_length y (pos (suc i))))) (lt_z (pos (suc i)) (pos 12)) refl refl
  where
    go : (inside before : Bool) → lt_z (pos (suc j)) (pos (month_length y (pos (suc i)))) ≡ inside → lt_z (pos (suc i)) (pos 12) ≡ before
        → day_number (cond inside (record { year = y; month = pos (suc i); day = pos (suc j) +ℤ pos 1 }) (cond before (record { year = y; month = pos (suc i) +ℤ pos 1; day = pos 1 }) (record { year = y +ℤ pos 1; month = pos 1; day = pos 1 })))
        ≡ number_of y (pos (suc i)) (pos (suc j)) +ℤ pos 1
    go true before p q = same_month y (pos (suc i)) (pos (suc j))
    go false true p q = let over : pos (month_length y (pos (suc i))) ⩽ pos (suc j) = lt_no p in next_month y i j hi (omega (ℤ_rules, length_at y i))
    go false false p q =
        let over : pos (month_length y (pos (suc i))) ⩽ pos (suc j) = lt_no p in
        let december : pos 12 ⩽ pos (suc i) = lt_no q in
        new_year_lem y i j hi (omega (ℤ_rules, length_at y i)) (omega (ℤ_rules, twelve (leap_year y)))
