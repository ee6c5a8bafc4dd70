-- Where years begin: a year begins its own length before the next, and the year of a day is the one in which it lies. Assumes nothing.
use Rattle.std.specs.Prelude.{ℕ, ◌-◌, ◌<◌, ◌≡◌, Bool, true, false, not, cond, ◌&&◌, ◌||◌, ℤ, ◌+ℤ◌, ◌-ℤ◌, ◌*ℤ◌, ◌≤ℤ◌, ◌<ℤ◌}
use Rattle.std.proofs.Math.Path.{refl}
use Rattle.std.proofs.Common.{ap, ◌∙◌, subst, ⊎_elim, eqb-true, eq-eqb, arith}
use mathlib.Core.List.{List, [], ◌∷◌}
use Rattle.std.proofs.Math.IntN.{pos}
use Rattle.std.specs.Int.Signed.{lt_z}
use Rattle.std.proofs.lemmas.Bool.{eqb-false}
use Rattle.whole.specs.Booleans.{not_both}
use Rattle.whole.specs.Parts.{◌⩽◌, ◌≺◌}
use Rattle.whole.specs.Laws.{≤_total, ≤_antisymm, ≤_of-≡}
use Rattle.whole.specs.Solver.{⇑, ⇓, ring, lt_yes, lt_no}
use Rattle.whole.specs.Floor.{floor_div, floor_mod}
use Rattle.whole.proofs.Floor.{floor_div_floor_mod, floor_mod_lt, floor_div_low, floor_div_high, floor_div_unique, floor_mod_unique}
use Rattle.dates.specs.Calendar.{divides, leap_year, leap_years_to, new_year, month_lengths, total, year_length, year_or_next, year_of}

-- ---- how many multiples of m there are: one more at y exactly where m divides y
at_multiple : (y : ℤ) (m : ℕ) → 0 < m → divides m y ≡ true → floor_div (y -ℤ pos 1) m ≡ floor_div y m -ℤ pos 1
at_multiple y m h e = floor_div_unique (y -ℤ pos 1) (floor_div y m -ℤ pos 1) m (m - 1) (omega arith) (⇑ ρ (search ring depth 9) (omega (arith, ⇓ ρ (floor_div_floor_mod y m h) (search ring), eqb-true (floor_mod y m) 0 e)))
  where
    ρ : List ℤ
    ρ = y ∷ floor_div y m ∷ pos m ∷ pos (floor_mod y m) ∷ pos (m - 1) ∷ []

elsewhere : (y : ℤ) (m : ℕ) → 0 < m → divides m y ≡ false → floor_div (y -ℤ pos 1) m ≡ floor_div y m
elsewhere y m h e = let no = eqb-false (floor_mod y m) 0 e in floor_div_unique (y -ℤ pos 1) (floor_div y m) m (floor_mod y m - 1) (omega (arith, floor_mod_lt y m h)) (⇑ ρ (search ring depth 9) (omega (arith, ⇓ ρ (floor_div_floor_mod y m h) (search ring), no)))
  where
    ρ : List ℤ
    ρ = y ∷ floor_div y m ∷ pos m ∷ pos (floor_mod y m) ∷ pos (floor_mod y m - 1) ∷ []

century_is_fourth : (y : ℤ) → divides 100 y ≡ true → divides 4 y ≡ true
century_is_fourth y e = eq-eqb (floor_mod y 4) 0 (floor_mod_unique y (pos 25 *ℤ floor_div y 100) 4 0 (omega arith) (⇑ ρ (search ring depth 9) (omega (arith, ⇓ ρ (floor_div_floor_mod y 100 (omega arith)) (search ring), eqb-true (floor_mod y 100) 0 e))))
  where
    ρ : List ℤ
    ρ = y ∷ floor_div y 100 ∷ pos (floor_mod y 100) ∷ []

fourth_is_century : (y : ℤ) → divides 400 y ≡ true → divides 100 y ≡ true
fourth_is_century y e = eq-eqb (floor_mod y 100) 0 (floor_mod_unique y (pos 4 *ℤ floor_div y 400) 100 0 (omega arith) (⇑ ρ (search ring depth 9) (omega (arith, ⇓ ρ (floor_div_floor_mod y 400 (omega arith)) (search ring), eqb-true (floor_mod y 400) 0 e))))
  where
    ρ : List ℤ
    ρ = y ∷ floor_div y 400 ∷ pos (floor_mod y 400) ∷ []

counts_on : (y : ℤ) (b4 b100 b400 : Bool) → divides 4 y ≡ b4 → divides 100 y ≡ b100 → divides 400 y ≡ b400
    → leap_years_to y ≡ leap_years_to (y -ℤ pos 1) +ℤ cond (b4 && (not b100 || b400)) (pos 1) (pos 0)
unfolding leap_years_to
counts_on y true true true p q r = let ρ = floor_div y 4 ∷ floor_div y 100 ∷ floor_div y 400 ∷ [] in rw (at_multiple y 4 (omega arith) p, at_multiple y 100 (omega arith) q, at_multiple y 400 (omega arith) r) (⇑ ρ (search ring depth 12) refl)
counts_on y true true false p q r = let ρ = floor_div y 4 ∷ floor_div y 100 ∷ floor_div y 400 ∷ [] in rw (at_multiple y 4 (omega arith) p, at_multiple y 100 (omega arith) q, elsewhere y 400 (omega arith) r) (⇑ ρ (search ring depth 12) refl)
counts_on y true false true p q r = not_both (fourth_is_century y r) q
counts_on y true false false p q r = let ρ = floor_div y 4 ∷ floor_div y 100 ∷ floor_div y 400 ∷ [] in rw (at_multiple y 4 (omega arith) p, elsewhere y 100 (omega arith) q, elsewhere y 400 (omega arith) r) (⇑ ρ (search ring depth 12) refl)
counts_on y false true true p q r = not_both (century_is_fourth y q) p
counts_on y false true false p q r = not_both (century_is_fourth y q) p
counts_on y false false true p q r = not_both (fourth_is_century y r) q
counts_on y false false false p q r = let ρ = floor_div y 4 ∷ floor_div y 100 ∷ floor_div y 400 ∷ [] in rw (elsewhere y 4 (omega arith) p, elsewhere y 100 (omega arith) q, elsewhere y 400 (omega arith) r) (⇑ ρ (search ring depth 12) refl)

pub leap_counts : (y : ℤ) → leap_years_to y ≡ leap_years_to (y -ℤ pos 1) +ℤ cond (leap_year y) (pos 1) (pos 0)
unfolding leap_year
leap_counts y = counts_on y (divides 4 y) (divides 100 y) (divides 400 y) refl refl refl

-- ---- the next year begins a year's length later
lengths_total : (leap : Bool) → pos (total (month_lengths leap)) ≡ pos 365 +ℤ cond leap (pos 1) (pos 0)
unfolding month_lengths
lengths_total true = refl
lengths_total false = refl

pub next_year : (y : ℤ) → new_year (y +ℤ pos 1) ≡ new_year y +ℤ pos (year_length y)
unfolding new_year
next_year y = rw (lengths_total (leap_year y)) (go (leap_years_to (y +ℤ pos 1 -ℤ pos 1)) (ap leap_years_to back ∙ leap_counts y))
  where
    back : y +ℤ pos 1 -ℤ pos 1 ≡ y
    back = ⇑ (y ∷ []) (search ring depth 9) refl

    go : (l : ℤ) → l ≡ leap_years_to (y -ℤ pos 1) +ℤ cond (leap_year y) (pos 1) (pos 0)
        → pos 365 *ℤ (y +ℤ pos 1 -ℤ pos 2000) +ℤ l -ℤ pos 484 ≡ pos 365 *ℤ (y -ℤ pos 2000) +ℤ leap_years_to (y -ℤ pos 1) -ℤ pos 484 +ℤ (pos 365 +ℤ cond (leap_year y) (pos 1) (pos 0))
    go l e = let ρ = y ∷ l ∷ leap_years_to (y -ℤ pos 1) ∷ cond (leap_year y) (pos 1) (pos 0) ∷ [] in ⇑ ρ (search ring depth 12) (omega (arith, ⇓ ρ e (search ring)))

-- ---- 400 times the first day of a year is 146,097 times the years since 2000, but for at most 699
module _ (y : ℤ) where
  low : pos 146097 *ℤ (y -ℤ pos 2000) -ℤ pos 396 ⩽ pos 400 *ℤ new_year y
  unfolding new_year leap_years_to
  low =
      let ρ = y ∷ floor_div (y -ℤ pos 1) 4 ∷ floor_div (y -ℤ pos 1) 100 ∷ floor_div (y -ℤ pos 1) 400 ∷ [] in
      let h4 = ⇓ ρ (floor_div_high (y -ℤ pos 1) 4 (omega arith)) (search ring depth 9) in
      let l100 = ⇓ ρ (floor_div_low (y -ℤ pos 1) 100 (omega arith)) (search ring depth 9) in
      let h400 = ⇓ ρ (floor_div_high (y -ℤ pos 1) 400 (omega arith)) (search ring depth 9) in
      ⇑ ρ (search ring depth 12) (omega arith)

  high : pos 400 *ℤ new_year y ⩽ pos 146097 *ℤ (y -ℤ pos 2000) +ℤ pos 699
  unfolding new_year leap_years_to
  high =
      let ρ = y ∷ floor_div (y -ℤ pos 1) 4 ∷ floor_div (y -ℤ pos 1) 100 ∷ floor_div (y -ℤ pos 1) 400 ∷ [] in
      let l4 = ⇓ ρ (floor_div_low (y -ℤ pos 1) 4 (omega arith)) (search ring depth 9) in
      let h100 = ⇓ ρ (floor_div_high (y -ℤ pos 1) 100 (omega arith)) (search ring depth 9) in
      let l400 = ⇓ ρ (floor_div_low (y -ℤ pos 1) 400 (omega arith)) (search ring depth 9) in
      ⇑ ρ (search ring depth 12) (omega arith)

-- years begin in order
pub in_order : {y z : ℤ} → y ⩽ z → new_year y ⩽ new_year z
in_order {y} {z} h = ⊎_elim (λ (k : z ≤ℤ y). ≤_of-≡ (ap new_year (≤_antisymm h k))) (λ (k : y <ℤ z). let ρ = y ∷ z ∷ new_year y ∷ new_year z ∷ [] in ⇑ ρ (search ring) (omega (arith, ⇓ ρ k (search ring), ⇓ ρ (high y) (search ring depth 9), ⇓ ρ (low z) (search ring depth 9)))) (≤_total z y)

-- ---- the year of a day
-- the year_or_next is the year or the one after it
module _ (n : ℤ) where
  not_late : new_year (year_or_next n -ℤ pos 1) ⩽ n
  unfolding year_or_next
  not_late =
      let q = floor_div (pos 400 *ℤ n +ℤ pos 396) 146097 in
      let ρ = n ∷ q ∷ new_year (pos 2000 +ℤ q -ℤ pos 1) ∷ [] in
      ⇑ ρ (search ring) (omega (arith, ⇓ ρ (floor_div_low (pos 400 *ℤ n +ℤ pos 396) 146097 (omega arith)) (search ring depth 9), ⇓ ρ (high (pos 2000 +ℤ q -ℤ pos 1)) (search ring depth 12)))

  not_early : n ≺ new_year (year_or_next n +ℤ pos 1)
  unfolding year_or_next
  not_early =
      let q = floor_div (pos 400 *ℤ n +ℤ pos 396) 146097 in
      let ρ = n ∷ q ∷ new_year (pos 2000 +ℤ q +ℤ pos 1) ∷ [] in
      ⇑ ρ (search ring) (omega (arith, ⇓ ρ (floor_div_high (pos 400 *ℤ n +ℤ pos 396) 146097 (omega arith)) (search ring depth 9), ⇓ ρ (low (pos 2000 +ℤ q +ℤ pos 1)) (search ring depth 12)))

  picked : (b : Bool) → lt_z n (new_year (year_or_next n)) ≡ b → (new_year (cond b (year_or_next n -ℤ pos 1) (year_or_next n)) ⩽ n) × (n ≺ new_year (cond b (year_or_next n -ℤ pos 1) (year_or_next n) +ℤ pos 1))
  picked true e = (not_late, subst (λ (y : ℤ). n ≺ new_year y) (⇑ (year_or_next n ∷ []) (search ring depth 9) refl) (lt_yes e))
  picked false e = (lt_no e, not_early)

  -- day n lies in the year found
  pub year_found : (new_year (year_of n) ⩽ n) × (n ≺ new_year (year_of n +ℤ pos 1))
  unfolding year_of
  year_found = picked (lt_z n (new_year (year_or_next n))) refl

-- a day lies in one year only
pub one_year : {n y z : ℤ} → new_year y ⩽ n → n ≺ new_year (z +ℤ pos 1) → y ⩽ z
one_year {n} {y} {z} h k = ⊎_elim (λ (l : y ≤ℤ z). l) (λ (l : z <ℤ y). absurd (go l)) (≤_total y z)
  where
    go : z <ℤ y → ⊥
    go l =
        let ρ = y ∷ z ∷ [] in
        let o = in_order {y = z +ℤ pos 1} {z = y} (⇑ ρ (search ring) (omega (arith, ⇓ ρ l (search ring)))) in
        let σ = n ∷ new_year y ∷ new_year (z +ℤ pos 1) ∷ [] in
        omega (arith, ⇓ σ o (search ring), ⇓ σ h (search ring), ⇓ σ k (search ring))

pub year_unique : {n y : ℤ} → new_year y ⩽ n → n ≺ new_year (y +ℤ pos 1) → year_of n ≡ y
year_unique {n} {y} h k = ≤_antisymm (one_year (year_found n).0 k) (one_year h (year_found n).1)
