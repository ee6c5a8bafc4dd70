-- The parts of judging a sui and a month, test after test, as the leaves make them. Assumes nothing.
use Rattle.std.specs.Prelude.{◌≡◌, Bool, ◌||◌, Some, None, ℕ, zero, suc, ◌+◌, ◌*◌, ◌-◌, ◌≤◌, ◌<◌, eqb, leb, ℤ, ◌+ℤ◌, ◌-ℤ◌, ◌*ℤ◌}
use Rattle.std.proofs.Math.Path.{refl, sym, ap}
use Rattle.std.proofs.Common.{ap₂, ◌∙◌, mod-lt}
use Rattle.std.proofs.Math.Bool.{true, false}
use mathlib.Core.List.{List, [], ◌∷◌}
use native.Mathlib.Omega.{arith}
use Rattle.std.proofs.Math.Decide.{dec_lt}
use borrow.Author.Tests.{eq-eqb, ne_eqb, eqb-true, eqb-false, le-leb, lt-leb}
use Rattle.std.proofs.Math.IntN.{pos}
use Rattle.whole.specs.Solver.{⇑, ⇓, ring}
use Rattle.whole.specs.Booleans.{both, none_of, first_holds, second_decides}
use Rattle.whole.specs.Floor.{floor_mod}
use Rattle.whole.proofs.Floor.{floor_mod_unique}
use mir.Syntax.{w64}
use mir.Val.{SFits, of_z}
use Rattle.whole.specs.Ranges.{Within, of_z_inj}
use Rattle.whole.specs.Tests.{in_range, is_exactly, in_range_says, exactly_says, says_exactly}
use Rattle.dates.specs.Answers.{has_date}
use Rattle.months.specs.Handles.{ordinal, handle, handle_at}
use Rattle.months.proofs.theory.Numbering.{before_leap, from_leap, at_leap, not_at_leap}
use Rattle.content.specs.Content.{month_at, good_handle, good_start}
use Rattle.content.specs.Steps.{sui_after, days_after, ordinary, handle_after, leap_handle, walked_on}

-- ---- a comparison by `==`, which is one of bits
module _ (wanted z : ℤ) where
  pub same_bits : SFits w64 wanted → SFits w64 z → of_z w64 z ≡ of_z w64 wanted → is_exactly wanted z ≡ true
  same_bits f g e = says_exactly wanted z (of_z_inj g f e)

  pub other_bits : (of_z w64 z ≡ of_z w64 wanted → ⊥) → is_exactly wanted z ≡ false
  other_bits n = go (is_exactly wanted z) refl
    where
      go : (b : Bool) → is_exactly wanted z ≡ b → b ≡ false
      go true e = absurd (n (ap (of_z w64) (exactly_says wanted z e)))
      go false e = refl

  pub by_bits : SFits w64 wanted → SFits w64 z → eqb (of_z w64 z) (of_z w64 wanted) ≡ is_exactly wanted z
  by_bits f g = go (eqb (of_z w64 z) (of_z w64 wanted)) refl
    where
      go : (b : Bool) → eqb (of_z w64 z) (of_z w64 wanted) ≡ b → b ≡ is_exactly wanted z
      go true e = sym (same_bits f g (eqb-true _ _ e))
      go false e = sym (other_bits (λ q. eqb-false _ _ e q))

-- ---- a sui
module _ (due year count : ℤ) where
  pub year_out : in_range (pos 1700) (pos 2500) year ≡ false → false ≡ sui_after due year count
  unfolding sui_after
  year_out e = rw e

  pub year_not_due : in_range (pos 1700) (pos 2500) year ≡ true → is_exactly due year ≡ false → false ≡ sui_after due year count
  unfolding sui_after
  year_not_due e f = rw (e, f)

  pub count_decides : in_range (pos 1700) (pos 2500) year ≡ true → is_exactly due year ≡ true → in_range (pos 12) (pos 13) count ≡ sui_after due year count
  unfolding sui_after
  count_decides e f = rw (e, f)

-- ---- the days of a month
module _ (due first length : ℤ) where
  pub not_due : is_exactly due first ≡ false → false ≡ days_after due first length
  unfolding days_after
  not_due e = rw e

  pub length_bad : is_exactly due first ≡ true → in_range (pos 29) (pos 30) length ≡ false → false ≡ days_after due first length
  unfolding days_after
  length_bad e f = rw (e, f)

  pub last_decides : is_exactly due first ≡ true → in_range (pos 29) (pos 30) length ≡ true → has_date (first +ℤ length -ℤ pos 1) ≡ days_after due first length
  unfolding days_after
  last_decides e f = rw (e, f)

  -- days that are good are small
  pub days_say : Within 1000000 due → days_after due first length ≡ true → (Within 1000000 first) × (Within 30 length)
  unfolding days_after
  days_say small e =
      let a = both (is_exactly due first) _ e in
      let r = in_range_says (pos 29) (pos 30) length (both (in_range (pos 29) (pos 30) length) (has_date (first +ℤ length -ℤ pos 1)) a.1).0 in
      let ρ = length ∷ [] in
      (rw (exactly_says due first a.0) small, record { within = ⇑ ρ (search ring) (omega (arith, ⇓ ρ r.0 (search ring), ⇓ ρ r.1 (search ring))) })

-- the first month of a file begins on any day that has a date
pub first_start : (months : List ℤ) (k : ℕ) → k ≡ 0 → has_date (month_at months k).first ≡ good_start months k
unfolding good_start
first_start months zero e = refl
first_start months (suc k) e = absurd (omega arith)

-- ---- handles
not_exactly : (wanted z : ℤ) → (z ≡ wanted → ⊥) → is_exactly wanted z ≡ false
not_exactly wanted z f = go (is_exactly wanted z) refl
  where
    go : (b : Bool) → is_exactly wanted z ≡ b → is_exactly wanted z ≡ false
    go true e = absurd (f (exactly_says wanted z e))
    go false e = e

ordinal_small : (place : ℕ) → ordinal place ≤ 12
ordinal_small place = omega (arith, mod-lt (place + 10) {m = 12} (omega arith))

pub ordinary_at : (year : ℤ) (place : ℕ) → place < 13 → handle_at year 13 place ≡ ordinary year place
unfolding handle_at
ordinary_at year place h = ap₂ (handle year) (sym (before_leap 13 place h)) (sym (not_at_leap 13 place (λ e. omega arith)))

leap_at : (year : ℤ) (place : ℕ) → handle_at year place place ≡ handle year (ordinal (place + 11)) 1
unfolding handle_at
leap_at year place = ap₂ (handle year) (sym (from_leap place place (omega arith))) (sym (at_leap place place refl))

-- the handle of a leap month is odd
mark_of : (year : ℤ) (number mark : ℕ) → mark < 2 → floor_mod (handle year number mark) 2 ≡ mark
unfolding handle
mark_of year number mark h = floor_mod_unique (pos 32 *ℤ year +ℤ pos (2 * number + mark)) (pos 16 *ℤ year +ℤ pos number) 2 mark h (⇑ (year ∷ pos number ∷ pos mark ∷ []) (search ring depth 9) refl)

-- handles are small
pub ordinary_small : (year : ℤ) (place : ℕ) → Within 2500 year → Within 1000000 (ordinary year place)
unfolding handle
ordinary_small year place y =
    let n = ordinal place in
    let ρ = year ∷ pos n ∷ [] in
    record { within = ⇑ ρ (search ring depth 9) (omega (arith, ordinal_small place, ⇓ ρ y.within (search ring))) }

-- the handle after an ordinary one is the next place's
pub next_ordinary : (year : ℤ) (place : ℕ) → place < 13 → handle_after year (ordinary year place) ≡ ordinary year (place + 1)
unfolding handle_after handle
next_ordinary year place h = go (dec_lt n 12)
  where
    n : ℕ
    n = ordinal place

    go : Dec (n < 12) → handle_after year (ordinary year place) ≡ ordinary year (place + 1)
    go (yes l) =
        let ρ = year ∷ pos n ∷ [] in
        let other : is_exactly (pos 32 *ℤ year +ℤ pos 24) (pos 32 *ℤ year +ℤ pos (2 * n + 0)) ≡ false = not_exactly (pos 32 *ℤ year +ℤ pos 24) (pos 32 *ℤ year +ℤ pos (2 * n + 0)) (λ e. omega (arith, ⇓ ρ e (search ring depth 9))) in
        let next : ordinal (place + 1) ≡ n + 1 = omega arith in
        rw (other, next) (⇑ ρ (search ring depth 9) refl)
    go (no l) =
        let twelfth : n ≡ 12 = omega (arith, ordinal_small place) in
        let next : ordinal (place + 1) ≡ 1 = omega arith in
        rw (twelfth, next, says_exactly (pos 32 *ℤ year +ℤ pos 24) (pos 32 *ℤ year +ℤ pos 24) refl) (⇑ (year ∷ []) (search ring depth 9) refl)

pub after_other : (year h : ℤ) → is_exactly (pos 32 *ℤ year +ℤ pos 24) h ≡ false → h +ℤ pos 2 ≡ handle_after year h
unfolding handle_after
after_other year h e = rw e

module _ (year count : ℤ) (leaps place : ℕ) (h : ℤ) where
  pub not_of_13 : is_exactly (pos 13) count ≡ false → false ≡ leap_handle year count leaps place h
  unfolding leap_handle
  not_of_13 e = rw e

  module _ (thirteen : is_exactly (pos 13) count ≡ true) where
    pub leap_before : 0 < leaps → false ≡ leap_handle year count leaps place h
    unfolding leap_handle
    leap_before l = rw (thirteen, ne_eqb leaps 0 (λ e. omega arith))

    pub leap_first : leaps ≤ 0 → place < 1 → false ≡ leap_handle year count leaps place h
    unfolding leap_handle
    leap_first l f = let none : leaps ≡ 0 = omega arith in rw (thirteen, eq-eqb leaps 0 none, lt-leb 1 place f)

    pub leap_is : leaps ≤ 0 → 1 ≤ place → is_exactly (handle_at year place place) h ≡ leap_handle year count leaps place h
    unfolding leap_handle
    leap_is l f = let none : leaps ≡ 0 = omega arith in rw (thirteen, eq-eqb leaps 0 none, le-leb 1 place f)

  -- what a leap month's handle is
  pub leap_says : leap_handle year count leaps place h ≡ true → h ≡ handle_at year place place
  unfolding leap_handle
  leap_says e = let a = both (is_exactly (pos 13) count) _ e in let b = both (eqb leaps 0) _ a.1 in exactly_says (handle_at year place place) h (both (leb 1 place) _ b.1).1

  -- a good handle is an ordinary month's or a leap month's
  pub ordinary_or_leap : good_handle year count leaps place h ≡ (is_exactly (handle_at year 13 (place - leaps)) h || leap_handle year count leaps place h)
  unfolding good_handle leap_handle
  ordinary_or_leap = refl

  pub ordinary_handle : is_exactly (handle_at year 13 (place - leaps)) h ≡ true → true ≡ good_handle year count leaps place h
  ordinary_handle e = sym e ∙ first_holds (is_exactly (handle_at year 13 (place - leaps)) h) (leap_handle year count leaps place h) e ∙ sym ordinary_or_leap

  pub leap_decides : is_exactly (handle_at year 13 (place - leaps)) h ≡ false → is_exactly (pos 13) count ≡ true → leaps ≤ 0 → 1 ≤ place → is_exactly (handle_at year place place) h ≡ good_handle year count leaps place h
  leap_decides other thirteen l f = leap_is thirteen l f ∙ second_decides (is_exactly (handle_at year 13 (place - leaps)) h) (leap_handle year count leaps place h) other ∙ sym ordinary_or_leap

-- ---- one month more
module _ (year count : ℤ) (leaps place : ℕ) (due h first length : ℤ) where
  pub days_stop : days_after due first length ≡ false → None ≡ walked_on year count leaps place due h first length
  unfolding walked_on
  days_stop e = rw e

  module _ (days : days_after due first length ≡ true) (inside : place < 13) (before : leaps ≤ place) where
    pub ordinary_on : is_exactly (ordinary year (place - leaps)) h ≡ true → Some (record { leaps = leaps; next = handle_after year (ordinary year (place - leaps)); due = first +ℤ length }) ≡ walked_on year count leaps place due h first length
    unfolding walked_on
    ordinary_on e =
        let is : h ≡ ordinary year (place - leaps) = exactly_says (ordinary year (place - leaps)) h e in
        let good : good_handle year count leaps place h ≡ true = sym (ordinary_handle year count leaps place h (rw (ordinary_at year (place - leaps) (omega arith)) e)) in
        let mark : floor_mod h 2 ≡ 0 = ap (λ (z : ℤ). floor_mod z 2) is ∙ mark_of year (ordinal (place - leaps)) 0 (omega arith) in
        let same : leaps + 0 ≡ leaps = omega arith in
        let on : place + 1 - leaps ≡ place - leaps + 1 = omega arith in
        rw (days, good, mark, same, on, next_ordinary year (place - leaps) (omega arith))

    module _ (other : is_exactly (ordinary year (place - leaps)) h ≡ false) where
      not_ordinary : is_exactly (handle_at year 13 (place - leaps)) h ≡ false
      not_ordinary = rw (ordinary_at year (place - leaps) (omega arith)) other

      pub handle_stops : leap_handle year count leaps place h ≡ false → None ≡ walked_on year count leaps place due h first length
      unfolding walked_on
      handle_stops e = let bad : good_handle year count leaps place h ≡ false = ordinary_or_leap year count leaps place h ∙ none_of (is_exactly (handle_at year 13 (place - leaps)) h) (leap_handle year count leaps place h) not_ordinary e in rw (days, bad)

      pub leap_on : leap_handle year count leaps place h ≡ true → Some (record { leaps = leaps + 1; next = ordinary year (place - leaps); due = first +ℤ length }) ≡ walked_on year count leaps place due h first length
      unfolding walked_on
      leap_on e =
          let is : h ≡ handle year (ordinal (place + 11)) 1 = leap_says year count leaps place h e ∙ leap_at year place in
          let good : good_handle year count leaps place h ≡ true = ordinary_or_leap year count leaps place h ∙ sym (second_decides (is_exactly (handle_at year 13 (place - leaps)) h) (leap_handle year count leaps place h) not_ordinary) ∙ e in
          let mark : floor_mod h 2 ≡ 1 = ap (λ (z : ℤ). floor_mod z 2) is ∙ mark_of year (ordinal (place + 11)) 1 (omega arith) in
          let on : place + 1 - (leaps + 1) ≡ place - leaps = omega arith in
          rw (days, good, mark, on)
