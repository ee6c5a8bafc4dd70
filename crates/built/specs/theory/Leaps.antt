-- Handles of a sui whose leap month stands at a place: how many leap months the file's rules count before each place, and that each handle is the one they ask
-- for. Assumes nothing.
use Rattle.std.specs.Prelude.{◌≡◌, refl, Bool, true, false, List, [], ◌∷◌, ℕ, zero, suc, ◌+◌, ◌-◌, ◌*◌, ◌≤◌, ◌<◌, ℤ, pos, ◌+ℤ◌, ◌*ℤ◌}
use Rattle.std.proofs.Common.{sym, ap₂, ◌∙◌, arith}
use Rattle.std.proofs.Math.Path.{ap}
use Rattle.std.proofs.Math.Decide.{dec_lt}
use Rattle.whole.specs.Floor.{floor_mod}
use Rattle.whole.proofs.Floor.{floor_mod_unique}
use Rattle.whole.specs.Solver.{⇑, ring}
use Rattle.whole.specs.Tests.{is_exactly, says_exactly}
use Rattle.months.specs.declared.Month.{Month}
use Rattle.months.specs.declared.Sui.{Sui}
use Rattle.months.specs.Handles.{ordinal, number_at, leap_mark, handle, handle_at}
use Rattle.months.proofs.theory.Numbering.{before_leap, from_leap, at_leap, not_at_leap, mark_small}
use Rattle.months.proofs.theory.Suis.{month}
use Rattle.content.specs.Content.{month_at, leaps_before, good_handle}
use Rattle.content.proofs.theory.Judged.{ordinary_handle, leap_decides}
use Rattle.built.specs.theory.Kept.{KeptSui}

-- the handle of a leap month is odd
mark_of : (year : ℤ) (leap place : ℕ) → floor_mod (handle_at year leap place) 2 ≡ leap_mark leap place
unfolding handle_at handle
mark_of year leap place =
    let n = number_at leap place in
    let m = leap_mark leap place in
    floor_mod_unique (pos 32 *ℤ year +ℤ pos (2 * n + m)) (pos 16 *ℤ year +ℤ pos n) 2 m (omega (arith, mark_small leap place)) (⇑ (year ∷ pos n ∷ pos m ∷ []) (search ring depth 9) refl)

-- the handles beside the leap month are those of a sui without one: before it of the same place, behind it of the place before
before_the_leap_month : (year : ℤ) (leap place : ℕ) → place < leap → leap ≤ 12 → handle_at year leap place ≡ handle_at year 13 place
unfolding handle_at
before_the_leap_month year leap place h l =
    ap₂ (handle year)
    (sym (before_leap leap place h) ∙ before_leap 13 place (omega arith))
    (sym (not_at_leap leap place (λ e. omega arith)) ∙ not_at_leap 13 place (λ e. omega arith))

behind_the_leap_month : (year : ℤ) (leap place : ℕ) → leap < place → place ≤ 12 → handle_at year leap place ≡ handle_at year 13 (place - 1)
unfolding handle_at
behind_the_leap_month year leap place h l =
    ap₂ (handle year)
    (sym (from_leap leap place (omega arith)) ∙ one_back ∙ before_leap 13 (place - 1) (omega arith))
    (sym (not_at_leap leap place (λ e. omega arith)) ∙ not_at_leap 13 (place - 1) (λ e. omega arith))
  where
    one_back : ordinal (place + 11) ≡ ordinal (place - 1)
    one_back = omega arith

-- a leap month's handle is good in a sui of 13 that has had none before, at a place that is not the first
leap_handle_lem : (year : ℤ) (count leaps place : ℕ) (h : ℤ) → count ≡ 13 → leaps ≡ 0 → 0 < place → h ≡ handle_at year place place → good_handle year (pos count) leaps place h ≡ true
leap_handle_lem year count leaps place h thirteen none some is = go (is_exactly (handle_at year 13 (place - leaps)) h) refl
  where
    go : (b : Bool) → is_exactly (handle_at year 13 (place - leaps)) h ≡ b → good_handle year (pos count) leaps place h ≡ true
    go true e = sym (ordinary_handle year (pos count) leaps place h e)
    go false e =
        sym (leap_decides year (pos count) leaps place h e (says_exactly (pos 13) (pos count) (ap pos thirteen)) (omega arith) (omega arith))
        ∙ says_exactly (handle_at year place place) h is

module _ {year : ℤ} {sui : Sui} (k : KeptSui year sui) where
  -- a month at the leap month's place is one of thirteen
  of_thirteen : k.leap < sui.count → sui.count ≡ 13
  of_thirteen h = go (dec_lt 12 sui.count) k.few
    where
      go : Dec (12 < sui.count) → (12 ≤ sui.count) × (sui.count ≤ 13) → sui.count ≡ 13
      go (yes l) few = omega arith
      go (no l) few = let none = k.none_in_twelve (λ e. omega arith) in absurd (omega arith)

  -- `months` are the words of a file's months; those of the sui stand from month `from` on
  module _ (months : List ℤ) (from : ℕ) (are : (place : ℕ) → place < sui.count → month_at months (from + place) ≡ month sui place) where
    -- how many leap months stand before a place: none up to the leap month, and one behind it
    record Leaps (place : ℕ) : Type 0 where
      none : place ≤ k.leap → leaps_before months from place ≡ 0
      one : k.leap < place → leaps_before months from place ≡ 1

    -- one more where the leap month stands
    leaps_next : (place : ℕ) → place < sui.count → leaps_before months from (suc place) ≡ leaps_before months from place + leap_mark k.leap place
    unfolding leaps_before
    leaps_next place h =
        ap (λ (n : ℕ). leaps_before months from place + n)
        (ap (λ (m : Month). floor_mod m.handle 2) (are place h) ∙ ap (λ (z : ℤ). floor_mod z 2) (k.handles place h) ∙ mark_of year k.leap place)

    leaps_are : (place : ℕ) → place ≤ sui.count → Leaps place
    leaps_are zero h = record { none = λ l. (unfold leaps_before in refl); one = λ l. absurd (omega arith) }
    leaps_are (suc place) h = go (leaps_are place (omega arith)) (leaps_next place (omega arith)) (dec_lt k.leap place)
      where
        go : Leaps place → leaps_before months from (suc place) ≡ leaps_before months from place + leap_mark k.leap place → Dec (k.leap < place) → Leaps (suc place)
        go before next (yes b) =
            let other = not_at_leap k.leap place (λ e. omega arith) in
            record { none = λ l. absurd (omega arith); one = λ l. omega (arith, before.one b) }
        go before next (no b) =
            let none = before.none (omega arith) in
            record {
              none = λ l. omega (arith, not_at_leap k.leap place (λ e. omega arith));
              one = λ l. omega (arith, at_leap k.leap place (omega arith));
            }

    -- 12 and no leap month, or 13 and one
    pub count_is : 12 + leaps_before months from sui.count ≡ sui.count
    count_is = go (dec_lt k.leap sui.count) k.few k.leap_stands (leaps_are sui.count (omega arith))
      where
        go : Dec (k.leap < sui.count) → (12 ≤ sui.count) × (sui.count ≤ 13) → (0 < k.leap) × (k.leap ≤ 12) → Leaps sui.count → 12 + leaps_before months from sui.count ≡ sui.count
        go (yes h) few leap leaps = omega (arith, leaps.one h, of_thirteen h)
        go (no h) few leap leaps = omega (arith, leaps.none (omega arith))

    -- each handle is the one that the rules ask for
    pub handle_good : (place : ℕ) → place < sui.count → good_handle year (pos sui.count) (leaps_before months from place) place (month sui place).handle ≡ true
    handle_good place h = go (dec_lt place k.leap) (dec_lt k.leap place) k.few k.leap_stands (leaps_are place (omega arith))
      where
        ordinary : (other : ℕ) → place - leaps_before months from place ≡ other → handle_at year k.leap place ≡ handle_at year 13 other → good_handle year (pos sui.count) (leaps_before months from place) place (month sui place).handle ≡ true
        ordinary other q e =
            let wanted = handle_at year 13 (place - leaps_before months from place) in
            sym (ordinary_handle year (pos sui.count) (leaps_before months from place) place (month sui place).handle
            (says_exactly wanted (month sui place).handle (k.handles place h ∙ e ∙ ap (handle_at year 13) (sym q))))

        go : Dec (place < k.leap) → Dec (k.leap < place) → (12 ≤ sui.count) × (sui.count ≤ 13) → (0 < k.leap) × (k.leap ≤ 12) → Leaps place → good_handle year (pos sui.count) (leaps_before months from place) place (month sui place).handle ≡ true
        go (yes l) d few leap leaps = ordinary place (omega (arith, leaps.none (omega arith))) (before_the_leap_month year k.leap place l leap.1)
        go (no l) (yes b) few leap leaps = ordinary (place - 1) (omega (arith, leaps.one b)) (behind_the_leap_month year k.leap place b (omega arith))
        go (no l) (no b) few leap leaps =
            let here : k.leap ≡ place = omega arith in
            leap_handle_lem year sui.count (leaps_before months from place) place (month sui place).handle (of_thirteen (omega arith)) (leaps.none (omega arith)) (omega arith)
            (k.handles place h ∙ ap (λ (n : ℕ). handle_at year n place) here)
