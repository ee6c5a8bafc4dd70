-- The limits of the public entry: what each turn of the loops that judge them tells, and what lists that keep them are like. Assumes nothing.
use Rattle.std.specs.Prelude.{◌≡◌, Bool, false, ◌&&◌, ℕ, zero, suc, ◌+◌, ◌≤◌, ◌<◌, eqb, leb, ℤ, pos, negsuc, drop}
use Rattle.std.proofs.Math.Path.{refl}
use Rattle.std.proofs.Common.{ap, ◌∙◌, arith, add-one, length-drop, drop_of_length-le}
use Rattle.std.proofs.Math.Bool.{true}
use mathlib.Core.List.{List, [], ◌∷◌}
use borrow.Author.Tests.{le-leb, lt-leb, eq-eqb, ne_eqb, eqb-true}
use Rattle.std.proofs.Math.ListN.{length, get_or}
use Rattle.std.proofs.Math.Seq.{drop-cons}
use Rattle.std.specs.Int.Signed.{le_z}
use Rattle.whole.specs.Booleans.{both}
use Rattle.whole.specs.Parts.{◌⩽◌}
use Rattle.whole.specs.Ranges.{Within, All}
use Rattle.whole.specs.Solver.{⇑, ⇓, ring, le_yes, le_no, yes_lt, no_lt}
use Rattle.months.specs.Limits.{year_in_range, rising, day_in_range, in_range, days_kept, lists_kept}

-- ---- a conjunction, told from the left
pub first_fails : (a b : Bool) → a ≡ false → false ≡ (a && b)
first_fails a b e = rw e

pub first_passes : (a b x : Bool) → a ≡ true → x ≡ b → x ≡ (a && b)
first_passes a b x e f = rw e f

-- ---- days that rise
module _ (days : List ℤ) (i : ℕ) where
  module _ (h : i + 1 < length days) where
    two : drop i days ≡ get_or days i (pos 0) ∷ get_or days (i + 1) (pos 0) ∷ drop (suc (i + 1)) days
    two = drop-cons days i (pos 0) (omega arith) ∙ (rw (← add-one i) (ap (λ (rest : List ℤ). get_or days i (pos 0) ∷ rest) (drop-cons days (i + 1) (pos 0) h)))

    pub rising_stops : le_z (get_or days (i + 1) (pos 0)) (get_or days i (pos 0)) ≡ true → rising (drop i days) ≡ false
    unfolding rising
    rising_stops e = rw (two, no_lt {a = get_or days i (pos 0)} {b = get_or days (i + 1) (pos 0)} (le_yes {a = get_or days (i + 1) (pos 0)} {b = get_or days i (pos 0)} e))

    pub rising_turn : le_z (get_or days (i + 1) (pos 0)) (get_or days i (pos 0)) ≡ false → rising (drop i days) ≡ rising (drop (i + 1) days)
    unfolding rising
    rising_turn e = rw (two, yes_lt {a = get_or days i (pos 0)} {b = get_or days (i + 1) (pos 0)} (le_no {a = get_or days (i + 1) (pos 0)} {b = get_or days i (pos 0)} e), drop-cons days (i + 1) (pos 0) h)

  pub rising_end : length days ≤ i + 1 → rising (drop i days) ≡ true
  unfolding rising
  rising_end h = short (drop i days) (rw (length-drop i days) (omega arith))
    where
      short : (xs : List ℤ) → length xs ≤ 1 → rising xs ≡ true
      short [] l = refl
      short (x ∷ []) l = refl
      short (x ∷ y ∷ xs) l = absurd (omega arith)

-- ---- days in their range
module _ (days : List ℤ) (i : ℕ) where
  pub in_range_turn : i < length days → in_range (drop i days) ≡ (day_in_range (get_or days i (pos 0)) && in_range (drop (i + 1) days))
  unfolding in_range
  in_range_turn h = rw (drop-cons days i (pos 0), add-one)

  pub in_range_end : length days ≤ i → in_range (drop i days) ≡ true
  unfolding in_range
  in_range_end h = rw (drop_of_length-le days h)

-- ---- the year and both lists, told from the left
module _ (year : ℤ) (moons zhongqi : List ℤ) where
  pub bad_year : year_in_range year ≡ false → false ≡ lists_kept year moons zhongqi
  unfolding lists_kept
  bad_year e = rw e

  module _ (in_range_lem : year_in_range year ≡ true) where
    pub too_many : 3000 < length moons → false ≡ lists_kept year moons zhongqi
    unfolding lists_kept
    too_many h = rw (in_range_lem, lt-leb (length moons) 3000 h)

    module _ (few : length moons ≤ 3000) where
      pub bad_moons : days_kept moons ≡ false → false ≡ lists_kept year moons zhongqi
      unfolding lists_kept
      bad_moons e = rw (in_range_lem, le-leb (length moons) 3000 few, e)

      module _ (kept : days_kept moons ≡ true) where
        pub by_zhongqi : length zhongqi ≡ 13 → days_kept zhongqi ≡ lists_kept year moons zhongqi
        unfolding lists_kept
        by_zhongqi e = rw (in_range_lem, le-leb (length moons) 3000 few, kept, eq-eqb (length zhongqi) 13 e)

        pub not_thirteen : (length zhongqi ≡ 13 → ⊥) → false ≡ lists_kept year moons zhongqi
        unfolding lists_kept
        not_thirteen e = rw (in_range_lem, le-leb (length moons) 3000 few, kept, ne_eqb (length zhongqi) 13 e)

-- ---- what lists that keep the limits are like
pub record Kept (year : ℤ) (moons zhongqi : List ℤ) : Type 0 where
  pub year_kept : year_in_range year ≡ true
  pub few : leb (length moons) 3000 ≡ true
  pub moons_rise : rising moons ≡ true
  pub moons_near : in_range moons ≡ true
  pub thirteen : length zhongqi ≡ 13
  pub zhongqi_rise : rising zhongqi ≡ true
  pub zhongqi_near : in_range zhongqi ≡ true

pub kept : (year : ℤ) (moons zhongqi : List ℤ) → lists_kept year moons zhongqi ≡ true → Kept year moons zhongqi
unfolding lists_kept days_kept
kept year moons zhongqi e =
    let a = both (year_in_range year) (leb (length moons) 3000 && (days_kept moons && (eqb (length zhongqi) 13 && days_kept zhongqi))) e in
    let b = both (leb (length moons) 3000) (days_kept moons && (eqb (length zhongqi) 13 && days_kept zhongqi)) a.1 in
    let c = both (days_kept moons) (eqb (length zhongqi) 13 && days_kept zhongqi) b.1 in
    let d = both (eqb (length zhongqi) 13) (days_kept zhongqi) c.1 in
    let m = both (rising moons) (in_range moons) c.0 in
    let z = both (rising zhongqi) (in_range zhongqi) d.1 in
    record { year_kept = a.0; few = b.0; moons_rise = m.0; moons_near = m.1; thirteen = eqb-true (length zhongqi) 13 d.0; zhongqi_rise = z.0; zhongqi_near = z.1 }

pub year_small : (year : ℤ) → year_in_range year ≡ true → Within 2500 year
unfolding year_in_range
year_small year e =
    let b = both (le_z (pos 1700) year) (le_z year (pos 2500)) e in
    let low : pos 1700 ⩽ year = le_yes b.0 in
    let high : year ⩽ pos 2500 = le_yes b.1 in
    let ρ = year ∷ [] in
    record { within = ⇑ ρ (search ring) (omega (arith, ⇓ ρ low (search ring), ⇓ ρ high (search ring))) }

day_small : (day : ℤ) → day_in_range day ≡ true → Within 200000 day
unfolding day_in_range
day_small day e =
    let b = both (le_z (negsuc 199999) day) (le_z day (pos 200000)) e in
    let low : negsuc 199999 ⩽ day = le_yes b.0 in
    let high : day ⩽ pos 200000 = le_yes b.1 in
    let ρ = day ∷ [] in
    record { within = ⇑ ρ (search ring) (omega (arith, ⇓ ρ low (search ring), ⇓ ρ high (search ring))) }

pub days_small : (days : List ℤ) → in_range days ≡ true → All 200000 days
unfolding in_range
days_small days e = record { each = each days e }
  where
    each : (days : List ℤ) → in_range days ≡ true → (k : ℕ) → Within 200000 (get_or days k (pos 0))
    each [] e k = record { within = omega arith }
    each (d ∷ days) e zero = day_small d (both (day_in_range d) (in_range days) e).0
    each (d ∷ days) e (suc k) = each days (both (day_in_range d) (in_range days) e).1 k
