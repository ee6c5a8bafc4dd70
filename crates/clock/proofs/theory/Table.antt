-- What the rule of a leap table gives at each entry: sizes, offsets that are one more each time, days and moments that rise. Assumes nothing.
use Rattle.std.specs.Prelude.{ℕ, zero, suc, ◌+◌, ◌%◌, ◌-◌, ◌<◌, ◌≤◌, ◌≡◌, true, ◌&&◌, ℤ, negsuc, ◌+ℤ◌, ◌*ℤ◌, length, eqb}
use mathlib.Core.List.{List, [], ◌∷◌}
use Rattle.std.proofs.Common.{arith}
use Rattle.std.proofs.Math.IntN.{pos}
use Rattle.std.specs.Int.Signed.{lt_z}
use Rattle.std.proofs.Math.Dec.{leb}
use borrow.Author.Tests.{leb-true}
use Rattle.whole.specs.Parts.{◌⩽◌, ◌≺◌}
use Rattle.whole.specs.Ranges.{Within}
use Rattle.whole.specs.Solver.{⇑, ⇓, ring, lt_yes}
use Rattle.whole.specs.Booleans.{both}
use Rattle.whole.specs.Tests.{in_range, is_exactly, in_range_says, exactly_says}
use Rattle.whole.specs.Below.{every, every_at}
use Rattle.clock.specs.Leap.{utc_day, day, offset, first_entry, next_entry, good_entry, whole_pairs, leap_lawful, entries, holds_from}

module _ (w : List ℤ) (l : leap_lawful w ≡ true) where
  parts : (whole_pairs (length w) ≡ true) × (every (good_entry w) (entries w) ≡ true)
  unfolding leap_lawful
  parts = both (whole_pairs (length w)) (every (good_entry w) (entries w)) l

  counts : (2 ≤ length w) × (length w ≤ 128)
  unfolding whole_pairs
  counts =
      let a = both (eqb (length w % 2) 0) (leb 2 (length w) && leb (length w) 128) parts.0 in
      let b = both (leb 2 (length w)) (leb (length w) 128) a.1 in
      (leb-true 2 (length w) b.0, leb-true (length w) 128 b.1)

  pub some : 0 < entries w
  some = omega (arith, counts.0)

  pub few : entries w ≤ 64
  few = omega (arith, counts.1)

  good : (i : ℕ) → i < entries w → good_entry w i ≡ true
  good i h = every_at (good_entry w) (entries w) parts.1 i h

  first_good : first_entry (day w 0) (offset w 0) ≡ true
  unfolding good_entry
  first_good = good 0 some

  next_good : (i : ℕ) → suc i < entries w → next_entry (day w i) (offset w i) (day w (suc i)) (offset w (suc i)) ≡ true
  unfolding good_entry
  next_good i h = good (suc i) h

  day_first : (negsuc 119999 ⩽ day w 0) × (day w 0 ⩽ pos 100000)
  unfolding first_entry
  day_first = in_range_says (negsuc 119999) (pos 100000) (day w 0) (both (utc_day (day w 0)) (in_range (pos 0) (pos 1000) (offset w 0)) first_good).0

  pub offset_first : (pos 0 ⩽ offset w 0) × (offset w 0 ⩽ pos 1000)
  unfolding first_entry
  offset_first = in_range_says (pos 0) (pos 1000) (offset w 0) (both (utc_day (day w 0)) (in_range (pos 0) (pos 1000) (offset w 0)) first_good).1

  module _ (i : ℕ) (h : suc i < entries w) where
    next_parts : (utc_day (day w (suc i)) ≡ true) × ((lt_z (day w i) (day w (suc i)) ≡ true) × (is_exactly (offset w i +ℤ pos 1) (offset w (suc i)) ≡ true))
    unfolding next_entry
    next_parts =
        let a = both (utc_day (day w (suc i))) (lt_z (day w i) (day w (suc i)) && is_exactly (offset w i +ℤ pos 1) (offset w (suc i))) (next_good i h) in
        (a.0, both (lt_z (day w i) (day w (suc i))) (is_exactly (offset w i +ℤ pos 1) (offset w (suc i))) a.1)

    day_next_range : (negsuc 119999 ⩽ day w (suc i)) × (day w (suc i) ⩽ pos 100000)
    day_next_range = in_range_says (negsuc 119999) (pos 100000) (day w (suc i)) next_parts.0

    pub day_rises : day w i ≺ day w (suc i)
    day_rises = lt_yes {a = day w i} {b = day w (suc i)} next_parts.1.0

    pub offset_next : offset w (suc i) ≡ offset w i +ℤ pos 1
    offset_next = exactly_says (offset w i +ℤ pos 1) (offset w (suc i)) next_parts.1.1

  day_range : (i : ℕ) → i < entries w → (negsuc 119999 ⩽ day w i) × (day w i ⩽ pos 100000)
  day_range zero h = day_first
  day_range (suc i) h = day_next_range i h

  pub day_small : (i : ℕ) → i < entries w → Within 120000 (day w i)
  day_small i h = let r = day_range i h in let ρ = day w i ∷ [] in record { within = ⇑ ρ (search ring) (omega (arith, ⇓ ρ r.0 (search ring), ⇓ ρ r.1 (search ring))) }

  pub offset_is : (i : ℕ) → i < entries w → offset w i ≡ offset w 0 +ℤ pos i
  offset_is zero h = let ρ = offset w 0 ∷ [] in ⇑ ρ (search ring) (omega arith)
  offset_is (suc i) h =
      let ρ = offset w 0 ∷ offset w i ∷ offset w (suc i) ∷ pos i ∷ pos (suc i) ∷ [] in
      ⇑ ρ (search ring) (omega (arith, ⇓ ρ (offset_next i h) (search ring), ⇓ ρ (offset_is i (omega arith)) (search ring)))

  pub offset_small : (i : ℕ) → i < entries w → Within 2000 (offset w i)
  offset_small i h =
      let ρ = offset w 0 ∷ offset w i ∷ pos i ∷ [] in
      record { within = ⇑ ρ (search ring) (omega (arith, few, ⇓ ρ (offset_is i h) (search ring), ⇓ ρ offset_first.0 (search ring), ⇓ ρ offset_first.1 (search ring))) }

  -- a day and a second at least lie between two moments
  pub moment_later : (i : ℕ) → suc i < entries w → holds_from w i +ℤ pos 86401000 ⩽ holds_from w (suc i)
  unfolding holds_from
  moment_later i h =
      let ρ = day w i ∷ day w (suc i) ∷ offset w i ∷ offset w (suc i) ∷ [] in
      ⇑ ρ (search ring depth 9) (omega (arith, ⇓ ρ (day_rises i h) (search ring), ⇓ ρ (offset_next i h) (search ring)))

  pub moments_apart : (i k : ℕ) → i + k < entries w → holds_from w i +ℤ pos 86401000 *ℤ pos k ⩽ holds_from w (i + k)
  moments_apart i zero h = let e : i + 0 ≡ i = omega arith in rw e (let ρ = holds_from w i ∷ [] in ⇑ ρ (search ring) (omega arith))
  moments_apart i (suc k) h =
      let e : i + suc k ≡ suc (i + k) = omega arith in
      let ρ = holds_from w i ∷ holds_from w (i + k) ∷ holds_from w (suc (i + k)) ∷ pos k ∷ pos (suc k) ∷ [] in
      rw e (⇑ ρ (search ring) (omega (arith, ⇓ ρ (moments_apart i k (omega arith)) (search ring), ⇓ ρ (moment_later (i + k) (omega arith)) (search ring))))

  pub moments_in_order : (i j : ℕ) → i ≤ j → j < entries w → holds_from w i ⩽ holds_from w j
  moments_in_order i j h k =
      let e : i + (j - i) ≡ j = omega arith in
      let ρ = holds_from w i ∷ holds_from w j ∷ pos (j - i) ∷ [] in
      ⇑ ρ (search ring) (omega (arith, ⇓ ρ (rw e at (moments_apart i (j - i) (omega arith))) (search ring)))
