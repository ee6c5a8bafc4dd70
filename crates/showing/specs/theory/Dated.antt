-- The first day of each month of a lawful content has a date. Assumes nothing.
use Rattle.std.specs.Prelude.{◌≡◌, true, ℤ, negsuc, ◌+ℤ◌, ◌-ℤ◌}
use mathlib.Core.List.{List, [], ◌∷◌}
use Prim.Native.Nat.{ℕ, zero, suc, ◌<◌}
use Rattle.std.proofs.Common.{arith}
use Rattle.std.proofs.Math.IntN.{pos}
use Rattle.whole.specs.Solver.{⇑, ⇓, ring}
use Rattle.whole.specs.Tests.{in_range, in_range_says, says_in_range, exactly_says}
use Rattle.dates.specs.Answers.{has_date}
use Rattle.content.specs.Content.{Content, month_count, month_at, good_start}
use Rattle.almanac.specs.theory.Rules.{Rules, placed, days_parts}

pub record Dated (months : List ℤ) (n : ℕ) : Type 0 where
  pub each : (k : ℕ) → k < n → has_date (month_at months k).first ≡ true

module _ (c : Content) (r : Rules c) where
  abbrev first : ℕ → ℤ
  first k = (month_at c.months k).first

  abbrev days : ℕ → ℤ
  days k = (month_at c.months k).length

  rules_at : (k : ℕ) → k < month_count c → (good_start c.months k ≡ true) × ((in_range (pos 29) (pos 30) (days k) ≡ true) × (has_date (first k +ℤ days k -ℤ pos 1) ≡ true))
  rules_at k h = let p = placed c r k h in rw p.is (days_parts c r p.i p.sui_in_lem p.place p.place_in)

  -- a month's first day is the day after the one before it ends, and no later than its own last day
  first_dated : (k : ℕ) → k < month_count c → has_date (first k) ≡ true
  unfolding good_start has_date
  first_dated zero h = (rules_at zero h).0
  first_dated (suc k) h =
      let before = rules_at k (omega arith) in
      let here = rules_at (suc k) h in
      let ρ = first k ∷ days k ∷ first (suc k) ∷ days (suc k) ∷ [] in
      let joins = exactly_says (first k +ℤ days k) (first (suc k)) here.0 in
      let low = (in_range_says (negsuc 149999) (pos 200000) (first k +ℤ days k -ℤ pos 1) before.1.1).0 in
      let high = (in_range_says (negsuc 149999) (pos 200000) (first (suc k) +ℤ days (suc k) -ℤ pos 1) here.1.1).1 in
      let long = (in_range_says (pos 29) (pos 30) (days (suc k)) here.1.0).0 in
      says_in_range (negsuc 149999) (pos 200000) (first (suc k))
      (⇑ ρ (search ring depth 9) (omega (arith, ⇓ ρ joins (search ring depth 9), ⇓ ρ low (search ring depth 9))))
      (⇑ ρ (search ring depth 9) (omega (arith, ⇓ ρ high (search ring depth 9), ⇓ ρ long (search ring depth 9))))

  pub dated : Dated c.months (month_count c)
  dated = record { each = first_dated }
