-- The leap month: where it stands in a sui of 13 and of 12 months, and the verdict of each outcome. Assumes nothing.
use Rattle.std.proofs.Math.Path.{◌≡◌, refl}
use Rattle.std.specs.Prelude.{Bool, ℕ, ◌≤◌, ◌<◌, ltb, ℤ}
use Rattle.std.proofs.Math.Bool.{true, false, cond}
use native.Mathlib.Omega.{arith}
use Rattle.std.proofs.Math.Decide.{dec_lt}
use borrow.Author.Tests.{eq-eqb, ne_eqb, eqb-true, eqb-false}
use Rattle.std.proofs.Math.Dec.{eqb}
use Rattle.refusals.specs.Verdict.{answered, refused}
use Rattle.whole.specs.Found.{first_below, first_below_passes}
use Rattle.months.specs.declared.SuiDays.{SuiDays}
use Rattle.months.specs.Months.{without, first_without, leap_month, lengths_judged, first_bad_month, numbered, sui_of}

module _ (days : SuiDays) where
  pub leap_of_thirteen : days.months ≡ 13 → first_without days ≡ leap_month days
  unfolding leap_month
  leap_of_thirteen e = rw (eq-eqb days.months 13 e)

  pub leap_of_others : (days.months ≡ 13 → ⊥) → days.months ≡ leap_month days
  unfolding leap_month
  leap_of_others e = rw (ne_eqb days.months 13 e)

  -- ---- the verdict of each outcome
  module _ (year : ℤ) where
    pub sui_bad_length : ltb (first_bad_month days) days.months ≡ true → refused 10 0 ≡ sui_of year days
    unfolding sui_of lengths_judged
    sui_bad_length e = rw e

    pub sui_numbered : ltb (first_bad_month days) days.months ≡ false → answered (numbered year days) ≡ sui_of year days
    unfolding sui_of lengths_judged
    sui_numbered e = rw e

-- ---- where the leap month can stand
module _ (days : SuiDays) (few : days.months ≤ 13) where
  -- not behind thirteen months, where one of thirteen has no zhongqi
  pub leap_by_twelve : (days.months ≡ 13 → first_without days < 13) → leap_month days ≤ 12
  unfolding leap_month
  leap_by_twelve one = go (eqb days.months 13) refl
    where
      go : (b : Bool) → eqb days.months 13 ≡ b → cond b (first_without days) days.months ≤ 12
      go true e = omega (arith, one (eqb-true days.months 13 e))
      go false e = let other = eqb-false days.months 13 e in omega arith

  -- not first, where the first has one
  pub leap_not_first : 0 < days.months → without days 0 ≡ false → 0 < leap_month days
  unfolding leap_month first_without
  leap_not_first some e = go (eqb days.months 13) (dec_lt 0 (first_without days))
    where
      go : (b : Bool) → Dec (0 < first_without days) → 0 < cond b (first_without days) days.months
      go true (yes h) = h
      go true (no h) =
          let first : first_below (without days) days.months ≡ 0 = omega arith in
          let passes = rw first at (first_below_passes (without days) days.months (omega arith)) in
          let z : ◌≡◌ {A = ℕ} 0 1 = cc in
          absurd (omega arith)
      go false d = some
