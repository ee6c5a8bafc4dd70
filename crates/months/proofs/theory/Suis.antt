-- An accepted sui: its months are those of the definition, and of good length. Assumes nothing.
use Rattle.std.specs.Prelude.{◌≡◌, refl, true, false, ℕ, ◌+◌, ◌-◌, ◌<◌, ltb, ℤ, ◌+ℤ◌, length, get_or, replicate}
use Rattle.std.proofs.Math.Path.{ap}
use mathlib.Core.List.{List, [], ◌∷◌}
use Rattle.std.proofs.Common.{arith}
use Rattle.whole.specs.Solver.{⇑, ring}
use Rattle.whole.specs.Tabulated.{get_d_tabulate}
use Rattle.refusals.specs.Verdict.{answered, test_answered, then_answered, answers_apart}
use Rattle.months.specs.declared.Month.{Month}
use Rattle.months.specs.declared.SuiDays.{SuiDays}
use Rattle.months.specs.declared.Sui.{Sui}
use Rattle.months.specs.Handles.{no_month, handle_at, month_of}
use Rattle.months.specs.Months.{month_first, leap_month, month_at, numbered, first_bad_month, lengths_judged, days_of, sui_of, sui_in}
use Rattle.months.specs.Limits.{rising}

-- the month at a place of a sui
abbrev pub month : Sui → ℕ → Month
month sui place = get_or sui.months place no_month

-- what the month rule answers for new-moon days that rise and 13 zhongqi days
pub record IsSui (year : ℤ) (moons zhongqi : List ℤ) (sui : Sui) : Type 0 where
  pub rise : rising moons ≡ true
  pub thirteen : length zhongqi ≡ 13
  pub rule : sui_in year moons zhongqi ≡ answered sui

module _ (year : ℤ) (days : SuiDays) {sui : Sui} (accepted : sui_of year days ≡ answered sui) where
  lengths_pass : (ltb (first_bad_month days) days.months ≡ false) × (answered (numbered year days) ≡ answered sui)
  unfolding sui_of lengths_judged
  lengths_pass = test_answered (ltb (first_bad_month days) days.months) 10 (answered (numbered year days)) sui accepted

  pub no_bad_month : ltb (first_bad_month days) days.months ≡ false
  no_bad_month = lengths_pass.0

  pub sui_is : numbered year days ≡ sui
  sui_is = answers_apart lengths_pass.1

  pub sui_count_lem : days.months ≡ sui.count
  unfolding numbered
  sui_count_lem = ap (λ (s : Sui). s.count) sui_is

  pub month_is : (place : ℕ) → place < sui.count → month sui place ≡ month_at year days place
  unfolding numbered
  month_is place h = let same = sui_count_lem in rw (← sui_is) (get_d_tabulate (month_at year days) days.months place no_month (replicate (13 - days.months) no_month) (omega arith))

  module _ (place : ℕ) (h : place < sui.count) where
    pub handle_is : (month sui place).handle ≡ handle_at year (leap_month days) place
    unfolding month_at month_of
    handle_is = ap (λ (m : Month). m.handle) (month_is place h)

    pub first_is : (month sui place).first ≡ month_first days place
    unfolding month_at month_of
    first_is = ap (λ (m : Month). m.first) (month_is place h)

    -- a month ends where the next begins
    pub end_is : (month sui place).first +ℤ (month sui place).length ≡ month_first days (place + 1)
    unfolding month_at month_of
    end_is =
        let a = month_first days place in
        let b = month_first days (place + 1) in
        rw (month_is place h) (let ρ = a ∷ b ∷ [] in ⇑ ρ (search ring) refl)

-- an accepted sui has its days
pub days_of_sui : (year : ℤ) (moons zhongqi : List ℤ) {sui : Sui} → sui_in year moons zhongqi ≡ answered sui → (days : SuiDays) × (days_of moons zhongqi ≡ answered days) × (sui_of year days ≡ answered sui)
unfolding sui_in
days_of_sui year moons zhongqi {sui} e = then_answered (days_of moons zhongqi) (sui_of year) sui e
