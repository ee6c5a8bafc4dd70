-- From the verdicts of the parts to that of the month rule; and that a result can say each of them. Assumes nothing.
use Rattle.std.specs.Prelude.{◌≡◌, refl, Bool, true, false, not, List, ltb, ℤ, Result, Ok, Err}
use Rattle.refusals.specs.declared.Refusal.{Refusal}
use Rattle.refusals.specs.declared.Refusal.TheVariants.{NoSui, MonthCount, MonthLength}
use Rattle.refusals.specs.Verdict.{Verdict, answered, refused, refusal, refuse_when, ◌before◌, ◌then◌, paper}
use Rattle.months.specs.declared.SuiDays.{SuiDays}
use Rattle.months.specs.Months.{moon_missing, twelve_or_thirteen, month_count, days_found, first_bad_month, days_of, numbered, lengths_judged, sui_of, sui_in}
use Rattle.months.specs.Limits.{lists_kept, months_of}

module _ (year : ℤ) (moons zhongqi : List ℤ) where
  pub months_not_kept : lists_kept year moons zhongqi ≡ false → refused 8 0 ≡ months_of year moons zhongqi
  unfolding months_of
  months_not_kept e = rw e

  module _ (kept : lists_kept year moons zhongqi ≡ true) where
    pub months_refused : (q : Refusal) → days_of moons zhongqi ≡ refusal q → refusal q ≡ months_of year moons zhongqi
    unfolding months_of sui_in
    months_refused q e = rw (kept, e)

    pub months_found : {days : SuiDays} → days_of moons zhongqi ≡ answered days → sui_of year days ≡ months_of year moons zhongqi
    unfolding months_of sui_in
    months_found e = rw (kept, e)

-- ---- what a result can say
abbrev Said : {A : Type 0} → Verdict A → Type 0
Said {A} v = (r : Result A Refusal) × (paper r ≡ v)

said_eight : {A : Type 0} (test : Bool) {v : Verdict A} → Said v → Said (refuse_when test 8 before v)
said_eight true s = (Err NoSui, refl)
said_eight false s = s

said_nine : {A : Type 0} (test : Bool) {v : Verdict A} → Said v → Said (refuse_when test 9 before v)
said_nine true s = (Err MonthCount, refl)
said_nine false s = s

said_ten : {A : Type 0} (test : Bool) {v : Verdict A} → Said v → Said (refuse_when test 10 before v)
said_ten true s = (Err MonthLength, refl)
said_ten false s = s

said_then : {A B : Type 0} {u : Verdict A} {f : A → Verdict B} → Said u → ((a : A) → Said (f a)) → Said (u then f)
said_then (Ok a, e) g = rw (← e) (g a)
said_then (Err r, e) g = rw (← e) (Err r, refl)

pub said : (year : ℤ) (moons zhongqi : List ℤ) → Said (months_of year moons zhongqi)
unfolding months_of sui_in days_of sui_of lengths_judged
said year moons zhongqi =
    said_eight (not (lists_kept year moons zhongqi))
    (said_then
    (said_eight (moon_missing moons zhongqi) (said_nine (not (twelve_or_thirteen (month_count moons zhongqi))) (Ok (days_found moons zhongqi), refl)))
    (λ (days : SuiDays). said_ten (ltb (first_bad_month days) days.months) (Ok (numbered year days), refl)))
