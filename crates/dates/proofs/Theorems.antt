-- What makes the day number believable, and that dates and days undo each other. The first day is 2000-01-01, the date after a date has the next
-- number, every day has a valid date with its number, and a valid date is the date of its number. Assumes nothing.
use Rattle.std.specs.Prelude.{ℕ, ◌+◌, ◌≡◌, refl, Bool, true, false, ℤ, pos, ◌+ℤ◌, take}
use Rattle.std.proofs.Common.{sym, ap, ◌∙◌, subst, arith}
use Rattle.whole.specs.Floor.{floor_div, floor_mod}
use Rattle.refusals.specs.Verdict.{answered}
use Rattle.times.specs.declared.Day.{Day}
use Rattle.dates.specs.declared.Date.{Date}
use Rattle.dates.specs.Answers.{has_date, date_of, day_of}
use Rattle.dates.specs.Calendar.{leap_year, leap_years_to, new_year, month_lengths, lengths_in, total, year_of, days_before, number_of, valid, day_number, date_for, date_after}
use Rattle.dates.proofs.theory.Judged.{date_refused, date_found, no_date, no_day, day_found}
use Rattle.dates.proofs.theory.Days.{placed, number_at, place_within, date_at_lem, days_over, day_is_lem, day_within, date_is, number_in_year, valid_in_year, date_in_year_lem}
use Rattle.dates.proofs.theory.Next.{next_at}

-- ---- from a day to its date and back
pub date_has_number : (n : ℤ) → day_number (date_for n) ≡ n
date_has_number n = ap day_number (date_is n) ∙ number_in_year (year_of n) (days_over n) (day_within n) ∙ sym (day_is_lem n)

pub date_is_valid : (n : ℤ) → valid (date_for n) ≡ true
date_is_valid n = ap valid (date_is n) ∙ valid_in_year (year_of n) (days_over n) (day_within n)

-- ---- from a valid date to its day and back
pub number_has_date : (d : Date) → valid d ≡ true → date_for (day_number d) ≡ d
number_has_date d v =
    let p = placed d v in
    ap (λ (x : Date). date_for (day_number x)) p.is
    ∙ ap date_for (number_at d.year p.i p.j)
    ∙ date_in_year_lem d.year (total (take p.i (lengths_in d.year)) + p.j) (place_within d.year p.i p.j p.month p.day)
    ∙ date_at_lem d.year p.i p.j p.month p.day
    ∙ sym p.is

abbrev numbered : Date → Day
numbered d = record { 0 = day_number d }

-- ---- the answers undo each other, over the whole range
pub there_and_back : (n : Day) (d : Date) → date_of n ≡ answered d → day_of d ≡ answered n
there_and_back n d e = go (has_date n.0) refl
  where
    go : (b : Bool) → has_date n.0 ≡ b → day_of d ≡ answered n
    go false h = let z : ◌≡◌ {A = ℕ} 0 1 = cc (date_refused n h) in absurd (omega arith)
    go true h =
        let is : date_for n.0 ≡ d = cc (date_found n h) in
        let number : n.0 ≡ day_number d = sym (date_has_number n.0) ∙ ap day_number is in
        sym (day_found d n (ap valid (sym is) ∙ date_is_valid n.0) h number)

pub back_and_there : (d : Date) (n : Day) → day_of d ≡ answered n → date_of n ≡ answered d
back_and_there d n e = go (valid d) (has_date (day_number d)) refl refl
  where
    go : (b h : Bool) → valid d ≡ b → has_date (day_number d) ≡ h → date_of n ≡ answered d
    go false h v r = let z : ◌≡◌ {A = ℕ} 0 1 = cc (no_date d v) in absurd (omega arith)
    go true false v r = let z : ◌≡◌ {A = ℕ} 0 1 = cc (no_day d r) in absurd (omega arith)
    go true true v r =
        let is : numbered d ≡ n = cc (day_found d (numbered d) v r refl) in
        let number : day_number d ≡ n.0 = ap (λ (x : Day). x.0) is in
        sym (date_found n (ap has_date (sym number) ∙ r)) ∙ ap answered (ap date_for (sym number) ∙ number_has_date d v)

-- every day of the range has a date, and a valid one
pub day_has_date : (n : Day) → has_date n.0 ≡ true → (date_of n ≡ answered (date_for n.0)) × (valid (date_for n.0) ≡ true)
day_has_date n h = (sym (date_found n h), date_is_valid n.0)

-- ---- the first day
pub day_zero : number_of (pos 2000) (pos 1) (pos 1) ≡ pos 0
unfolding number_of new_year leap_years_to days_before month_lengths leap_year floor_div floor_mod
day_zero = refl

-- ---- the date after a date has the next number
pub next_number : (d : Date) → valid d ≡ true → day_number (date_after d) ≡ day_number d +ℤ pos 1
next_number d v = let p = placed d v in subst (λ (x : Date). day_number (date_after x) ≡ day_number x +ℤ pos 1) (sym p.is) (next_at d.year p.i p.j p.month p.day)
