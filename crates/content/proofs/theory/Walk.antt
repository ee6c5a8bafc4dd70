-- A walk over suis and months, record after record: what it knows where it stands, one turn, and how it ends. Assumes nothing.
use Rattle.std.specs.Prelude.{◌≡◌, Bool, ◌&&◌, Option, Some, None, is_some, IfSome, List, [], ◌∷◌, eqb, leb, ℤ, negsuc, nat_abs, ◌+ℤ◌, ◌-ℤ◌}
use Rattle.std.proofs.Math.Path.{refl, sym, ap}
use Rattle.std.proofs.Common.{◌∙◌, div-add-mod', leb-true, eqb-true}
use Rattle.std.proofs.Math.Bool.{true, false, cond}
use Prim.Native.Nat.{ℕ, zero, suc, ◌+◌, ◌*◌, ◌-◌, ◌/◌, ◌%◌, ◌≤◌, ◌<◌}
use native.Mathlib.Omega.{arith}
use Rattle.std.proofs.Math.IntN.{pos}
use Rattle.std.proofs.Math.ListN.{length}
use Rattle.std.specs.Bool.{then_some}
use Rattle.whole.specs.Parts.{◌⩽◌, ℤ_rules}
use Rattle.whole.specs.Solver.{⇑, ⇓, ring}
use Rattle.whole.specs.Booleans.{both, first_fails, not_both}
use Rattle.whole.specs.Floor.{floor_mod}
use Rattle.whole.proofs.Floor.{floor_mod_lt}
use Rattle.whole.specs.Below.{every, every_none, every_next, every_false, every_at, below}
use Rattle.whole.specs.Ranges.{Within}
use Rattle.whole.specs.Tests.{in_range, is_exactly, in_range_says, says_exactly}
use Rattle.dates.specs.Answers.{has_date}
use Rattle.clock.specs.Leap.{leap_lawful}
use Rattle.content.specs.declared.inner.Walked.{Walked}
use Rattle.content.specs.Content.{content, year_at, count_at, month_at, months_before, follows_year, good_sui, leaps_before, good_handle, good_start, good_days, good_month, good_months, good_sui_months, whole_suis, lawful}
use Rattle.content.specs.Steps.{year_due, sui_after, day_due, days_after, ordinary, walked_on, suis_lawful}
use Rattle.content.specs.theory.Walk.{Due}

pub first_due : (months : List ℤ) → has_date (month_at months 0).first ≡ true → Due months 0 (month_at months 0).first
unfolding day_due has_date
first_due months e =
    let z = (month_at months 0).first in
    let r = in_range_says (negsuc 149999) (pos 200000) z e in
    let ρ = z ∷ [] in
    record { dated = e; is = refl; small = record { within = ⇑ ρ (search ring) (omega (arith, ⇓ ρ r.0 (search ring), ⇓ ρ r.1 (search ring))) } }

-- the days of month k are judged by the day that is due
pub days_judged : (months : List ℤ) (k : ℕ) (day : ℤ) → Due months k day → days_after day (month_at months k).first (month_at months k).length ≡ good_days months k
unfolding days_after good_days day_due good_start
days_judged months zero day d =
    let first = (month_at months 0).first in
    let size = (month_at months 0).length in
    rw (d.is, d.dated, says_exactly first first refl)
days_judged months (suc k) day d = rw d.is

-- and where they are good, they say what is due next
pub due_next : (months : List ℤ) (k : ℕ) → has_date (month_at months 0).first ≡ true → good_days months k ≡ true → Due months (suc k) ((month_at months k).first +ℤ (month_at months k).length)
unfolding good_days has_date day_due
due_next months k dated good =
    let z = (month_at months k).first in
    let n = (month_at months k).length in
    let a = both (good_start months k) _ good in
    let b = both (in_range (pos 29) (pos 30) n) (in_range (negsuc 149999) (pos 200000) (z +ℤ n -ℤ pos 1)) a.1 in
    let l = in_range_says (negsuc 149999) (pos 200000) (z +ℤ n -ℤ pos 1) b.1 in
    let ρ = z ∷ n ∷ [] in
    let low = ⇓ ρ l.0 (search ring depth 9) in
    let high = ⇓ ρ l.1 (search ring depth 9) in
    record { dated = dated; is = refl; small = record { within = ⇑ ρ (search ring depth 9) (omega arith) } }

-- an answer by a test: it is there exactly where the test holds, and then it is this number
pub told_by : (P : ℤ → Type 0) (b : Bool) (z : ℤ) → P z → (is_some (then_some b z) ≡ b) × IfSome (then_some b z) P
told_by P true z p = (refl, p)
told_by P false z p = (refl, tt)

-- ---- one month more: what the answer of the judge tells
module _ (year count : ℤ) (leaps place : ℕ) (due h first length : ℤ) where
  pub record WentOn (r : Walked) : Type 0 where
    pub days : days_after due first length ≡ true
    pub handle : good_handle year count leaps place h ≡ true
    pub leaps_on : r.leaps ≡ leaps + floor_mod h 2
    pub next_on : r.next ≡ ordinary year (place + 1 - (leaps + floor_mod h 2))
    pub due_on : r.due ≡ first +ℤ length

  abbrev on : Walked
  on = record { leaps = leaps + floor_mod h 2; next = ordinary year (place + 1 - (leaps + floor_mod h 2)); due = first +ℤ length }

  pub went_on : (r : Walked) → Some r ≡ walked_on year count leaps place due h first length → WentOn r
  unfolding walked_on
  went_on r is = go (days_after due first length && good_handle year count leaps place h) refl is
    where
      go : (b : Bool) → (days_after due first length && good_handle year count leaps place h) ≡ b → Some r ≡ cond b (Some on) None → WentOn r
      go true e p =
          let t = both (days_after due first length) (good_handle year count leaps place h) e in
          let same : r ≡ on = cc in
          record { days = t.0; handle = t.1; leaps_on = ap (λ (w : Walked). w.leaps) same; next_on = ap (λ (w : Walked). w.next) same; due_on = ap (λ (w : Walked). w.due) same }
      go false e p = absurd (cc)

  pub went_no_further : None ≡ walked_on year count leaps place due h first length → (days_after due first length && good_handle year count leaps place h) ≡ false
  unfolding walked_on
  went_no_further is = go (days_after due first length && good_handle year count leaps place h) refl is
    where
      go : (b : Bool) → (days_after due first length && good_handle year count leaps place h) ≡ b → None ≡ cond b (Some on) None → (days_after due first length && good_handle year count leaps place h) ≡ false
      go true e p = absurd (cc)
      go false e p = e

-- ---- the months of a sui, which stand from month `from` on
module _ (months : List ℤ) (year count : ℤ) (from : ℕ) where
  -- the first so many are good, and have so many leap months
  pub record MonthsSoFar (place leaps : ℕ) (next day : ℤ) : Type 0 where
    pub few : place ≤ nat_abs count
    pub good : every (good_month months year count from) place ≡ true
    pub counted : leaps ≡ leaps_before months from place
    pub at_most : leaps ≤ place
    pub handle : next ≡ ordinary year (place - leaps)
    pub due : Due months (from + place) day

  pub no_month_yet : (next day : ℤ) → next ≡ ordinary year 0 → Due months from day → MonthsSoFar 0 0 next day
  unfolding leaps_before
  no_month_yet next day e d = record { few = omega arith; good = every_none (good_month months year count from); counted = refl; at_most = omega arith; handle = e; due = let same : from + 0 ≡ from = omega arith in rw same d }

  module _ (place leaps : ℕ) (next day : ℤ) (s : MonthsSoFar place leaps next day) where
    -- the judge of the month at this place
    abbrev judge : Option Walked
    judge = walked_on year count leaps place day (month_at months (from + place)).handle (month_at months (from + place)).first (month_at months (from + place)).length

    month_judged : good_month months year count from place ≡ (good_handle year count leaps place (month_at months (from + place)).handle && days_after day (month_at months (from + place)).first (month_at months (from + place)).length)
    unfolding good_month
    month_judged = rw (s.counted, days_judged months (from + place) day s.due)

    pub month_next : (r : Walked) → Some r ≡ judge → place < nat_abs count → MonthsSoFar (place + 1) r.leaps r.next r.due
    unfolding leaps_before
    month_next r is h =
        let k = from + place in
        let z = (month_at months k).handle in
        let on = went_on year count leaps place day z (month_at months k).first (month_at months k).length r is in
        let one : place + 1 ≡ suc place = omega arith in
        let up : from + suc place ≡ suc (from + place) = omega arith in
        let mark = floor_mod_lt z 2 (omega arith) in
        record {
          few = omega arith;
          good = every_next (good_month months year count from) place s.good (month_judged ∙ rw (on.handle, on.days));
          counted = rw one (omega (arith, s.counted, on.leaps_on));
          at_most = omega (arith, s.at_most, on.leaps_on);
          handle = rw on.leaps_on on.next_on;
          due = rw (one, up, on.due_on) (due_next months k s.due.dated (sym (days_judged months k day s.due) ∙ on.days));
        }

    pub month_stops : None ≡ judge → place < nat_abs count → false ≡ good_months months year count from
    unfolding good_months
    month_stops is h =
        let k = from + place in
        let z = (month_at months k).handle in
        let no_more = went_no_further year count leaps place day z (month_at months k).first (month_at months k).length is in
        let here : good_month months year count from place ≡ false = month_judged ∙ swapped (good_handle year count leaps place z) (days_after day (month_at months k).first (month_at months k).length) no_more in
        sym (first_fails (every (good_month months year count from) (nat_abs count)) _ (every_false (good_month months year count from) (nat_abs count) place h here))
      where
        swapped : (a b : Bool) → (b && a) ≡ false → (a && b) ≡ false
        swapped true true e = e
        swapped true false e = refl
        swapped false b e = refl

  pub leaps_decide : (leaps : ℕ) (next day : ℤ) → MonthsSoFar (nat_abs count) leaps next day → is_exactly (pos (12 + leaps)) count ≡ good_months months year count from
  unfolding good_months
  leaps_decide leaps next day s = rw (s.good, ← s.counted)

-- ---- suis
pub sui_judged : (suis : List ℤ) (i : ℕ) → sui_after (year_due suis i) (year_at suis i) (count_at suis i) ≡ good_sui suis i
unfolding sui_after good_sui year_due follows_year
sui_judged suis zero = rw (says_exactly (year_at suis 0) (year_at suis 0) refl)
sui_judged suis (suc i) = refl

at_least_12 : (z : ℤ) → pos 12 ⩽ z → 12 ≤ nat_abs z
at_least_12 (pos n) h = omega ℤ_rules
at_least_12 (negsuc n) h = absurd (omega ℤ_rules)

-- what a sui that was judged good is known to be
module _ (due year count : ℤ) (good : sui_after due year count ≡ true) where
  sui_tests : (in_range (pos 1700) (pos 2500) year ≡ true) × (in_range (pos 12) (pos 13) count ≡ true)
  unfolding sui_after
  sui_tests =
      let a = both (in_range (pos 1700) (pos 2500) year) (is_exactly due year && in_range (pos 12) (pos 13) count) good in
      (a.0, (both (is_exactly due year) (in_range (pos 12) (pos 13) count) a.1).1)

  pub year_small : Within 2500 year
  year_small =
      let r = in_range_says (pos 1700) (pos 2500) year sui_tests.0 in
      let ρ = year ∷ [] in
      record { within = ⇑ ρ (search ring) (omega (arith, ⇓ ρ r.0 (search ring), ⇓ ρ r.1 (search ring))) }

  pub count_12_or_13 : (pos 12 ⩽ count) × (count ⩽ pos 13)
  count_12_or_13 = in_range_says (pos 12) (pos 13) count sui_tests.1

  pub count_range : (12 ≤ nat_abs count) × (nat_abs count ≤ 13)
  count_range =
      let ρ = count ∷ [] in
      let low = ⇓ ρ count_12_or_13.0 (search ring) in
      let high = ⇓ ρ count_12_or_13.1 (search ring) in
      (at_least_12 count count_12_or_13.0, ⇑ ρ {A = nat_abs count ≤ 13} (search ring) (omega arith))

-- the months of the suis up to sui i are among all
pub months_before_rise : (suis : List ℤ) (i n : ℕ) → i ≤ n → months_before suis i ≤ months_before suis n
unfolding months_before
months_before_rise suis i zero h = let e : i ≡ 0 = omega arith in rw e (omega arith)
months_before_rise suis i (suc n) h = below i (suc n) (omega arith) (λ l. omega (arith, months_before_rise suis i n (omega arith))) (λ e. rw e (omega arith))

module _ (suis months : List ℤ) where
  -- the first i suis and their months are good; month `from` is the next, and so many months are there
  pub record SuisSoFar (i from : ℕ) (year day : ℤ) : Type 0 where
    pub few : i ≤ length suis / 2
    pub good : every (good_sui suis) i ≡ true
    pub judged : every (good_sui_months suis months) i ≡ true
    pub counted : from ≡ months_before suis i
    pub there : 3 * from ≤ length months
    pub year_due_lem : year ≡ year_due suis i
    pub day_due_lem : Due months from day

  pub no_sui_yet : (day : ℤ) → Due months 0 day → SuisSoFar 0 0 (year_at suis 0) day
  unfolding months_before year_due
  no_sui_yet day d = record { few = omega arith; good = every_none (good_sui suis); judged = every_none (good_sui_months suis months); counted = refl; there = omega arith; year_due_lem = refl; day_due_lem = d }

  -- what a lawful content says of each part
  parts : suis_lawful suis months ≡ true → (every (good_sui suis) (length suis / 2) ≡ true) × ((length months ≡ 3 * months_before suis (length suis / 2)) × (every (good_sui_months suis months) (length suis / 2) ≡ true))
  unfolding suis_lawful
  parts e =
      let a = both (every (good_sui suis) (length suis / 2)) _ e in
      let b = both (eqb (length months) (3 * months_before suis (length suis / 2))) (every (good_sui_months suis months) (length suis / 2)) a.1 in
      (a.0, (eqb-true _ _ b.0, b.1))

  unlawful : (suis_lawful suis months ≡ true → ⊥) → false ≡ suis_lawful suis months
  unlawful f = go (suis_lawful suis months) refl
    where
      go : (b : Bool) → suis_lawful suis months ≡ b → false ≡ suis_lawful suis months
      go true e = absurd (f e)
      go false e = sym e

  -- a month lacks words
  pub month_cut : (length months % 3 ≡ 0 → ⊥) → false ≡ suis_lawful suis months
  month_cut h = unlawful (λ e. h (omega (arith, (parts e).1.0)))

  module _ (some : 1 ≤ length suis / 2) where
    first_sui : suis_lawful suis months ≡ true → good_sui suis 0 ≡ true
    first_sui e = every_at (good_sui suis) (length suis / 2) (parts e).0 0 (omega arith)

    first_count : suis_lawful suis months ≡ true → 12 ≤ nat_abs (count_at suis 0)
    first_count e = (count_range (year_due suis 0) (year_at suis 0) (count_at suis 0) (sui_judged suis 0 ∙ first_sui e)).0

    -- no month is there
    pub no_months : length months < 3 → false ≡ suis_lawful suis months
    unfolding months_before
    no_months h = unlawful (λ e. omega (arith, (parts e).1.0, first_count e, months_before_rise suis 1 (length suis / 2) some))

    -- the first day has no date
    first_day : suis_lawful suis months ≡ true → has_date (month_at months 0).first ≡ true
    unfolding good_sui_months good_months good_month good_days good_start months_before
    first_day e =
        let sui = every_at (good_sui_months suis months) (length suis / 2) (parts e).1.1 0 (omega arith) in
        let all = (both (every (good_month months (year_at suis 0) (count_at suis 0) 0) (nat_abs (count_at suis 0))) _ sui).0 in
        let month = every_at (good_month months (year_at suis 0) (count_at suis 0) 0) (nat_abs (count_at suis 0)) all 0 (omega (arith, first_count e)) in
        let days = (both (good_handle (year_at suis 0) (count_at suis 0) (leaps_before months 0 0) 0 (month_at months 0).handle) (good_days months 0) month).1 in
        (both (has_date (month_at months 0).first) (in_range (pos 29) (pos 30) (month_at months 0).length && has_date ((month_at months 0).first +ℤ (month_at months 0).length -ℤ pos 1)) days).0

    pub no_date : has_date (month_at months 0).first ≡ false → false ≡ suis_lawful suis months
    no_date h = unlawful (λ e. not_both (first_day e) h)

  module _ (i from : ℕ) (year day : ℤ) (s : SuisSoFar i from year day) (inside : i < length suis / 2) where
    pub here_judged : sui_after year (year_at suis i) (count_at suis i) ≡ good_sui suis i
    here_judged = rw s.year_due_lem (sui_judged suis i)

    pub sui_stops : sui_after year (year_at suis i) (count_at suis i) ≡ false → false ≡ suis_lawful suis months
    sui_stops bad = unlawful (λ e. not_both (every_at (good_sui suis) (length suis / 2) (parts e).0 i inside) (sym here_judged ∙ bad))

    pub months_run_out : length months < 3 * (from + nat_abs (count_at suis i)) → false ≡ suis_lawful suis months
    unfolding months_before
    months_run_out h = unlawful (λ e. omega (arith, s.counted, (parts e).1.0, months_before_rise suis (suc i) (length suis / 2) (omega arith)))

    months_here : good_sui_months suis months i ≡ good_months months (year_at suis i) (count_at suis i) from
    unfolding good_sui_months
    months_here = ap (good_months months (year_at suis i) (count_at suis i)) (sym s.counted)

    pub months_stop : good_months months (year_at suis i) (count_at suis i) from ≡ false → false ≡ suis_lawful suis months
    months_stop bad = unlawful (λ e. not_both (every_at (good_sui_months suis months) (length suis / 2) (parts e).1.1 i inside) (months_here ∙ bad))

    pub sui_next : (n : ℕ) (next : ℤ) → n ≡ nat_abs (count_at suis i) → sui_after year (year_at suis i) (count_at suis i) ≡ true → 3 * (from + n) ≤ length months → good_months months (year_at suis i) (count_at suis i) from ≡ true → Due months (from + nat_abs (count_at suis i)) next → SuisSoFar (i + 1) (from + n) (year_at suis i +ℤ pos 1) next
    unfolding months_before year_due
    sui_next n next size good there months_good d =
        let one : i + 1 ≡ suc i = omega arith in
        record {
          few = omega arith;
          good = every_next (good_sui suis) i s.good (sym here_judged ∙ good);
          judged = every_next (good_sui_months suis months) i s.judged (months_here ∙ months_good);
          counted = rw one (omega (arith, s.counted, size));
          there = there;
          year_due_lem = rw one refl;
          day_due_lem = rw size d;
        }

  pub months_left_over : (from : ℕ) (year day : ℤ) → SuisSoFar (length suis / 2) from year day → eqb (length months) (3 * from) ≡ suis_lawful suis months
  unfolding suis_lawful
  months_left_over from year day s = rw (s.good, s.judged, ← s.counted, and_true (eqb (length months) (3 * from)))
    where
      and_true : (b : Bool) → (b && true) ≡ b
      and_true true = refl
      and_true false = refl

-- ---- the whole content, rule after rule
module _ (leap suis months : List ℤ) where
  pub leap_broken : leap_lawful leap ≡ false → false ≡ lawful (content leap suis months)
  unfolding lawful
  leap_broken e = rw e

  module _ (table : leap_lawful leap ≡ true) where
    pub suis_broken : whole_suis (length suis) ≡ false → false ≡ lawful (content leap suis months)
    unfolding lawful
    suis_broken e = rw (table, e)

    pub suis_decide : whole_suis (length suis) ≡ true → suis_lawful suis months ≡ lawful (content leap suis months)
    unfolding lawful suis_lawful
    suis_decide e = rw (table, e)

pub whole_some : (words : ℕ) → whole_suis words ≡ true → (1 ≤ words / 2) × (words ≤ 256)
unfolding whole_suis
whole_some words e =
    let b = both (leb 2 words) (leb words 256) (both (eqb (words % 2) 0) _ e).1 in
    (omega (arith, leb-true 2 words b.0, div-add-mod' words 2), leb-true words 256 b.1)
