-- What is proved of the month rule, over its definitions: handles tell year, number and leap mark, and differ; month 11 has a zhongqi, and of thirteen
-- months one has none; the months meet; one result. Assumes nothing but what a statement says itself.
use Rattle.std.specs.Prelude.{◌≡◌, refl, true, false, not, List, ℕ, ◌+◌, ◌-◌, ◌*◌, ◌/◌, ◌%◌, ◌≤◌, ◌<◌, ℤ, pos, ◌+ℤ◌, ◌*ℤ◌, length, get_or, ◌≤ℤ◌, ◌<ℤ◌, Result}
use Rattle.std.proofs.Common.{sym, ap, ◌∙◌, arith, ne_eqb}
use Rattle.std.proofs.lemmas.Bool.{not-false}
use Rattle.whole.specs.Floor.{floor_div, floor_mod}
use Rattle.whole.proofs.Floor.{floor_div_unique, floor_mod_unique}
use Rattle.whole.specs.Laws.{*_comm}
use Rattle.whole.specs.Solver.{yes_lt, no_lt}
use Rattle.refusals.specs.Verdict.{answered, test_answered, one_result, results_apart, paper}
use Rattle.months.specs.declared.SuiDays.{SuiDays}
use Rattle.months.specs.declared.Sui.{Sui}
use Rattle.months.specs.Handles.{number_at, leap_mark, handle, handle_at}
use Rattle.months.specs.Months.{not_after, last_not_after, first_solstice, second_solstice, by_first, by_second, month_count, days_of, month_first, IsSuiDays, zhongqi_in, zhongqi_of, without, first_without, leap_month, sui_in}
use Rattle.months.specs.Limits.{rising, lists_kept, months_of}
use Rattle.months.proofs.theory.Numbering.{before_leap, not_at_leap, number_small, mark_small, places_differ}
use Rattle.months.proofs.theory.Listed.{at_most_thirteen, zhongqi_in_turn, within_here}
use Rattle.months.proofs.theory.Kept.{kept}
use Rattle.months.proofs.theory.Rising.{first_are_by, later_are_after, last_is_by, in_order, none_later}
use Rattle.months.proofs.theory.Suis.{IsSui, month, sui_count_lem, handle_is, first_is, end_is, days_of_sui}
use Rattle.months.proofs.theory.Days.{found_first, found_months, found_listed, found_count, found_twelve, found_zhongqi}
use Rattle.months.proofs.theory.Answered.{said}
use Rattle.months.proofs.theory.Leap.{leap_by_twelve, leap_not_first}
use Rattle.months.proofs.theory.Thirteen.{one_without}
use Rattle.refusals.specs.declared.Refusal.{Refusal}

-- ---- handles

-- a handle gives back year, number and leap mark
pub handle_tells : (year : ℤ) (number mark : ℕ) → number ≤ 12 → mark ≤ 1 → (floor_div (handle year number mark) 32 ≡ year) × (floor_mod (handle year number mark) 32 / 2 ≡ number) × (floor_mod (handle year number mark) 32 % 2 ≡ mark)
unfolding handle
handle_tells year number mark h k =
    let rest = 2 * number + mark in
    let sum : pos 32 *ℤ year +ℤ pos rest ≡ year *ℤ pos 32 +ℤ pos rest = ap (λ (z : ℤ). z +ℤ pos rest) (*_comm (pos 32) year) in
    let left = floor_mod_unique (pos 32 *ℤ year +ℤ pos rest) year 32 rest (omega arith) sum in
    (floor_div_unique (pos 32 *ℤ year +ℤ pos rest) year 32 rest (omega arith) sum, omega (arith, left), omega (arith, left))

-- two months share a handle only where they are of one year, have one number and one mark; and no two places of one sui do. `leap` is the place of the
-- leap month
pub handles_differ : (year other : ℤ) (leap leap' place place' : ℕ) → handle_at year leap place ≡ handle_at other leap' place' → (year ≡ other) × (leap ≡ leap' → leap ≤ 12 → place ≤ 12 → place' ≤ 12 → place ≡ place')
unfolding handle_at
handles_differ year other leap leap' place place' e =
    let a = handle_tells year (number_at leap place) (leap_mark leap place) (number_small leap place) (mark_small leap place) in
    let b = handle_tells other (number_at leap' place') (leap_mark leap' place') (number_small leap' place') (mark_small leap' place') in
    let numbers : number_at leap place ≡ number_at leap' place' = sym a.1 ∙ ap (λ (z : ℤ). floor_mod z 32 / 2) e ∙ b.1 in
    let marks : leap_mark leap place ≡ leap_mark leap' place' = sym a.2 ∙ ap (λ (z : ℤ). floor_mod z 32 % 2) e ∙ b.2 in (
      sym a.0 ∙ ap (λ (z : ℤ). floor_div z 32) e ∙ b.0,
      λ same l h k. places_differ leap place place' l h k (numbers ∙ ap (λ (n : ℕ). number_at n place') (sym same)) (marks ∙ ap (λ (n : ℕ). leap_mark n place') (sym same)),
    )

-- ---- suis. `IsSui year moons zhongqi sui`: what the rule answers for new-moon days that rise and 13 zhongqi days

-- the public entry's answers are such suis
pub accepted_is_sui : (year : ℤ) (moons zhongqi : List ℤ) {sui : Sui} → months_of year moons zhongqi ≡ answered sui → IsSui year moons zhongqi sui
unfolding months_of
accepted_is_sui year moons zhongqi {sui} e =
    let judged = test_answered (not (lists_kept year moons zhongqi)) 8 (sui_in year moons zhongqi) sui e in
    let limits = kept year moons zhongqi (not-false (lists_kept year moons zhongqi) judged.0) in
    record { rise = limits.moons_rise; thirteen = limits.thirteen; rule = judged.1 }

-- month 11 has a zhongqi: the first solstice lies in it
pub month_11_has_a_zhongqi : (moons zhongqi : List ℤ) {days : SuiDays} → rising moons ≡ true → length zhongqi ≡ 13 → days_of moons zhongqi ≡ answered days → without days 0 ≡ false
unfolding without zhongqi_of month_count by_first
month_11_has_a_zhongqi moons zhongqi {days} rises long found =
    let z = first_solstice zhongqi in
    let listed = found_listed moons zhongqi found in
    let few = at_most_thirteen (month_count moons zhongqi) (found_count moons zhongqi found) in
    let count = found_months moons zhongqi found in
    let from = not_after z moons in
    let begins : from - 1 + 0 ≡ from - 1 = omega arith in
    let next : from - 1 + 1 ≡ from = omega arith in
    let first : month_first days 0 ≤ℤ z = rw (found_first moons zhongqi found 0 (omega arith), begins) (first_are_by z moons rises (from - 1) (omega arith)) in
    let second : z <ℤ month_first days (0 + 1) = rw (found_first moons zhongqi found (0 + 1) (omega arith), next) (later_are_after z moons rises from (omega arith) (omega arith)) in
    let here = within_here (month_first days 0) (month_first days (0 + 1)) z (no_lt {a = z} {b = month_first days 0} first) (yes_lt {a = z} {b = month_first days (0 + 1)} second) in
    ne_eqb (zhongqi_in (month_first days 0) (month_first days (0 + 1)) days.zhongqi) 0 (λ none. omega (arith, here, zhongqi_in_turn (month_first days 0) (month_first days (0 + 1)) zhongqi 0 (omega arith), ap (zhongqi_in (month_first days 0) (month_first days (0 + 1))) (found_zhongqi moons zhongqi found)))

-- what 8 and 9 let pass are the days of a sui: 12 or 13 months in order, thirteen zhongqi, and the second solstice not before the day where the sui ends ..
pub found_are_sui_days : (moons zhongqi : List ℤ) {days : SuiDays} → rising moons ≡ true → length zhongqi ≡ 13 → days_of moons zhongqi ≡ answered days → IsSuiDays days
unfolding month_count by_second last_not_after
found_are_sui_days moons zhongqi {days} rises long found =
    let from = by_first moons zhongqi - 1 in
    let listed = found_listed moons zhongqi found in
    let count = found_months moons zhongqi found in
    let some = at_most_thirteen (month_count moons zhongqi) (found_count moons zhongqi found) in
    let last : from + days.months ≡ by_second moons zhongqi - 1 = omega arith in
    let same = found_zhongqi moons zhongqi found in
    record {
      count = found_twelve moons zhongqi found;
      in_order = λ place h. let next : from + (place + 1) ≡ from + place + 1 = omega arith in
          rw (found_first moons zhongqi found place (omega arith), found_first moons zhongqi found (place + 1) (omega arith), next) (in_order moons rises (from + place) 1 (omega arith));
      thirteen = rw (← same) long;
      end_by_second = rw (← same, found_first moons zhongqi found days.months (omega arith), last) (last_is_by (second_solstice zhongqi) moons rises (omega arith));
    }

-- .. and thirteen months between the two solstice months always include one without a zhongqi: at most twelve of the thirteen zhongqi lie in them. So no refusal
-- stands for a leap month that is missing: document 01's 11 is withdrawn
pub thirteen_months_one_without : (days : SuiDays) → IsSuiDays days → days.months ≡ 13 → first_without days < 13
thirteen_months_one_without days d thirteen = one_without days d thirteen

-- the leap month is never the first, and it stands among the first thirteen; where there is none, `leap_month` is 12
pub leap_month_stands : (moons zhongqi : List ℤ) {days : SuiDays} → rising moons ≡ true → length zhongqi ≡ 13 → days_of moons zhongqi ≡ answered days → (0 < leap_month days) × (leap_month days ≤ 12)
leap_month_stands moons zhongqi {days} rises long found =
    let few = at_most_thirteen days.months (found_twelve moons zhongqi found) in
    (leap_not_first days few.1 (omega arith) (month_11_has_a_zhongqi moons zhongqi rises long found), leap_by_twelve days few.1 (thirteen_months_one_without days (found_are_sui_days moons zhongqi rises long found)))

-- the first month of a sui is month 11, and not leap
pub first_month_is_11 : {year : ℤ} {moons zhongqi : List ℤ} {sui : Sui} → IsSui year moons zhongqi sui → (month sui 0).handle ≡ handle year 11 0
unfolding handle_at
first_month_is_11 {year} {moons} {zhongqi} {sui} s =
    let made = days_of_sui year moons zhongqi s.rule in
    let days = made.0 in
    let few = at_most_thirteen days.months (found_twelve moons zhongqi made.1) in
    let count = sui_count_lem year days made.2 in
    let leap = (leap_month_stands moons zhongqi s.rise s.thirteen made.1).0 in
    let other = not_at_leap (leap_month days) 0 (λ e. omega arith) in
    handle_is year days made.2 0 (omega arith) ∙ rw (← before_leap (leap_month days) 0 leap, ← other)

-- no two months of a sui share a handle ..
pub handles_differ_in_a_sui : {year : ℤ} {moons zhongqi : List ℤ} {sui : Sui} → IsSui year moons zhongqi sui → (i k : ℕ) → i < sui.count → k < sui.count → (month sui i).handle ≡ (month sui k).handle → i ≡ k
handles_differ_in_a_sui {year} {moons} {zhongqi} {sui} s i k h l e =
    let made = days_of_sui year moons zhongqi s.rule in
    let days = made.0 in
    let few = at_most_thirteen days.months (found_twelve moons zhongqi made.1) in
    let count = sui_count_lem year days made.2 in
    let leap = (leap_month_stands moons zhongqi s.rise s.thirteen made.1).1 in
    let same = sym (handle_is year days made.2 i h) ∙ e ∙ handle_is year days made.2 k l in
    (handles_differ year year (leap_month days) (leap_month days) i k same).1 refl leap (omega arith) (omega arith)

-- .. nor do months of the suis of two years
pub handles_differ_over_suis : {year other : ℤ} {moons zhongqi moons' zhongqi' : List ℤ} {sui sui' : Sui} → IsSui year moons zhongqi sui → IsSui other moons' zhongqi' sui' → (i k : ℕ) → i < sui.count → k < sui'.count → (month sui i).handle ≡ (month sui' k).handle → year ≡ other
handles_differ_over_suis {year} {other} {moons} {zhongqi} {moons'} {zhongqi'} s s' i k h l e =
    let made = days_of_sui year moons zhongqi s.rule in
    let made' = days_of_sui other moons' zhongqi' s'.rule in
    let same = sym (handle_is year made.0 made.2 i h) ∙ e ∙ handle_is other made'.0 made'.2 k l in
    (handles_differ year other (leap_month made.0) (leap_month made'.0) i k same).0

-- ---- the months of a sui meet

-- the last new-moon day not after a day: it is not after it, and no new-moon day that is not after it is later
pub last_not_after_lem : (day : ℤ) (days : List ℤ) → rising days ≡ true → 0 < not_after day days → (last_not_after day days ≤ℤ day) × ((k : ℕ) → k < length days → get_or days k (pos 0) ≤ℤ day → get_or days k (pos 0) ≤ℤ last_not_after day days)
last_not_after_lem day days rises some = (last_is_by day days rises some, none_later day days rises)

-- month 11 begins on the last new-moon day not after the first solstice day, each month ends where the next begins, and the sui ends before the last
-- new-moon day not after the second
pub record Meet (moons zhongqi : List ℤ) (sui : Sui) : Type 0 where
  pub begins : (month sui 0).first ≡ last_not_after (first_solstice zhongqi) moons
  pub meets : (i : ℕ) → i + 1 < sui.count → (month sui i).first +ℤ (month sui i).length ≡ (month sui (i + 1)).first
  pub ends : (month sui (sui.count - 1)).first +ℤ (month sui (sui.count - 1)).length ≡ last_not_after (second_solstice zhongqi) moons

pub months_meet : (year : ℤ) (moons zhongqi : List ℤ) {sui : Sui} → sui_in year moons zhongqi ≡ answered sui → Meet moons zhongqi sui
unfolding last_not_after by_first by_second month_count
months_meet year moons zhongqi {sui} rule =
    let made = days_of_sui year moons zhongqi rule in
    let days = made.0 in
    let listed = found_listed moons zhongqi made.1 in
    let few = at_most_thirteen days.months (found_twelve moons zhongqi made.1) in
    let found = found_months moons zhongqi made.1 in
    let count = sui_count_lem year days made.2 in
    let at-begin : by_first moons zhongqi - 1 + 0 ≡ by_first moons zhongqi - 1 = omega arith in
    let last : sui.count - 1 + 1 ≡ days.months = omega arith in
    let at-end : by_first moons zhongqi - 1 + days.months ≡ by_second moons zhongqi - 1 = omega arith in
    record {
      begins = first_is year days made.2 0 (omega arith) ∙ (rw at-begin at (found_first moons zhongqi made.1 0 (omega arith)));
      meets = λ i h. end_is year days made.2 i (omega arith) ∙ sym (first_is year days made.2 (i + 1) h);
      ends = end_is year days made.2 (sui.count - 1) (omega arith) ∙ ap (month_first days) last ∙ (rw at-end at (found_first moons zhongqi made.1 days.months (omega arith)));
    }

-- ---- one result

-- the rule refuses by a number of a refusal, so that an answer can say it
pub paper_sui_lem : (year : ℤ) (moons zhongqi : List ℤ) → (r : Result Sui Refusal) × (paper r ≡ months_of year moons zhongqi)
paper_sui_lem year moons zhongqi = said year moons zhongqi

-- any two answers that `months_of` may give are the same
pub months_of_one_result : (year : ℤ) (moons zhongqi : List ℤ) (a b : Result Sui Refusal) → paper a ≡ months_of year moons zhongqi → paper b ≡ months_of year moons zhongqi → a ≡ b
months_of_one_result year moons zhongqi a b p q = one_result paper results_apart a b p q
