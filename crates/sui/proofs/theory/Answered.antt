-- What the answers of the parts tell: the verdict of the whole from those of the judge, the days and the month rule; what an answered `sui_days` is made of; and
-- that every day is small. Assumes nothing.
use Rattle.std.specs.Prelude.{◌≡◌, true, not, List, [], ◌∷◌, ℕ, zero, suc, ◌<◌, ℤ, pos, ◌-ℤ◌, get_or}
use Rattle.std.proofs.Common.{arith}
use Rattle.std.proofs.lemmas.Bool.{not-false}
use Rattle.whole.specs.Bounded.{zero_within, all_wider, all_append, all_zeros}
use Rattle.whole.specs.Ranges.{Within, All}
use Rattle.whole.specs.Tabulated.{tabulate}
use Rattle.refusals.specs.declared.Refusal.{Refusal}
use Rattle.refusals.specs.Verdict.{Verdict, accepted, answered, refusal, ◌before◌, ◌then◌, test_answered, then_answered, before_answered}
use Rattle.dates.specs.Answers.{has_date}
use Rattle.dates.proofs.theory.Sizes.{range_small}
use Rattle.clock.proofs.Theorems.{converted_day_has_date}
use Rattle.series.specs.Series.{Series}
use Rattle.marks.specs.Marks.{Mark}
use Rattle.marks.specs.Listed.{second_of_mark}
use Rattle.inputs.specs.Inputs.{Inputs, moon, judged_in, InputsAccepted, day_of_mark}
use Rattle.inputs.specs.Known.{Known, Ready}
use Rattle.inputs.proofs.Theorems.{accepted_in}
use Rattle.inputs.specs.theory.Converted.{mark_converts}
use Rattle.months.specs.declared.SuiDays.{SuiDays}
use Rattle.months.specs.Months.{days_of, sui_of}
use Rattle.months.specs.Limits.{year_in_range}
use Rattle.sui.specs.Sui.{new_moon_days, solstices_in, zhongqi_days, one_solstice, sui_days, sui_for, days_by_marks}
use Rattle.turns.specs.Listed.{turn_index_of, turns_of, turn_after, turn_by_last, turn_day}
use Rattle.sui.proofs.theory.Solstices.{new_moons_are}

-- ---- the whole from its parts
module _ (i : Inputs) (zone year : ℤ) (judged : judged_in i zone ≡ accepted) where
  pub sui_refused : (q : Refusal) → sui_days i zone year ≡ refusal q → refusal q ≡ sui_for i zone year
  unfolding sui_for
  sui_refused q e = rw (judged, e)

  pub sui_found : {days : SuiDays} → sui_days i zone year ≡ answered days → sui_of year days ≡ sui_for i zone year
  unfolding sui_for
  sui_found e = rw (judged, e)

-- ---- what days that are found are made of: the year is in range, there is one solstice in each year, and the month rule finds them
pub record Found (i : Inputs) (zone year : ℤ) (days : SuiDays) : Type 0 where
  pub in_range : year_in_range year ≡ true
  pub first : Mark
  pub last : Mark
  pub is_first : one_solstice (solstices_in i zone (year -ℤ pos 1)) ≡ answered first
  pub is_last : one_solstice (solstices_in i zone year) ≡ answered last
  pub by_rule : days_of (new_moon_days i zone) (zhongqi_days i zone first last) ≡ answered days

pub days_found_lem : (i : Inputs) (zone year : ℤ) {days : SuiDays} → sui_days i zone year ≡ answered days → Found i zone year days
unfolding sui_days days_by_marks
days_found_lem i zone year {days} e =
    let rest = one_solstice (solstices_in i zone (year -ℤ pos 1)) then λ first. one_solstice (solstices_in i zone year) then λ last. days_of (new_moon_days i zone) (zhongqi_days i zone first last) in
    let tested = test_answered (not (year_in_range year)) 8 rest days e in
    let one = then_answered (one_solstice (solstices_in i zone (year -ℤ pos 1))) (λ first. one_solstice (solstices_in i zone year) then λ last. days_of (new_moon_days i zone) (zhongqi_days i zone first last)) days tested.1 in
    let two = then_answered (one_solstice (solstices_in i zone year)) (λ last. days_of (new_moon_days i zone) (zhongqi_days i zone one.0 last)) days one.2 in
    record {
      in_range = not-false (year_in_range year) tested.0;
      first = one.0;
      last = two.0;
      is_first = one.1;
      is_last = two.1;
      by_rule = two.2;
    }

-- ---- days have a date, and are small
all_tabulate : {m : ℕ} (f : ℕ → ℤ) (n : ℕ) → ((k : ℕ) → k < n → Within m (f k)) → All m (tabulate f n)
all_tabulate {m} f zero h = all_zeros 0
all_tabulate {m} f (suc n) h = all_append (all_tabulate f n (λ k l. h k (omega arith))) (one (h n (omega arith)))
  where
    one : Within m (f n) → All m (f n ∷ [])
    one w = record { each = at w }
      where
        at : Within m (f n) → (k : ℕ) → Within m (get_or (f n ∷ []) k (pos 0))
        at w zero = w
        at w (suc k) = zero_within

pub turn_day_has_date : (leap : List ℤ) (s : Series) → Ready leap s → (zone : ℤ) → Within 1000 zone → (k : ℕ) → k < turns_of s → has_date (turn_day leap s zone k) ≡ true
unfolding day_of_mark
turn_day_has_date leap s r zone z k h =
    let j = turn_index_of s k in
    converted_day_has_date leap r.lawful_table (record { 0 = second_of_mark s j }) (mark_converts s r.is_accepted j (turn_after s k) (turn_by_last s k h)) zone z

pub turn_day_small : (leap : List ℤ) (s : Series) → Ready leap s → (zone : ℤ) → Within 1000 zone → (k : ℕ) → k < turns_of s → Within 200000 (turn_day leap s zone k)
turn_day_small leap s r zone z k h = range_small (turn_day leap s zone k) (turn_day_has_date leap s r zone z k h)

pub new_moons_small : (i : Inputs) (zone : ℤ) → Known i → Within 1000 zone → All 1000000 (new_moon_days i zone)
new_moons_small i zone k z =
    rw (new_moons_are i zone k)
    (all_wider (all_tabulate {m = 200000} (turn_day i.leap (moon i) zone) (turns_of (moon i)) (turn_day_small i.leap (moon i) k.moon_ready zone z)) (omega arith))

-- ---- what answers behind the judge tell: the inputs are accepted, and the zone is small
pub inputs_answered : (i : Inputs) (zone : ℤ) {A : Type 0} (v : Verdict A) {a : A} → judged_in i zone before v ≡ answered a → InputsAccepted i × (v ≡ answered a) × Within 1000 zone
inputs_answered i zone {A} v {a} e =
    let b = before_answered (judged_in i zone) v e in
    let k = accepted_in i zone b.0 in
    (k.1, b.1, k.0)
