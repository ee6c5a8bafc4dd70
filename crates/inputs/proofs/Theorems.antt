-- Inputs are accepted exactly when they are known to be good; and of a ready series: each mark's second can be converted, and days of marks rise with the index.
-- Assumes nothing.
use Rattle.std.specs.Prelude.{◌≡◌, true, not, ◌↔◌, List, ℤ, ◌≤ℤ◌, ◌<ℤ◌, Result}
use Rattle.std.proofs.Common.{ap, ⊎_elim}
use Rattle.std.proofs.lemmas.Bool.{not-false}
use Rattle.whole.specs.Parts.{◌⩽◌}
use Rattle.whole.specs.Laws.{<→≤, ≤_total, ≤_antisymm, ≤_of-≡}
use Rattle.whole.specs.Booleans.{neither}
use Rattle.whole.specs.Ranges.{Within}
use Rattle.refusals.specs.Verdict.{accepted, before_accepted, refuse_when_accepted, one_result, checks_apart, paper}
use Rattle.clock.specs.Leap.{leap_lawful}
use Rattle.clock.specs.Answers.{zone_judged, leap_judged}
use Rattle.clock.proofs.Theorems.{days_never_go_back}
use Rattle.clock.proofs.theory.Judged.{zone_known}
use Rattle.series.specs.Series.{Series}
use Rattle.marks.specs.Listed.{listed_marks, first_reached, last_reached, second_of_mark}
use Rattle.marks.proofs.Theorems.{later_marks_are_later}
use Rattle.inputs.specs.Inputs.{Inputs, sun, moon, any_early, inputs_judged, judged_in, InputsAccepted, day_of_mark}
use Rattle.inputs.specs.Known.{Ready, Known}
use Rattle.refusals.specs.declared.Refusal.{Refusal}

-- ---- accepted exactly when
pub leap_known : (leap : List ℤ) → leap_judged leap ≡ accepted → leap_lawful leap ≡ true
unfolding leap_judged
leap_known leap e = not-false (leap_lawful leap) (refuse_when_accepted (not (leap_lawful leap)) 1 e)

known_leap : (leap : List ℤ) → leap_lawful leap ≡ true → leap_judged leap ≡ accepted
unfolding leap_judged
known_leap leap l = rw l

pub known : (i : Inputs) → InputsAccepted i → Known i
unfolding inputs_judged
known i e =
    let a = before_accepted _ _ e in
    let b = before_accepted _ _ a.1 in
    let d = before_accepted _ _ b.1 in
    let table = leap_known i.leap a.0 in
    let late = neither (any_early i.leap (listed_marks (sun i))) (any_early i.leap (listed_marks (moon i))) (refuse_when_accepted _ 7 d.1) in
    record {
      sun_ready = record { lawful_table = table; is_accepted = b.0; none_early = late.0 };
      moon_ready = record { lawful_table = table; is_accepted = d.0; none_early = late.1 };
    }

pub accepted_exactly_when : (i : Inputs) → InputsAccepted i ↔ Known i
unfolding inputs_judged
accepted_exactly_when i = (
  known i,
  λ k. rw (known_leap i.leap k.sun_ready.lawful_table, k.sun_ready.is_accepted, k.moon_ready.is_accepted, k.sun_ready.none_early, k.moon_ready.none_early),
)

-- in a zone: the zone is one, and small, and the inputs are accepted
pub accepted_in : (i : Inputs) (zone : ℤ) → judged_in i zone ≡ accepted → Within 1000 zone × InputsAccepted i
unfolding judged_in
accepted_in i zone e = let a = before_accepted (zone_judged zone) (inputs_judged i) e in (zone_known zone a.0, a.1)

-- ---- any two results that a judge may give are the same result
pub judge_one_result : (i : Inputs) (a b : Result (Unit {0}) Refusal) → paper a ≡ inputs_judged i → paper b ≡ inputs_judged i → a ≡ b
judge_one_result i a b = one_result paper checks_apart a b

pub judge_in_one_result : (i : Inputs) (zone : ℤ) (a b : Result (Unit {0}) Refusal) → paper a ≡ judged_in i zone → paper b ≡ judged_in i zone → a ≡ b
judge_in_one_result i zone a b = one_result paper checks_apart a b

-- ---- of a ready series: days of marks rise with the index
pub mark_days_rise : (leap : List ℤ) (s : Series) → Ready leap s → (j k : ℤ) → first_reached s <ℤ j → j ≤ℤ k → k ≤ℤ last_reached s → (zone : ℤ) → (day_of_mark leap s zone j).0 ⩽ (day_of_mark leap s zone k).0
unfolding day_of_mark
mark_days_rise leap s r j k low between high zone =
    days_never_go_back leap r.lawful_table (record { 0 = second_of_mark s j }) (record { 0 = second_of_mark s k })
    (⊎_elim
    (λ (back : k ≤ℤ j). ≤_of-≡ (ap (second_of_mark s) (≤_antisymm between back)))
    (λ (on : j <ℤ k). <→≤ (later_marks_are_later s r.is_accepted j k low on high))
    (≤_total k j))
    zone
