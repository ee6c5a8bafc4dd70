-- Each verdict of the two rules that answer a sui is one that a result says: the result of that verdict says on paper what the rule says. The refusals of a chain are
-- gone through one after another. Assumes nothing.
use Rattle.std.specs.Prelude.{◌≡◌, refl, Bool, true, false, cond, not, ◌||◌, List, [], ◌∷◌, ℕ, zero, suc, ◌-◌, ◌*◌, ◌%◌, eqb, ltb, ℤ, pos, neg_ℤ, ◌-ℤ◌, Result, Ok, Err}
use Rattle.std.proofs.Math.ListN.{length}
use Rattle.std.specs.Int.Signed.{lt_z}
use Rattle.refusals.specs.declared.Refusal.{Refusal}
use Rattle.refusals.specs.declared.Refusal.TheVariants.{LeapTable, Shape, Coefficient, TooSlow, Joint, TooEarly, NoSui, MonthCount, MonthLength, Zone}
use Rattle.refusals.specs.Verdict.{Verdict, answered, refused, refusal, refuse_when, ◌before◌, ◌then◌, paper}
use Rattle.refusals.specs.Search.{first_bad}
use Rattle.clock.specs.Clock.{is_zone}
use Rattle.clock.specs.Leap.{leap_lawful}
use Rattle.clock.specs.Answers.{zone_judged, leap_judged}
use Rattle.series.specs.Bodies.{numbers}
use Rattle.series.specs.Series.{Series, segments}
use Rattle.series.specs.Acceptance.{bad_range, slow, bad_joint, series_judged}
use Rattle.marks.specs.Marks.{Mark}
use Rattle.marks.specs.Listed.{listed_marks}
use Rattle.inputs.specs.Inputs.{Inputs, sun, moon, any_early, inputs_judged, judged_in}
use Rattle.months.specs.declared.SuiDays.{SuiDays}
use Rattle.months.specs.Months.{moon_missing, twelve_or_thirteen, month_count, days_found, first_bad_month, days_of, numbered, lengths_judged, sui_of}
use Rattle.months.specs.Limits.{year_in_range, months_of}
use Rattle.months.proofs.Theorems.{paper_sui_lem}
use Rattle.sui.specs.Sui.{one_solstice, solstices_of, new_moon_days_of, zhongqi_days_of, days_by_marks, sui_days, sui_for}
use Rattle.answers.specs.Said.{result_of, paper_result_lem}

-- ---- a result that says a verdict
abbrev Says : {A : Type 0} → Verdict A → Type 0
Says {A} v = (r : Result A Refusal) × (paper r ≡ v)

says_answer : {A : Type 0} (a : A) → Says (answered a)
says_answer a = (Ok a, refl)

-- ---- in a chain
says_before : {A B : Type 0} {u : Verdict B} {v : Verdict A} → Says u → Says v → Says (u before v)
says_before (Ok a, e) s = rw (← e) s
says_before (Err r, e) s = rw (← e) (Err r, refl)

says_then : {A B : Type 0} {u : Verdict A} {f : A → Verdict B} → Says u → ((a : A) → Says (f a)) → Says (u then f)
says_then (Ok a, e) g = rw (← e) (g a)
says_then (Err r, e) g = rw (← e) (Err r, refl)

says_test : (r : Refusal) {number : ℕ} → refusal {A = Unit {0}} r ≡ refused number 0 → (test : Bool) → Says (refuse_when test number)
says_test r e true = (Err r, e)
says_test r e false = says_answer tt

says_first_bad : (at : ℕ → Refusal) (number : ℕ) → ((k : ℕ) → refusal {A = Unit {0}} (at k) ≡ refused number k) → (bad : ℕ → Bool) (k m : ℕ) → Says (first_bad number bad k m)
unfolding first_bad
says_first_bad at number e bad k zero = says_answer tt
says_first_bad at number e bad k (suc m) = here (bad k) (says_first_bad at number e bad (suc k) m)
  where
    here : (b : Bool) → Says (first_bad number bad (suc k) m) → Says (cond b (refused number k) (first_bad number bad (suc k) m))
    here true behind = (Err (at k), e k)
    here false behind = behind

-- ---- the inputs of a sui: 15; 1; Sun 2 to 5; Moon 2 to 5; 7
series_says : (s : Series) → Says (series_judged s)
unfolding series_judged
series_says s =
    let n = length s.coefs in
    let coefs = s.coefs in
    says_before
    (says_before (says_test Shape refl (not (eqb (n % 14) 0)))
    (says_before (says_test Shape refl (eqb n 0))
    (says_before (says_test Shape refl (ltb (14 * (numbers s.body).most_segments) n))
    (says_before (says_test Shape refl (lt_z s.start (neg_ℤ (pos 10000000000))))
    (says_test Shape refl (lt_z (pos 10000000000) s.start))))))
    (says_before (says_first_bad Coefficient 3 (λ k. refl) (bad_range coefs) 0 (segments coefs))
    (says_before (says_first_bad TooSlow 4 (λ k. refl) (slow s.body coefs) 0 (segments coefs))
    (says_first_bad Joint 5 (λ k. refl) (bad_joint s.body coefs) 1 (segments coefs - 1))))

inputs_say : (i : Inputs) (zone : ℤ) → Says (judged_in i zone)
unfolding judged_in inputs_judged zone_judged leap_judged
inputs_say i zone =
    says_before (says_test Zone refl (not (is_zone zone)))
    (says_before (says_test LeapTable refl (not (leap_lawful i.leap)))
    (says_before (series_says (sun i))
    (says_before (series_says (moon i))
    (says_test TooEarly refl (any_early i.leap (listed_marks (sun i)) || any_early i.leap (listed_marks (moon i)))))))

-- ---- and its days and months: 8; 9; 10
solstice_says : (marks : List Mark) → Says (one_solstice marks)
unfolding one_solstice
solstice_says [] = (Err NoSui, refl)
solstice_says (m ∷ []) = says_answer m
solstice_says (m ∷ n ∷ marks) = (Err NoSui, refl)

days_say : (moons zhongqi : List ℤ) → Says (days_of moons zhongqi)
unfolding days_of
days_say moons zhongqi =
    says_before (says_test NoSui refl (moon_missing moons zhongqi))
    (says_before (says_test MonthCount refl (not (twelve_or_thirteen (month_count moons zhongqi))))
    (says_answer (days_found moons zhongqi)))

lengths_say : (year : ℤ) (days : SuiDays) → Says (sui_of year days)
unfolding sui_of lengths_judged
lengths_say year days = says_before (says_test MonthLength refl (ltb (first_bad_month days) days.months)) (says_answer (numbered year days))

module _ (i : Inputs) (zone year : ℤ) where
  sui_says : Says (sui_for i zone year)
  unfolding sui_for sui_days days_by_marks
  sui_says =
      says_before (inputs_say i zone)
      (says_then
      (says_before (says_test NoSui refl (not (year_in_range year)))
      (says_then (solstice_says (solstices_of i.leap zone (listed_marks (sun i)) (year -ℤ pos 1)))
      (λ first. says_then (solstice_says (solstices_of i.leap zone (listed_marks (sun i)) year))
      (λ last. days_say (new_moon_days_of i.leap zone (listed_marks (moon i))) (zhongqi_days_of i.leap zone (listed_marks (sun i)) first last)))))
      (lengths_say year))

  -- ---- the theorems
  pub sui_result_lem : paper (result_of (sui_for i zone year)) ≡ sui_for i zone year
  sui_result_lem = paper_result_lem sui_says.0 sui_says.1

pub months_result_lem : (year : ℤ) (moons zhongqi : List ℤ) → paper (result_of (months_of year moons zhongqi)) ≡ months_of year moons zhongqi
months_result_lem year moons zhongqi = let s = paper_sui_lem year moons zhongqi in paper_result_lem s.0 s.1
