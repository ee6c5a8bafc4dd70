-- The days of a sui: which verdict each outcome of the two tests gives, and what the days that are found are. Assumes nothing.
use Rattle.std.specs.Prelude.{◌≡◌, true, false, not, List, ℕ, ◌+◌, ◌-◌, ◌≤◌, ◌<◌, ℤ, pos, get_or, take, drop, replicate}
use Rattle.std.proofs.Math.Path.{ap}
use Rattle.std.proofs.Common.{◌∙◌, arith, length-drop}
use Rattle.std.proofs.lemmas.Bool.{not-false}
use Rattle.std.proofs.Math.ListN.{length, get_or-append}
use Rattle.std.proofs.Math.Seq.{length-take-le, get_or-take, get_or-drop}
use Rattle.whole.specs.Ranges.{All}
use Rattle.whole.specs.Bounded.{all_drop, all_take, all_append, all_zeros}
use Rattle.refusals.specs.Verdict.{answered, refused, refuse_when, ◌before◌, test_answered, answers_apart}
use Rattle.months.specs.declared.SuiDays.{SuiDays}
use Rattle.months.specs.Months.{by_first, by_second, moon_missing, month_count, twelve_or_thirteen, days_found, days_of, month_first}
use Rattle.months.proofs.theory.Listed.{none_missing, at_most_thirteen}

module _ (moons zhongqi : List ℤ) where
  pub days_missing : moon_missing moons zhongqi ≡ true → refused 8 0 ≡ days_of moons zhongqi
  unfolding days_of
  days_missing e = rw e

  module _ (there : moon_missing moons zhongqi ≡ false) where
    pub days_other_count : twelve_or_thirteen (month_count moons zhongqi) ≡ false → refused 9 0 ≡ days_of moons zhongqi
    unfolding days_of
    days_other_count e = rw (there, e)

    pub days_are_found : twelve_or_thirteen (month_count moons zhongqi) ≡ true → answered (days_found moons zhongqi) ≡ days_of moons zhongqi
    unfolding days_of
    days_are_found e = rw (there, e)

    -- the new moons from month 11 on are listed
    pub some_listed : (0 < by_first moons zhongqi) × (by_second moons zhongqi < length moons)
    unfolding moon_missing
    some_listed = none_missing (by_first moons zhongqi) (by_second moons zhongqi) (length moons) there

-- ---- what an answer tells
module _ (moons zhongqi : List ℤ) {days : SuiDays} (found : days_of moons zhongqi ≡ answered days) where
  tests_pass : (moon_missing moons zhongqi ≡ false) × (refuse_when (not (twelve_or_thirteen (month_count moons zhongqi))) 9 before answered (days_found moons zhongqi) ≡ answered days)
  unfolding days_of
  tests_pass = test_answered (moon_missing moons zhongqi) 8 (refuse_when (not (twelve_or_thirteen (month_count moons zhongqi))) 9 before answered (days_found moons zhongqi)) days found

  counted : (not (twelve_or_thirteen (month_count moons zhongqi)) ≡ false) × (answered (days_found moons zhongqi) ≡ answered days)
  counted = test_answered (not (twelve_or_thirteen (month_count moons zhongqi))) 9 (answered (days_found moons zhongqi)) days tests_pass.1

  pub found_listed : (0 < by_first moons zhongqi) × (by_second moons zhongqi < length moons)
  found_listed = some_listed moons zhongqi tests_pass.0

  pub found_count : twelve_or_thirteen (month_count moons zhongqi) ≡ true
  found_count = not-false (twelve_or_thirteen (month_count moons zhongqi)) counted.0

  pub found_is : days_found moons zhongqi ≡ days
  found_is = answers_apart counted.1

  pub found_months : month_count moons zhongqi ≡ days.months
  unfolding days_found
  found_months = ap (λ (d : SuiDays). d.months) found_is

  pub found_twelve : twelve_or_thirteen days.months ≡ true
  found_twelve = rw (← found_months) found_count

  pub found_small : {n : ℕ} → All n moons → All n days.moons
  unfolding days_found
  found_small h = rw (← found_is) (all_append (all_take (month_count moons zhongqi + 1) (all_drop (by_first moons zhongqi - 1) h)) (all_zeros (14 - (month_count moons zhongqi + 1))))

  pub found_zhongqi : zhongqi ≡ days.zhongqi
  unfolding days_found
  found_zhongqi = ap (λ (d : SuiDays). d.zhongqi) found_is

  -- the months begin on consecutive new-moon days
  pub found_first : (place : ℕ) → place ≤ days.months → month_first days place ≡ get_or moons (by_first moons zhongqi - 1 + place) (pos 0)
  unfolding days_found month_count
  found_first place h =
      let n = month_count moons zhongqi in
      let from = by_first moons zhongqi - 1 in
      let listed = found_listed in
      let few = at_most_thirteen n found_count in
      let same = found_months in
      let long : length (take (n + 1) (drop from moons)) ≡ n + 1 = length-take-le (n + 1) (drop from moons) (rw (length-drop from moons) (omega arith)) in
      rw (← found_is)
      (get_or-append (take (n + 1) (drop from moons)) (replicate (14 - (n + 1)) (pos 0)) (pos 0) place (omega arith)
      ∙ get_or-take (n + 1) (drop from moons) place (pos 0) (omega arith) ∙ get_or-drop from moons place (pos 0))
