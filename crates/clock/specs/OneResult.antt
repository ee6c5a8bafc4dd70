-- Two results that a promise of this crate allows are the same result. Assumes nothing.
use Rattle.std.specs.Prelude.{◌≡◌, List, ℤ, Result}
use Rattle.refusals.specs.Verdict.{OneToOne, one_result, one_content, checks_apart, paper, results_apart}
use Rattle.times.specs.declared.Day.{Day}
use Rattle.times.specs.declared.Second.{Second}
use Rattle.times.specs.declared.Milli.{Milli}
use Rattle.dates.specs.OneResult.{days_apart}
use Rattle.clock.specs.Clock.{day_of_milli}
use Rattle.clock.specs.Answers.{leap_judged, milli_of, day_of_second, shown_of}
use Rattle.clock.specs.declared.ShownTime.{ShownTime}
use Rattle.refusals.specs.declared.Refusal.{Refusal}

-- ---- the paper tells answers apart
pub millis_apart : OneToOne (paper {A = Milli})
millis_apart = results_apart

pub shown_apart : OneToOne (paper {A = ShownTime})
shown_apart = results_apart

-- ---- one for each entry point
pub judge_leap_table_one_result : (leap : List ℤ) (a b : Result (Unit {0}) Refusal) → paper a ≡ leap_judged leap → paper b ≡ leap_judged leap → a ≡ b
judge_leap_table_one_result leap a b p q = one_result paper checks_apart a b p q

pub milli_of_one_result : (leap : List ℤ) (s : Second) (zone : ℤ) (a b : Result Milli Refusal) → paper a ≡ milli_of leap s zone → paper b ≡ milli_of leap s zone → a ≡ b
milli_of_one_result leap s zone a b p q = one_result paper millis_apart a b p q

pub day_of_second_one_result : (leap : List ℤ) (s : Second) (zone : ℤ) (a b : Result Day Refusal) → paper a ≡ day_of_second leap s zone → paper b ≡ day_of_second leap s zone → a ≡ b
day_of_second_one_result leap s zone a b p q = one_result paper days_apart a b p q

pub shown_one_result : (leap : List ℤ) (s : Second) (zone : ℤ) (a b : Result ShownTime Refusal) → paper a ≡ shown_of leap s zone → paper b ≡ shown_of leap s zone → a ≡ b
shown_one_result leap s zone a b p q = one_result paper shown_apart a b p q

pub day_of_milli_one_result : (m : Milli) (a b : Day) → a ≡ day_of_milli m → b ≡ day_of_milli m → a ≡ b
day_of_milli_one_result m a b p q = one_content a b p q
