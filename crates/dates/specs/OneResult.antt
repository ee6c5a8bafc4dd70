-- Two results that a promise of this crate allows are the same result. Assumes nothing.
use Rattle.std.specs.Prelude.{◌≡◌, Result}
use Rattle.refusals.specs.Verdict.{OneToOne, one_result, paper, results_apart}
use Rattle.times.specs.declared.Day.{Day}
use Rattle.dates.specs.declared.Date.{Date}
use Rattle.dates.specs.Answers.{date_of, day_of}
use Rattle.refusals.specs.declared.Refusal.{Refusal}

-- ---- the paper tells answers apart
pub dates_apart : OneToOne (paper {A = Date})
dates_apart = results_apart

pub days_apart : OneToOne (paper {A = Day})
days_apart = results_apart

-- ---- one for each entry point
pub date_of_one_result : (n : Day) (a b : Result Date Refusal) → paper a ≡ date_of n → paper b ≡ date_of n → a ≡ b
date_of_one_result n a b p q = one_result paper dates_apart a b p q

pub day_of_one_result : (d : Date) (a b : Result Day Refusal) → paper a ≡ day_of d → paper b ≡ day_of d → a ≡ b
day_of_one_result d a b p q = one_result paper days_apart a b p q
