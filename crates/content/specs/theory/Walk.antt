-- The day on which a month is due, as a walk over months knows it. Assumes nothing.
use Rattle.std.specs.Prelude.{◌≡◌, List, ℤ}
use Rattle.std.proofs.Math.Bool.{true}
use Prim.Native.Nat.{ℕ}
use Rattle.whole.specs.Ranges.{Within}
use Rattle.dates.specs.Answers.{has_date}
use Rattle.content.specs.Content.{month_at}
use Rattle.content.specs.Steps.{day_due}

-- ---- days
-- the day on which month k must begin, where the first month begins on a day that has a date; and it is small enough for every sum
pub record Due (months : List ℤ) (k : ℕ) (day : ℤ) : Type 0 where
  pub dated : has_date (month_at months 0).first ≡ true
  pub is : day ≡ day_due months k
  pub small : Within 1000000 day
