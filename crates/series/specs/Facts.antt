-- What an accepted series is: its shape, and each segment's range, slope and joint. `accepted_exactly_when` (Theorems) says that it is this and no more.
-- Assumes nothing: these are definitions.
use Rattle.std.specs.Prelude.{◌≡◌, List, ℕ, ◌*◌, ◌<◌, ◌≤◌, ℤ, pos, neg_ℤ, ◌≤ℤ◌, length}
use Rattle.chebyshev.specs.Segment.{InRange, slope}
use Rattle.series.specs.Bodies.{numbers}
use Rattle.series.specs.Series.{Series, segment, segments}
use Rattle.series.specs.Acceptance.{rise}

-- whole segments, each in range: what refusals 2 and 3 leave
pub record Ranged (coefs : List ℤ) : Type 0 where
  pub whole_segments : length coefs ≡ 14 * segments coefs
  pub in_range : (k : ℕ) → k < segments coefs → InRange (segment coefs k)

pub record Facts (s : Series) : Type 0 where
  pub ranged : Ranged s.coefs
  pub some_segment : 1 ≤ segments s.coefs
  pub not_too_many : segments s.coefs ≤ (numbers s.body).most_segments
  pub not_too_early : neg_ℤ (pos 10000000000) ≤ℤ s.start
  pub not_too_late : s.start ≤ℤ pos 10000000000
  pub fast : (k : ℕ) → k < segments s.coefs → pos (100 * (numbers s.body).half_length) ≤ℤ slope (segment s.coefs k)
  pub joined_least : (k : ℕ) → 1 ≤ k → k < segments s.coefs → pos 200 ≤ℤ rise s.body s.coefs k
  pub joined_most : (k : ℕ) → 1 ≤ k → k < segments s.coefs → rise s.body s.coefs k ≤ℤ pos 100000
