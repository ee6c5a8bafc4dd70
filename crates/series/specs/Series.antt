-- A series: a start second and fourteen coefficients a segment. Which segment has a second, and at which place; the value and the exact sum there
-- (document 01, "Segments"). Assumes nothing: these are definitions.
use Rattle.std.specs.Prelude.{Bool, List, ℕ, ◌*◌, ◌/◌, ℤ, pos, ◌+ℤ◌, ◌-ℤ◌, ◌*ℤ◌, ◌≤ℤ◌, length, take, drop}
use Rattle.whole.specs.Distance.{distance_from}
use Rattle.whole.specs.Tests.{in_range}
use Rattle.chebyshev.specs.Segment.{value, exact}
use Rattle.series.specs.declared.Body.{Body}
use Rattle.series.specs.Bodies.{numbers}

-- "The start and the lent coefficients travel as one thing."
pub record Series : Type 0 where
  pub body : Body
  pub start : ℤ
  pub coefs : List ℤ

abbrev pub series : Body → ℤ → List ℤ → Series
series body start coefs = record { body = body; start = start; coefs = coefs }

-- the coefficients of segment k, and how many segments there are
abbrev pub segment : List ℤ → ℕ → List ℤ
segment coefs k = take 14 (drop (14 * k) coefs)

abbrev pub segments : List ℤ → ℕ
segments coefs = length coefs / 14

-- "Segment k begins at start + 2Hk and has 2H seconds."
abbrev pub segment_length : Body → ℕ
segment_length body = 2 * (numbers body).half_length

abbrev pub segment_start : Series → ℕ → ℤ
segment_start s k = s.start +ℤ pos (segment_length s.body * k)

-- its middle: H seconds after its first
abbrev pub middle_of : Series → ℕ → ℤ
middle_of s k = segment_start s k +ℤ pos (numbers s.body).half_length

-- the span: from the first second of the first segment to the last of the last
abbrev pub last_second : Series → ℤ
last_second s = segment_start s (segments s.coefs) -ℤ pos 1

pub record InSpan (s : Series) (second : ℤ) : Type 0 where
  pub from_start : s.start ≤ℤ second
  pub to_last : second ≤ℤ last_second s

-- the same as a test: whether the series covers the second
abbrev pub covers : Series → ℤ → Bool
covers s second = in_range s.start (last_second s) second

-- the segment that has a second
abbrev pub segment_at : Series → ℤ → ℕ
segment_at s second = distance_from s.start second / segment_length s.body

-- "the place of a second in its segment is X = (S/H) x (second - middle)"
abbrev pub place_at : Series → ℤ → ℤ
place_at s second = pos (numbers s.body).step *ℤ (second -ℤ middle_of s (segment_at s second))

unfoldable pub value_at : Series → ℤ → ℤ
value_at s second = value (segment s.coefs (segment_at s second)) (place_at s second)

-- the exact sum, over the common divisor S¹³
unfoldable pub exact_at : Series → ℤ → ℤ
exact_at s second = exact (segment s.coefs (segment_at s second)) (place_at s second)
