-- The marks of a series: those of its whole span (document 01, "Marks"), the indices at the span's two ends, and the second of one of its marks; where a mark
-- is, by the values and by the exact sum. Assumes nothing: these are definitions.
use Rattle.std.specs.Prelude.{List, ℤ, pos, ◌*ℤ◌, ◌≤ℤ◌, ◌<ℤ◌}
use Rattle.chebyshev.specs.Segment.{divisor}
use Rattle.series.specs.Bodies.{numbers}
use Rattle.series.specs.Series.{Series, value_at, exact_at, last_second}
use Rattle.marks.specs.Marks.{Mark, index_at, marks, second_of}
use Rattle.marks.specs.Crossings.{Crossing, marked, ◌∈◌}

module _ (s : Series) where
  -- the marks of a stretch, and of the whole span
  abbrev pub marks_between : ℤ → ℤ → List Mark
  marks_between = marks (value_at s) (numbers s.body).mark_size

  abbrev pub listed_marks : List Mark
  listed_marks = marks_between s.start (last_second s)

  -- how many marks are reached at a second
  abbrev pub reached_at : ℤ → ℤ
  reached_at second = index_at (value_at s) (numbers s.body).mark_size second

  abbrev pub first_reached : ℤ
  first_reached = reached_at s.start

  abbrev pub last_reached : ℤ
  last_reached = reached_at (last_second s)

  -- the second at which mark j is listed
  abbrev pub second_of_mark : ℤ → ℤ
  second_of_mark j = second_of (value_at s) (numbers s.body).mark_size s.start (last_second s) j

  -- "Mark j is at second .."
  abbrev pub MarkAt : ℤ → ℤ → Type 0
  MarkAt j second = Crossing (value_at s) (numbers s.body).mark_size s.start (last_second s) (marked j second)

  -- mark j is listed at a second
  abbrev pub ListedAt : ℤ → ℤ → Type 0
  ListedAt j second = marked j second ∈ listed_marks

  -- mark j as the exact sum is written, over the common divisor; the exact sum under it, at or over it, over it
  abbrev pub exact_mark : ℤ → ℤ
  exact_mark j = divisor *ℤ (j *ℤ pos (numbers s.body).mark_size)

  abbrev pub ExactUnder : ℤ → ℤ → Type 0
  ExactUnder j second = exact_at s second <ℤ exact_mark j

  abbrev pub ExactReached : ℤ → ℤ → Type 0
  ExactReached j second = exact_mark j ≤ℤ exact_at s second

  abbrev pub ExactOver : ℤ → ℤ → Type 0
  ExactOver j second = exact_mark j <ℤ exact_at s second
