-- Marks and their refusals on both sides. How many marks whole series list stands by itself, since the defined list steps every second: it is shown by the index at
-- both ends, evaluated. A series of two segments lists four marks, and eight words are room for them and seven are not. Assumes nothing.
use Rattle.std.specs.Prelude.{◌≡◌, refl, Bool, List, [], ◌∷◌, ◌++◌, ℕ, ◌*◌, ◌≤◌, ◌<◌, T, eqb, ℤ, pos, neg_ℤ, length}
use Rattle.std.proofs.Common.{ap₂, ◌∙◌, lt-ltb, le-ltb, lit≤, lit<}
use Rattle.whole.specs.Floor.{floor_div}
use Rattle.whole.specs.Distance.{distance_from}
use Rattle.whole.specs.Evaluated.{same, all}
use Rattle.refusals.specs.Verdict.{answered, refused}
use Rattle.refusals.specs.Search.{first_bad}
use Rattle.refusals.specs.Evaluated.{is_refused, is_refused_at}
use Rattle.chebyshev.specs.Polynomials.{P}
use Rattle.chebyshev.specs.Segment.{sum, value, slope}
use Rattle.series.specs.declared.Body.TheVariants.{Sun}
use Rattle.series.specs.Bodies.{numbers}
use Rattle.series.specs.Series.{Series, series, value_at}
use Rattle.series.specs.Acceptance.{Accepted, series_judged}
use Rattle.series.specs.Examples.{three, sun_segment, sun, moon, joined, alone}
use Rattle.marks.specs.Marks.{index_at, mark_at}
use Rattle.marks.specs.Listed.{listed_marks, reached_at, first_reached, last_reached}
use Rattle.marks.specs.Answers.{counted_marks, listed_into}
use Rattle.marks.proofs.theory.Words.{words_length}
use Rattle.marks.proofs.theory.Nth.{marks_length}

-- how many marks a second of a series lists
abbrev listed_at : Series → ℤ → ℕ
listed_at s second = length (mark_at (value_at s) (numbers s.body).mark_size second)

unfoldable pub examples : List Bool
unfolding series_judged value_at value slope sum P floor_div first_bad index_at mark_at
examples =
    -- a mark is reached at a second, and not before or again
    eqb (listed_at sun (pos 1349999)) 0
    ∷ eqb (listed_at sun (pos 1350000)) 1
    ∷ eqb (listed_at sun (pos 1350001)) 0
    ∷ eqb (listed_at moon (pos 1)) 1
    ∷ eqb (listed_at moon (pos 2)) 0
    -- a mark at a joint: 1,079,999,800 at the last second of a segment, 1,080,000,200 at the first of the next
    ∷ eqb (listed_at (series Sun (pos 0) (three (pos 527040200) (pos 552960000) (pos 0) ++ three (pos 1632960200) (pos 552960000) (pos 0))) (pos 2764800)) 1
    -- indices, rounded down below zero too
    ∷ same (reached_at sun (pos 1349999)) (pos 0)
    ∷ same (reached_at sun (pos 1350000)) (pos 1)
    ∷ same (reached_at moon (pos 0)) (pos 0)
    ∷ same (reached_at moon (pos 1)) (pos 1)
    ∷ same (reached_at (series Sun (pos 0) (three (pos 552959999) (pos 552960000) (pos 0))) (pos 0)) (neg_ℤ (pos 1))
    -- 2 to 5 before 12
    ∷ is_refused (listed_into (series Sun (pos 10000000001) sun_segment) 0) 2
    ∷ is_refused_at (listed_into (series Sun (pos 0) (three (pos 0) (pos 5000000000) (pos 0))) 0) 3 0
    ∷ is_refused_at (listed_into (series Sun (pos 0) (three (pos 0) (pos 1) (pos 0))) 0) 4 0
    ∷ is_refused_at (listed_into (joined 1658879000) 0) 5 1
    ∷ is_refused_at (counted_marks (joined 1658879000)) 5 1
    ∷ []

pub examples_hold : T (all examples)
unfolding examples
examples_hold = tt

-- ---- how many marks a series lists, by the index at both ends
module _ (s : Series) (e : Accepted s) {a b : ℤ} (first : first_reached s ≡ a) (last : last_reached s ≡ b) where
  listed : length (listed_marks s) ≡ distance_from a b
  listed = marks_length s e ∙ ap₂ distance_from first last

  counted : counted_marks s ≡ answered (distance_from a b)
  counted = rw (e, listed)

  enough : (room : ℕ) → 2 * distance_from a b ≤ room → listed_into s room ≡ answered (distance_from a b)
  enough room h = rw (e, words_length (listed_marks s), listed, le-ltb room (2 * distance_from a b) h)

  short : (room : ℕ) → room < 2 * distance_from a b → listed_into s room ≡ refused 12 0
  short room h = rw (e, words_length (listed_marks s), listed, lt-ltb room (2 * distance_from a b) h)

-- four marks in two segments
abbrev pub two : Series
two = joined 1658880100

two_accepted : Accepted two
unfolding series_judged value slope sum P floor_div first_bad
two_accepted = refl

two_first : first_reached two ≡ pos 0
unfolding value_at value sum P floor_div index_at
two_first = refl

two_last : last_reached two ≡ pos 4
unfolding value_at value sum P floor_div index_at
two_last = refl

pub four_counted : counted_marks two ≡ answered 4
four_counted = counted two two_accepted two_first two_last

pub four_listed_in_8 : (room : ℕ) → 8 ≤ room → listed_into two room ≡ answered 4
four_listed_in_8 = enough two two_accepted two_first two_last

pub refused_in_7 : listed_into two 7 ≡ refused 12 0
refused_in_7 = short two two_accepted two_first two_last 7 (lit< tt)

-- no mark at all needs no room
abbrev still : Series
still = series Sun (pos 0) (three (pos 138240001) (pos 138240000) (pos 0))

still_accepted : Accepted still
unfolding series_judged value slope sum P floor_div first_bad
still_accepted = refl

pub none_listed_in_0 : listed_into still 0 ≡ answered 0
unfolding value_at value sum P floor_div index_at
none_listed_in_0 = enough still still_accepted {a = pos 0} {b = pos 0} refl refl 0 (lit≤ tt)

-- both ends of the span, by a Sun that rises by 100 units a second: a mark at the last second is listed, one a unit further is not ..
pub listed_at_the_last_second : counted_marks (alone Sun (pos 401760100) (pos 138240000)) ≡ answered 1
unfolding series_judged value_at value slope sum P floor_div first_bad index_at
listed_at_the_last_second = counted (alone Sun (pos 401760100) (pos 138240000)) refl {a = pos 0} {b = pos 1} refl refl

pub not_listed_behind_it : counted_marks (alone Sun (pos 401760099) (pos 138240000)) ≡ answered 0
unfolding series_judged value_at value slope sum P floor_div first_bad index_at
not_listed_behind_it = counted (alone Sun (pos 401760099) (pos 138240000)) refl {a = pos 0} {b = pos 0} refl refl

-- .. and one at the first second is not listed, one a unit further is, at the second after it
pub not_listed_at_the_first_second : counted_marks (alone Sun (pos 678240000) (pos 138240000)) ≡ answered 0
unfolding series_judged value_at value slope sum P floor_div first_bad index_at
not_listed_at_the_first_second = counted (alone Sun (pos 678240000) (pos 138240000)) refl {a = pos 1} {b = pos 1} refl refl

pub listed_behind_it : counted_marks (alone Sun (pos 678239999) (pos 138240000)) ≡ answered 1
unfolding series_judged value_at value slope sum P floor_div first_bad index_at
listed_behind_it = counted (alone Sun (pos 678239999) (pos 138240000)) refl {a = pos 0} {b = pos 1} refl refl
