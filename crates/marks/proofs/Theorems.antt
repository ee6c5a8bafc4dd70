-- Demand 3: "Every crossing of a mark is listed once, in order, no others, and lies where the exact Chebyshev sum says", for every accepted series: (a) the list
-- is exactly the crossings of its values, each once, in time order; (b) around a listed mark's second the exact sum is under the mark two seconds before and over
-- it one second after; (c) where the exact sum crosses a mark, the mark is listed, at most one second away. Assumes nothing.
use Rattle.std.specs.Prelude.{◌≡◌, refl, List, [], ◌∷◌, ◌++◌, ◌↔◌, ℕ, ◌*◌, ◌≤◌, ◌<◌, ℤ, pos, ◌+ℤ◌, ◌-ℤ◌, ◌≤ℤ◌, ◌<ℤ◌, length, drop}
use Rattle.std.proofs.Common.{arith, lt-ltb, le-ltb}
use Rattle.whole.specs.Distance.{distance_from}
use Rattle.refusals.specs.Verdict.{answered, refused}
use Rattle.series.specs.Bodies.{numbers}
use Rattle.series.specs.Series.{Series, InSpan, last_second, value_at}
use Rattle.series.specs.Acceptance.{Accepted, series_judged}
use Rattle.series.proofs.Theorems.{accepted_rises, accepted_tracks}
use Rattle.series.proofs.theory.Span.{span_ordered}
use Rattle.marks.specs.Crossings.{marked, InTimeOrder, numbered}
use Rattle.marks.specs.Listed.{marks_between, listed_marks, reached_at, first_reached, last_reached, second_of_mark, MarkAt, ListedAt, ExactUnder, ExactReached, ExactOver}
use Rattle.marks.specs.Words.{mark_words}
use Rattle.refusals.specs.Lent.{written_into}
use Rattle.marks.specs.Answers.{listed_into, words_listed, Answered}
use Rattle.marks.proofs.theory.Words.{words_length}
use Rattle.marks.proofs.theory.Answered.{answered_means}
use Rattle.marks.proofs.theory.StretchLaws.{joined, none, neighbours}
use Rattle.marks.proofs.theory.Crossings.{listed_exactly, listed_in_time_order, one_second, one_index}
use Rattle.marks.proofs.theory.Located.{located, located_only, seconds_rise, listed_located}
use Rattle.marks.proofs.theory.ExactSum.{exact_before, exact_after, exact_crossing_listed}

module _ (s : Series) (e : Accepted s) where
  -- (a) mark j is listed at a second exactly if it is there: every crossing and no other ..
  pub crossings_exactly : (j second : ℤ) → ListedAt s j second ↔ MarkAt s j second
  crossings_exactly j second = listed_exactly (accepted_rises s e) (span_ordered s e) (marked j second)

  -- .. each once, in time order
  pub crossings_in_time_order : InTimeOrder (listed_marks s)
  crossings_in_time_order = listed_in_time_order (accepted_rises s e) (span_ordered s e)

  -- a mark is at one second, and at a second is one mark
  pub one_second_a_mark : (j t u : ℤ) → MarkAt s j t → MarkAt s j u → t ≡ u
  one_second_a_mark = one_second (accepted_rises s e)

  pub one_mark_a_second : (t i j : ℤ) → MarkAt s i t → MarkAt s j t → i ≡ j
  one_mark_a_second = one_index (accepted_rises s e)

  -- (b) two seconds before a listed mark's second the exact sum is under the mark, one second after it is over, where those seconds are in the span
  pub exact_under_before : (j second : ℤ) → ListedAt s j second → InSpan s (second -ℤ pos 2) → ExactUnder s j (second -ℤ pos 2)
  exact_under_before j second l i = exact_before (accepted_rises s e) (accepted_tracks s e) (span_ordered s e) j second l i.from_start

  pub exact_over_after : (j second : ℤ) → ListedAt s j second → InSpan s (second +ℤ pos 1) → ExactOver s j (second +ℤ pos 1)
  exact_over_after j second l i = exact_after (accepted_rises s e) (accepted_tracks s e) (span_ordered s e) j second l i.to_last

  -- (c) where the exact sum is under mark j at a, not the first second, and at it or over at b, not the last, mark j is listed from a to b + 1
  pub exact_crossing_is_listed : (j a b : ℤ) → InSpan s a → s.start <ℤ a → InSpan s b → b <ℤ last_second s → ExactUnder s j a → ExactReached s j b →
      (second : ℤ) × (a ≤ℤ second) × (second ≤ℤ (b +ℤ pos 1)) × ListedAt s j second
  exact_crossing_is_listed j a b i after_first k before_last = exact_crossing_listed (accepted_rises s e) (accepted_tracks s e) (span_ordered s e) j a b after_first i.to_last k.from_start before_last

  -- ---- how a stretch's marks are found (document 01, "Marks")

  -- "A stretch whose end values lie between the same two marks holds none"
  pub same_marks_none : {a b : ℤ} → InSpan s a → a ≤ℤ b → InSpan s b → reached_at s a ≡ reached_at s b → marks_between s a b ≡ []
  same_marks_none i o k = none (accepted_rises s e) i.from_start o k.to_last

  -- "any other stretch gives the marks of its two halves in turn. The halves share their middle second"
  pub halves_in_turn : {a b c : ℤ} → a ≤ℤ b → b ≤ℤ c → marks_between s a b ++ marks_between s b c ≡ marks_between s a c
  halves_in_turn = joined (value_at s) (numbers s.body).mark_size

  -- "two neighbouring seconds with a mark between them give that mark"
  pub neighbours_give_it : (a b : ℤ) → b ≡ a +ℤ pos 1 → reached_at s a <ℤ reached_at s b → marks_between s a b ≡ marked (reached_at s b) b ∷ []
  neighbours_give_it = neighbours (accepted_rises s e)

  -- ---- for the entry point `list_marks`: an accepted series with room enough is listed, in these words, and behind them stands what stood there
  pub accepted_is_listed : (out : List ℤ) → 2 * length (listed_marks s) ≤ length out →
      (listed_into s (length out) ≡ answered (length (listed_marks s)))
      × (written_into (listed_into s (length out)) (words_listed s) out ≡ mark_words (listed_marks s) ++ drop (2 * length (listed_marks s)) out)
  accepted_is_listed out room =
      let size = words_length (listed_marks s) in
      let enough : length (mark_words (listed_marks s)) ≤ length out = omega arith in
      rw (e, le-ltb _ _ enough, size) (refl, refl)

  -- with less room it is refused by 12, and nothing is written
  pub without_room_is_12 : (out : List ℤ) → length out < 2 * length (listed_marks s) →
      (listed_into s (length out) ≡ refused 12 0) × (written_into (listed_into s (length out)) (words_listed s) out ≡ out)
  without_room_is_12 out short =
      let size = words_length (listed_marks s) in
      let less : length out < length (mark_words (listed_marks s)) = omega arith in
      rw (e, lt-ltb _ _ less) (refl, refl)

  -- ---- for callers of the locator

  -- the listed marks are those of the indices after the first second's, up to the last second's, each at the second that the locator gives
  pub listed_by_index : listed_marks s ≡ numbered (second_of_mark s) (first_reached s +ℤ pos 1) (distance_from (first_reached s) (last_reached s))
  listed_by_index = listed_located (accepted_rises s e) (span_ordered s e)

  pub located_crossing : (j : ℤ) → first_reached s <ℤ j → j ≤ℤ last_reached s → MarkAt s j (second_of_mark s j)
  located_crossing = located (accepted_rises s e) (span_ordered s e)

  pub located_nowhere_else : (j second : ℤ) → MarkAt s j second → second ≡ second_of_mark s j
  located_nowhere_else = located_only (accepted_rises s e)

  pub later_marks_are_later : (j k : ℤ) → first_reached s <ℤ j → j <ℤ k → k ≤ℤ last_reached s → second_of_mark s j <ℤ second_of_mark s k
  later_marks_are_later = seconds_rise (accepted_rises s e) (span_ordered s e)

-- a series that is refused is not listed, whatever the room
pub refused_is_not_listed : (s : Series) (number segment : ℕ) (out : List ℤ) → series_judged s ≡ refused number segment →
    (listed_into s (length out) ≡ refused number segment) × (written_into (listed_into s (length out)) (words_listed s) out ≡ out)
refused_is_not_listed s number segment out e = rw e (refl, refl)

-- and nothing else is listed: an answer tells that the series is accepted, how many marks it lists, and that there was room
pub listed_only_when : (s : Series) (room n : ℕ) → listed_into s room ≡ answered n → Answered s room n
listed_only_when = answered_means
