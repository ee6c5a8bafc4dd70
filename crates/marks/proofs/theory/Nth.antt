-- The k-th mark of an accepted series: its index, and that it can be looked for. Assumes nothing.
use Rattle.std.specs.Prelude.{◌≡◌, refl, [], ◌∷◌, ℕ, zero, suc, ◌<◌, ◌≤◌, ℤ, pos, ◌+ℤ◌, ◌≤ℤ◌, ◌<ℤ◌, length, get_or}
use native.Mathlib.Omega.{arith}
use Rattle.std.specs.Int.{w64}
use Rattle.std.proofs.Common.{SFits}
use Rattle.whole.specs.Parts.{→≤}
use Rattle.whole.specs.Laws.{≤_trans, <→≤, abs--}
use Rattle.whole.specs.Solver.{⇑, ⇓, ring}
use Rattle.whole.specs.Ranges.{fit_hyp}
use Rattle.whole.proofs.Floor.{floor_div_fits, floor_div_holds}
use Rattle.whole.specs.Distance.{distance_from, distance_is, between_fits}
use Rattle.series.specs.Bodies.{numbers}
use Rattle.series.specs.Series.{Series, value_at, last_second, InSpan}
use Rattle.series.specs.Acceptance.{Accepted}
use Rattle.series.specs.Rising.{Rising}
use Rattle.series.proofs.Theorems.{accepted_rises}
use Rattle.series.proofs.theory.Span.{span_ordered, start_in_span, last_in_span, value_in_span}
use Rattle.marks.specs.Marks.{index_at}
use Rattle.marks.specs.Crossings.{marked}
use Rattle.marks.specs.Listed.{listed_marks, first_reached, last_reached, second_of_mark, MarkAt}
use Rattle.marks.specs.Answers.{no_mark}
use Rattle.marks.proofs.theory.Indices.{index_mono}
use Rattle.marks.proofs.theory.StretchLaws.{length_is}
use Rattle.marks.proofs.theory.Located.{located, nth_listed, seconds_rise}

module _ (s : Series) (e : Accepted s) where
  rising : Rising (value_at s) s.start (last_second s) (numbers s.body).mark_size
  rising = accepted_rises s e

  ordered : s.start ≤ℤ last_second s
  ordered = span_ordered s e

  at_start : s.start ≤ℤ s.start
  at_start = →≤ (omega arith)

  at_last : last_second s ≤ℤ last_second s
  at_last = →≤ (omega arith)

  first_fits : SFits w64 (first_reached s)
  unfolding index_at
  first_fits = floor_div_fits (numbers s.body).mark_size (fit_hyp {w = w64} (value_in_span s e (start_in_span s e)) tt)

  last_fits : SFits w64 (last_reached s)
  unfolding index_at
  last_fits = floor_div_fits (numbers s.body).mark_size (fit_hyp {w = w64} (value_in_span s e (last_in_span s e)) tt)

  pub indices_ordered : first_reached s ≤ℤ last_reached s
  indices_ordered = index_mono rising at_start ordered at_last

  pub marks_length : length (listed_marks s) ≡ distance_from (first_reached s) (last_reached s)
  marks_length = length_is rising at_start ordered at_last

  -- so few that every sum of them fits
  pub marks_few : length (listed_marks s) ≤ 2000200000000000
  unfolding index_at
  marks_few =
      omega (
        arith,
        marks_length,
        abs-- (last_reached s) (first_reached s),
        floor_div_holds (value_at s s.start) (numbers s.body).mark_size 1000100000000000 (value_in_span s e (start_in_span s e)).within,
        floor_div_holds (value_at s (last_second s)) (numbers s.body).mark_size 1000100000000000 (value_in_span s e (last_in_span s e)).within,
      )

  module _ (k : ℕ) (h : k < length (listed_marks s)) where
    abbrev pub nth_index : ℤ
    nth_index = first_reached s +ℤ pos 1 +ℤ pos k

    pub index_low : first_reached s <ℤ nth_index
    index_low = let ρ = first_reached s ∷ pos k ∷ [] in ⇑ ρ (search ring depth 9) (omega arith)

    pub index_high : nth_index ≤ℤ last_reached s
    index_high =
        let a = first_reached s in
        let b = last_reached s in
        let ρ = a ∷ b ∷ pos k ∷ pos (distance_from a b) ∷ [] in
        ⇑ ρ (search ring depth 9) (omega (arith, ⇓ ρ (distance_is indices_ordered) (search ring), marks_length))

    pub next_fits : SFits w64 (first_reached s +ℤ pos 1)
    next_fits =
        let a = first_reached s in
        between_fits first_fits last_fits (⇑ (a ∷ []) (search ring depth 9) (omega arith)) (≤_trans (⇑ (a ∷ pos k ∷ []) (search ring depth 9) (omega arith)) index_high)

    pub index_fits : SFits w64 nth_index
    index_fits = between_fits first_fits last_fits (<→≤ index_low) index_high

    pub nth_is : get_or (listed_marks s) k no_mark ≡ marked nth_index (second_of_mark s nth_index)
    nth_is = nth_listed rising ordered k no_mark h

    pub nth_crossing : MarkAt s nth_index (second_of_mark s nth_index)
    nth_crossing = located rising ordered nth_index index_low index_high

    pub nth_in_span : InSpan s (second_of_mark s nth_index)
    nth_in_span = record { from_start = <→≤ nth_crossing.after_first; to_last = nth_crossing.by_last }

  -- a later mark is later
  pub nth_later : (k : ℕ) (h : k < length (listed_marks s)) (z : 0 < length (listed_marks s)) → second_of_mark s (nth_index 0 z) ≤ℤ second_of_mark s (nth_index k h)
  nth_later k h z = go k h refl
    where
      go : (k : ℕ) (h : k < length (listed_marks s)) {n : ℕ} → n ≡ k → second_of_mark s (nth_index 0 z) ≤ℤ second_of_mark s (nth_index k h)
      go zero h q = →≤ (omega arith)
      go (suc k) h q = <→≤ (seconds_rise rising ordered (nth_index 0 z) (nth_index (suc k) h) (index_low 0 z) (let ρ = first_reached s ∷ pos (suc k) ∷ [] in ⇑ ρ (search ring depth 9) (omega arith)) (index_high (suc k) h))
