-- What is proved of a series: when exactly it is accepted; and of an accepted one that its values are near the exact sums, and rise from each second of the
-- span, joints included, to the next, by less than a mark. Assumes nothing.
use Rattle.std.specs.Prelude.{◌≡◌, ◌↔◌, [], ◌∷◌, ◌*◌, ℤ, pos, nat_abs, ◌+ℤ◌, ◌-ℤ◌, ◌*ℤ◌}
use Rattle.std.proofs.Common.{arith}
use Rattle.whole.specs.Parts.{◌≺◌}
use Rattle.whole.specs.Solver.{⇑, ⇓, ring}
use Rattle.chebyshev.specs.Segment.{divisor, allowance}
use Rattle.analysis.specs.theory.Between.{abs_below, abs_above}
use Rattle.analysis.proofs.Theorems.{divisor_positive, value_near_exact}
use Rattle.series.specs.declared.Body.{Body}
use Rattle.series.specs.Bodies.{numbers, body_laws}
use Rattle.series.specs.Series.{Series, last_second, InSpan, segment_at, value_at, exact_at}
use Rattle.series.specs.Acceptance.{Accepted}
use Rattle.series.specs.Facts.{Facts}
use Rattle.series.specs.Rising.{Rising, Tracking}
use Rattle.series.proofs.theory.Known.{facts, facts_suffice}
use Rattle.series.proofs.theory.Span.{segment_in_span, place_in_span}
use Rattle.series.proofs.theory.Steps.{rises_by_less, step_or_joint}

-- "A series is accepted when refusal 2 does not apply to it, ..": `Facts` says these words, one by one.
pub accepted_exactly_when : (s : Series) → Accepted s ↔ Facts s
accepted_exactly_when s = (facts s, facts_suffice s)

-- "A circle is 12,960,000,000 units": 24 marks of the Sun, 4 of the Moon.
pub circle_of_marks : (body : Body) → (numbers body).circle * (numbers body).mark_size ≡ 12960000000
circle_of_marks body = (body_laws body).whole_circle

module _ (s : Series) (e : Accepted s) where
  -- "The value is less than 32 units from it in every accepted series." (`allowance` is 32, and both are over the common divisor)
  pub value_near_exact_sum : (second : ℤ) → InSpan s second → pos (nat_abs (divisor *ℤ value_at s second -ℤ exact_at s second)) ≺ pos allowance *ℤ divisor
  unfolding value_at exact_at
  value_near_exact_sum second i =
      let known = facts s e in
      let k = segment_at s second in
      let k_in = segment_in_span s e i in
      value_near_exact (known.ranged.in_range k k_in) (numbers s.body).half_length (known.fast k k_in) (body_laws s.body).long (place_in_span s e i)

  -- an accepted series rises, and by less than a mark, from each second to the next
  pub accepted_rises : Rising (value_at s) s.start (last_second s) (numbers s.body).mark_size
  accepted_rises = record {
    some_mark = omega (arith, (body_laws s.body).large_mark);
    rises = λ t low high. (rises_by_less s e low high).0;
    less_than_a_mark = λ t low high. (rises_by_less s e low high).1;
  }

  -- and its exact sums go with its values
  pub accepted_tracks : Tracking (value_at s) (exact_at s) divisor s.start (last_second s)
  accepted_tracks = record {
    some_divisor = divisor_positive;
    not_far_above = λ t low high. above t (record { from_start = low; to_last = high });
    not_far_below = λ t low high. below t (record { from_start = low; to_last = high });
    steps = λ t low high. step_or_joint s e low high;
  }
    where
      above : (t : ℤ) → InSpan s t → divisor *ℤ value_at s t ≺ exact_at s t +ℤ pos allowance *ℤ divisor
      above t i = let ρ = divisor ∷ value_at s t ∷ exact_at s t ∷ [] in ⇑ ρ (search ring depth 9) (omega (arith, ⇓ ρ (abs_below (divisor *ℤ value_at s t -ℤ exact_at s t) (pos allowance *ℤ divisor) (value_near_exact_sum t i)) (search ring depth 9)))

      below : (t : ℤ) → InSpan s t → exact_at s t ≺ divisor *ℤ value_at s t +ℤ pos allowance *ℤ divisor
      below t i = let ρ = divisor ∷ value_at s t ∷ exact_at s t ∷ [] in ⇑ ρ (search ring depth 9) (omega (arith, ⇓ ρ (abs_above (divisor *ℤ value_at s t -ℤ exact_at s t) (pos allowance *ℤ divisor) (value_near_exact_sum t i)) (search ring depth 9)))
