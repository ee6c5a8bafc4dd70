-- From a second of an accepted series to the next: inside a segment the place goes one step on, at a joint it goes from the last place of a segment to the
-- first of the next. Assumes nothing.
use Rattle.std.specs.Prelude.{◌≡◌, refl, [], ◌∷◌, ◌⊎◌, ℕ, ◌+◌, ◌*◌, ◌-◌, ◌/◌, ◌%◌, ◌<◌, ℤ, pos, neg_ℤ, ◌+ℤ◌, ◌-ℤ◌, ◌*ℤ◌, ◌≤ℤ◌, ◌<ℤ◌}
use Rattle.std.proofs.Common.{ap, ◌∙◌, inl, inr, arith, mod-lt}
use Rattle.std.proofs.Math.Decide.{dec_lt}
use Rattle.whole.specs.Parts.{◌⩽◌, ◌≺◌}
use Rattle.whole.specs.Laws.{<→≤}
use Rattle.whole.specs.Solver.{⇑, ⇓, ring}
use Rattle.whole.specs.Ranges.{Within}
use Rattle.whole.specs.Distance.{distance_from, distance_next}
use Rattle.whole.proofs.Floor.{div_step, div_wrap}
use Rattle.chebyshev.specs.Polynomials.{S}
use Rattle.chebyshev.specs.Segment.{value, exact, divisor}
use Rattle.analysis.proofs.Theorems.{exact_rises, value_rises, value_rises_little}
use Rattle.series.specs.Bodies.{numbers, BodyLaws, body_laws}
use Rattle.series.specs.Series.{Series, segment, segments, segment_length, last_second, InSpan, value_at, exact_at}
use Rattle.series.specs.Acceptance.{Accepted, rise}
use Rattle.series.specs.Facts.{Facts}
use Rattle.series.proofs.theory.Known.{facts}
use Rattle.series.specs.theory.Place.{place_after, value_by_remainder, exact_by_remainder}
use Rattle.series.proofs.theory.Span.{some_seconds, place_within, segment_in_span}

module _ (s : Series) (e : Accepted s) {t : ℤ} (low : s.start ≤ℤ t) (high : t <ℤ last_second s) where
  known : Facts s
  known = facts s e

  law : BodyLaws (numbers s.body)
  law = body_laws s.body

  abbrev L : ℕ
  L = segment_length s.body

  abbrev q : ℕ
  q = (numbers s.body).step

  abbrev d : ℕ
  d = distance_from s.start t

  abbrev k : ℕ
  k = d / L

  abbrev u : ℤ
  u = value_at s t

  abbrev w : ℤ
  w = value_at s (t +ℤ pos 1)

  next : InSpan s (t +ℤ pos 1)
  next = record {
    from_start = let ρ = s.start ∷ t ∷ [] in ⇑ ρ (search ring) (omega (arith, ⇓ ρ low (search ring)));
    to_last = let ρ = t ∷ last_second s ∷ [] in ⇑ ρ (search ring) (omega (arith, ⇓ ρ high (search ring)));
  }

  k_in : k < segments s.coefs
  k_in = segment_in_span s e (record { from_start = low; to_last = <→≤ high })

  at_next : distance_from s.start (t +ℤ pos 1) ≡ d + 1
  at_next = distance_next low

  -- inside a segment: one step of the place further on
  module _ (inside : d % L + 1 < L) where
    step_on : place_after s.body (d + 1) ≡ place_after s.body d +ℤ pos q
    step_on = rw (div_step L d inside).1 (⇑ (pos q ∷ pos (d % L) ∷ pos (numbers s.body).half_length ∷ []) (search ring depth 9) refl)

    inside_value : w ≡ value (segment s.coefs k) (place_after s.body d +ℤ pos q)
    inside_value = value_by_remainder s next.from_start ∙ rw (at_next, (div_step L d inside).0, step_on)

    inside_exact : exact_at s (t +ℤ pos 1) ≡ exact (segment s.coefs k) (place_after s.body d +ℤ pos q)
    inside_exact = exact_by_remainder s next.from_start ∙ rw (at_next, (div_step L d inside).0, step_on)

    stepped_within : Within S (place_after s.body d +ℤ pos q)
    stepped_within = rw step_on at (place_within s.body (d + 1))

  -- at a joint: from the last place of a segment to the first of the next
  module _ (full : d % L + 1 ≡ L) where
    last_place : place_after s.body d ≡ pos S -ℤ pos q
    last_place =
        let ρ = pos q ∷ pos (d % L) ∷ pos (numbers s.body).half_length ∷ [] in
        ⇑ ρ (search ring depth 9) (omega (arith, ⇓ ρ (ap (λ (n : ℕ). pos n) law.exact_step) (search ring depth 9), ⇓ ρ (ap (λ (n : ℕ). pos (q * n)) full) (search ring depth 9)))

    first_place : place_after s.body (d + 1) ≡ neg_ℤ (pos S)
    first_place =
        let ρ = pos q ∷ pos (numbers s.body).half_length ∷ [] in
        rw (div_wrap L d full (some_seconds s.body)).1 (⇑ ρ (search ring depth 9) (omega (arith, ⇓ ρ (ap (λ (n : ℕ). pos n) law.exact_step) (search ring depth 9))))

    joint : w -ℤ u ≡ rise s.body s.coefs (k + 1)
    joint = let before : k + 1 - 1 ≡ k = omega arith in rw (value_by_remainder s next.from_start, value_by_remainder s low, at_next, (div_wrap L d full (some_seconds s.body)).0, first_place, last_place, before)

    joint_in : k + 1 < segments s.coefs
    joint_in = rw (at_next, (div_wrap L d full (some_seconds s.body)).0) at (segment_in_span s e next)

    joint_least : u +ℤ pos 200 ⩽ w
    joint_least =
        let ρ = u ∷ w ∷ rise s.body s.coefs (k + 1) ∷ [] in
        ⇑ ρ (search ring depth 9) (omega (arith, ⇓ ρ joint (search ring depth 9), ⇓ ρ (known.joined_least (k + 1) (omega arith) joint_in) (search ring depth 9)))

    joint_most : w ⩽ u +ℤ pos 100000
    joint_most =
        let ρ = u ∷ w ∷ rise s.body s.coefs (k + 1) ∷ [] in
        ⇑ ρ (search ring depth 9) (omega (arith, ⇓ ρ joint (search ring depth 9), ⇓ ρ (known.joined_most (k + 1) (omega arith) joint_in) (search ring depth 9)))

  -- one or the other
  either : {A : Type 0} → (d % L + 1 < L → A) → (d % L + 1 ≡ L → A) → A
  either {A} f g = go (dec_lt (d % L + 1) L)
    where
      go : Dec (d % L + 1 < L) → A
      go (yes h) = f h
      go (no h) = g (omega (arith, mod-lt d (some_seconds s.body)))

  pub rises_by_less : (u ≺ w) × (w ≺ u +ℤ pos (numbers s.body).mark_size)
  rises_by_less = either within_segment over_joint
    where
      within_segment : d % L + 1 < L → (u ≺ w) × (w ≺ u +ℤ pos (numbers s.body).mark_size)
      within_segment h =
          let r = known.ranged.in_range k k_in in
          let fast = known.fast k k_in in
          let least = value_rises r (numbers s.body).half_length fast law.long q law.exact_step (place_within s.body d) (stepped_within h) in
          let most = value_rises_little r (numbers s.body).half_length fast law.long q law.exact_step (place_within s.body d) (stepped_within h) in
          let x = value (segment s.coefs k) (place_after s.body d) in
          let y = value (segment s.coefs k) (place_after s.body d +ℤ pos q) in
          let ρ = x ∷ y ∷ pos (numbers s.body).mark_size ∷ [] in
          rw (value_by_remainder s low, inside_value h) (⇑ ρ (search ring depth 9) (omega (arith, ⇓ ρ least (search ring depth 9))), ⇑ ρ (search ring depth 9) (omega (arith, ⇓ ρ most (search ring depth 9), law.large_mark)))

      over_joint : d % L + 1 ≡ L → (u ≺ w) × (w ≺ u +ℤ pos (numbers s.body).mark_size)
      over_joint h =
          let ρ = u ∷ w ∷ pos (numbers s.body).mark_size ∷ [] in
          (⇑ ρ (search ring depth 9) (omega (arith, ⇓ ρ (joint_least h) (search ring depth 9))), ⇑ ρ (search ring depth 9) (omega (arith, ⇓ ρ (joint_most h) (search ring depth 9), law.large_mark)))

  pub step_or_joint : ((exact_at s t +ℤ pos 100 *ℤ divisor) ≤ℤ exact_at s (t +ℤ pos 1)) ⊎ ((u +ℤ pos 200) ≤ℤ w)
  step_or_joint = either (λ h. inl (rw (exact_by_remainder s low, inside_exact h) (exact_rises (known.ranged.in_range k k_in) (numbers s.body).half_length (known.fast k k_in) q law.exact_step (place_within s.body d) (stepped_within h)))) (λ h. inr (joint_least h))
