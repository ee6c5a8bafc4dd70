-- How fast an accepted series can rise: by at most 100,000 units from a second to the next, inside a segment and at a joint, and so by at most 100,000 times the
-- seconds of a stretch. Assumes nothing.
use Rattle.std.specs.Prelude.{◌≡◌, refl, [], ◌∷◌, ℕ, zero, suc, ◌+◌, ◌*◌, ◌-◌, ◌/◌, ◌%◌, ◌<◌, ℤ, pos, neg_ℤ, ◌+ℤ◌, ◌-ℤ◌, ◌*ℤ◌, ◌≤ℤ◌, ◌<ℤ◌}
use Rattle.std.proofs.Common.{ap, ◌∙◌, arith, mod-lt}
use Rattle.std.proofs.Math.Decide.{dec_lt}
use Rattle.whole.specs.Parts.{◌⩽◌}
use Rattle.whole.specs.Laws.{<→≤}
use Rattle.whole.specs.Solver.{⇑, ⇓, ring}
use Rattle.whole.specs.Distance.{distance_from, distance_next, next as one_further}
use Rattle.whole.proofs.Floor.{div_step, div_wrap}
use Rattle.chebyshev.specs.Polynomials.{S}
use Rattle.chebyshev.specs.Segment.{value}
use Rattle.analysis.proofs.Theorems.{value_rises_little}
use Rattle.series.specs.Bodies.{numbers, BodyLaws, body_laws}
use Rattle.series.specs.Series.{Series, segment, segments, segment_length, last_second, InSpan, value_at}
use Rattle.series.specs.Acceptance.{Accepted, rise}
use Rattle.series.specs.Facts.{Facts}
use Rattle.series.proofs.theory.Known.{facts}
use Rattle.series.specs.theory.Place.{place_after, value_by_remainder}
use Rattle.series.proofs.theory.Span.{some_seconds, place_within, segment_in_span}

module _ (s : Series) (e : Accepted s) {t : ℤ} (low : s.start ≤ℤ t) (high : t <ℤ last_second s) where
  known : Facts s
  known = facts s e

  law : BodyLaws (numbers s.body)
  law = body_laws s.body

  abbrev L : ℕ
  L = segment_length s.body

  abbrev q : ℕ
  q = (numbers s.body).step

  abbrev d : ℕ
  d = distance_from s.start t

  abbrev k : ℕ
  k = d / L

  next : InSpan s (t +ℤ pos 1)
  next = record {
    from_start = let ρ = s.start ∷ t ∷ [] in ⇑ ρ (search ring) (omega (arith, ⇓ ρ low (search ring)));
    to_last = let ρ = t ∷ last_second s ∷ [] in ⇑ ρ (search ring) (omega (arith, ⇓ ρ high (search ring)));
  }

  k_in : k < segments s.coefs
  k_in = segment_in_span s e (record { from_start = low; to_last = <→≤ high })

  at_next : distance_from s.start (t +ℤ pos 1) ≡ d + 1
  at_next = distance_next low

  -- inside a segment: one step of the place further on
  inside : d % L + 1 < L → value_at s (t +ℤ pos 1) ⩽ value_at s t +ℤ pos 100000
  inside h =
      let step_on : place_after s.body (d + 1) ≡ place_after s.body d +ℤ pos q = rw (div_step L d h).1 (⇑ (pos q ∷ pos (d % L) ∷ pos (numbers s.body).half_length ∷ []) (search ring depth 9) refl) in
      let most = value_rises_little (known.ranged.in_range k k_in) (numbers s.body).half_length (known.fast k k_in) law.long q law.exact_step (place_within s.body d) (rw step_on at (place_within s.body (d + 1))) in
      let x = value (segment s.coefs k) (place_after s.body d) in
      let y = value (segment s.coefs k) (place_after s.body d +ℤ pos q) in
      let ρ = x ∷ y ∷ [] in
      let there : value_at s (t +ℤ pos 1) ≡ y = value_by_remainder s next.from_start ∙ rw (at_next, (div_step L d h).0, step_on) in
      rw (value_by_remainder s low, there) (⇑ ρ (search ring depth 9) (omega (arith, ⇓ ρ most (search ring depth 9))))

  -- at a joint: from the last place of a segment to the first of the next
  over_joint : d % L + 1 ≡ L → value_at s (t +ℤ pos 1) ⩽ value_at s t +ℤ pos 100000
  over_joint full =
      let ρ = pos q ∷ pos (d % L) ∷ pos (numbers s.body).half_length ∷ [] in
      let last_place : place_after s.body d ≡ pos S -ℤ pos q = ⇑ ρ (search ring depth 9) (omega (arith, ⇓ ρ (ap (λ (n : ℕ). pos n) law.exact_step) (search ring depth 9), ⇓ ρ (ap (λ (n : ℕ). pos (q * n)) full) (search ring depth 9))) in
      let first_place : place_after s.body (d + 1) ≡ neg_ℤ (pos S) = rw (div_wrap L d full (some_seconds s.body)).1 (⇑ ρ (search ring depth 9) (omega (arith, ⇓ ρ (ap (λ (n : ℕ). pos n) law.exact_step) (search ring depth 9)))) in
      let before : k + 1 - 1 ≡ k = omega arith in
      let joint : value_at s (t +ℤ pos 1) -ℤ value_at s t ≡ rise s.body s.coefs (k + 1) = rw (value_by_remainder s next.from_start, value_by_remainder s low, at_next, (div_wrap L d full (some_seconds s.body)).0, first_place, last_place, before) in
      let joint_in : k + 1 < segments s.coefs = rw (at_next, (div_wrap L d full (some_seconds s.body)).0) at (segment_in_span s e next) in
      let σ = value_at s t ∷ value_at s (t +ℤ pos 1) ∷ rise s.body s.coefs (k + 1) ∷ [] in
      ⇑ σ (search ring depth 9) (omega (arith, ⇓ σ joint (search ring depth 9), ⇓ σ (known.joined_most (k + 1) (omega arith) joint_in) (search ring depth 9)))

  pub rises_at_most : value_at s (t +ℤ pos 1) ⩽ value_at s t +ℤ pos 100000
  rises_at_most = go (dec_lt (d % L + 1) L)
    where
      go : Dec (d % L + 1 < L) → value_at s (t +ℤ pos 1) ⩽ value_at s t +ℤ pos 100000
      go (yes h) = inside h
      go (no h) = over_joint (omega (arith, mod-lt d (some_seconds s.body)))

-- over n seconds
pub rises_at_most_over : (s : Series) → Accepted s → (n : ℕ) (t : ℤ) → s.start ≤ℤ t → (t +ℤ pos n) ≤ℤ last_second s → value_at s (t +ℤ pos n) ⩽ value_at s t +ℤ pos 100000 *ℤ pos n
rises_at_most_over s e zero t low high =
    let here : t +ℤ pos 0 ≡ t = ⇑ (t ∷ []) (search ring depth 9) refl in
    let ρ = value_at s t ∷ [] in
    rw here (⇑ ρ (search ring depth 9) (omega arith))
rises_at_most_over s e (suc n) t low high =
    let ρ = t ∷ s.start ∷ last_second s ∷ pos n ∷ [] in
    let on : t +ℤ pos (suc n) ≡ (t +ℤ pos 1) +ℤ pos n = one_further t n in
    let high' : ((t +ℤ pos 1) +ℤ pos n) ≤ℤ last_second s = rw on at high in
    let first = rises_at_most s e {t = t} low (⇑ ρ (search ring depth 9) (omega (arith, ⇓ ρ high' (search ring depth 9)))) in
    let rest = rises_at_most_over s e n (t +ℤ pos 1) (⇑ ρ (search ring depth 9) (omega (arith, ⇓ ρ low (search ring depth 9)))) high' in
    let σ = value_at s t ∷ value_at s (t +ℤ pos 1) ∷ value_at s ((t +ℤ pos 1) +ℤ pos n) ∷ pos n ∷ pos (suc n) ∷ [] in
    rw on (⇑ σ (search ring depth 9) (omega (arith, ⇓ σ first (search ring depth 9), ⇓ σ rest (search ring depth 9))))
