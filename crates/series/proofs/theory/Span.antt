-- Where a second of the span lies: how far from the start, in which segment, at which place; that an accepted series has a second, few enough of them, and
-- small enough values. Assumes nothing.
use Rattle.std.specs.Prelude.{◌≡◌, refl, Bool, true, false, [], ◌∷◌, ℕ, ◌*◌, ◌%◌, ◌<◌, ◌≤◌, ℤ, pos, negsuc, nat_abs, ◌-ℤ◌, ◌≤ℤ◌}
use Rattle.std.proofs.Common.{arith, mod-lt, mul-le-mul, le_refl, div-lt_iff_lt-mul, lit≤, SFits}
use Rattle.std.specs.Int.{w64}
use Rattle.whole.specs.Parts.{→≤}
use Rattle.whole.specs.Laws.{abs-*}
use Rattle.whole.specs.Solver.{⇑, ⇓, ring}
use Rattle.whole.specs.Ranges.{Within}
use Rattle.whole.specs.Booleans.{not_both}
use Rattle.whole.specs.Tests.{in_range_says, says_in_range}
use Rattle.whole.specs.Distance.{distance_from, distance_is, between_fits}
use Rattle.chebyshev.specs.Polynomials.{S}
use Rattle.analysis.proofs.Theorems.{value_bound}
use Rattle.series.specs.declared.Body.{Body}
use Rattle.series.specs.Bodies.{numbers, BodyLaws, body_laws}
use Rattle.series.specs.Series.{Series, segments, segment_length, segment_start, last_second, InSpan, covers, segment_at, place_at, value_at}
use Rattle.series.specs.Acceptance.{Accepted}
use Rattle.series.specs.Facts.{Facts}
use Rattle.series.proofs.theory.Known.{facts}
use Rattle.series.specs.theory.Place.{place_after, place_by_remainder}

module _ (body : Body) where
  law : BodyLaws (numbers body)
  law = body_laws body

  pub some_seconds : 0 < segment_length body
  some_seconds = omega (arith, law.long)

  pub place_within : (d : ℕ) → Within S (place_after body d)
  place_within d = record { within = rw (abs-* (pos (numbers body).step) (pos (d % segment_length body) -ℤ pos (numbers body).half_length), ← law.exact_step) (mul-le-mul (le_refl (numbers body).step) (near (d % segment_length body) (numbers body).half_length (mod-lt d some_seconds))) }
    where
      near : (w h : ℕ) → w < 2 * h → nat_abs (pos w -ℤ pos h) ≤ h
      near w h l = let ρ = pos w ∷ pos h ∷ [] in ⇑ ρ (search ring depth 9) (omega arith, omega arith)

-- the places of a segment's first and last second
pub first_within : Within S (negsuc 66355199)
first_within = record { within = lit≤ tt }

pub last_within : (body : Body) → Within S (pos S -ℤ pos (numbers body).step)
last_within body = record { within = less (numbers body).step (omega (arith, mul-le-mul (le_refl (numbers body).step) some_half, (body_laws body).exact_step)) }
  where
    some_half : 1 ≤ (numbers body).half_length
    some_half = omega (arith, (body_laws body).long)

    less : (q : ℕ) → q ≤ S → nat_abs (pos S -ℤ pos q) ≤ S
    less q h = let ρ = pos q ∷ [] in ⇑ ρ (search ring depth 9) (omega arith, omega arith)

-- what the test tells: a second that is covered is one of the span, and one that is not is none
module _ (s : Series) {second : ℤ} where
  pub covers_says : covers s second ≡ true → InSpan s second
  covers_says h = let r = in_range_says s.start (last_second s) second h in record { from_start = r.0; to_last = r.1 }

  pub says_covers : InSpan s second → covers s second ≡ true
  says_covers i = says_in_range s.start (last_second s) second i.from_start i.to_last

  pub not_covers_says : covers s second ≡ false → InSpan s second → ⊥
  not_covers_says h i = not_both (says_covers i) h

  pub says_not_covers : (InSpan s second → ⊥) → covers s second ≡ false
  says_not_covers outside = go (covers s second) refl
    where
      go : (b : Bool) → covers s second ≡ b → covers s second ≡ false
      go true h = absurd (outside (covers_says h))
      go false h = h

module _ (s : Series) (e : Accepted s) where
  known : Facts s
  known = facts s e

  abbrev seconds : ℕ
  seconds = segment_length s.body * segments s.coefs

  some_length : 1 ≤ seconds
  some_length = mul-le-mul {n₁ = 1} {m₁ = 1} {n₂ = segment_length s.body} {m₂ = segments s.coefs} (some_seconds s.body) known.some_segment

  -- the whole span is short enough for every sum of seconds
  pub span_short : seconds ≤ 5529600000
  span_short = omega (arith, (body_laws s.body).short_span, mul-le-mul (le_refl (segment_length s.body)) known.not_too_many)

  pub end_fits : SFits w64 (segment_start s (segments s.coefs))
  end_fits =
      let ρ = s.start ∷ pos seconds ∷ [] in
      let early = ⇓ ρ known.not_too_early (search ring) in
      let late = ⇓ ρ known.not_too_late (search ring) in
      ⇑ ρ (search ring depth 9) (omega (arith, span_short), omega (arith, span_short))

  pub last_fits : SFits w64 (last_second s)
  last_fits =
      let ρ = s.start ∷ pos seconds ∷ [] in
      let early = ⇓ ρ known.not_too_early (search ring) in
      let late = ⇓ ρ known.not_too_late (search ring) in
      ⇑ ρ (search ring depth 9) (omega (arith, span_short), omega (arith, span_short))

  start_fits : SFits w64 s.start
  start_fits =
      let ρ = s.start ∷ [] in
      let early = ⇓ ρ known.not_too_early (search ring) in
      let late = ⇓ ρ known.not_too_late (search ring) in
      ⇑ ρ (search ring depth 9) (omega arith, omega arith)

  pub span_ordered : s.start ≤ℤ last_second s
  span_ordered =
      let ρ = s.start ∷ pos seconds ∷ [] in
      ⇑ ρ (search ring depth 9) (omega (arith, some_length))

  pub span_few : distance_from s.start (last_second s) < 5529600000
  span_few =
      let ρ = s.start ∷ pos seconds ∷ pos (distance_from s.start (last_second s)) ∷ [] in
      omega (arith, ⇓ ρ (distance_is span_ordered) (search ring depth 9), span_short, some_length)

  -- the first second and the last
  pub start_in_span : InSpan s s.start
  start_in_span = record { from_start = →≤ (omega arith); to_last = span_ordered }

  pub last_in_span : InSpan s (last_second s)
  last_in_span = record { from_start = span_ordered; to_last = →≤ (omega arith) }

  module _ {second : ℤ} (i : InSpan s second) where
    pub second_fits : SFits w64 second
    second_fits = between_fits start_fits last_fits i.from_start i.to_last

    pub distance_in_span : distance_from s.start second < seconds
    distance_in_span =
        let ρ = s.start ∷ second ∷ pos (distance_from s.start second) ∷ pos seconds ∷ [] in
        omega (arith, ⇓ ρ (distance_is i.from_start) (search ring), ⇓ ρ i.to_last (search ring))

    pub segment_in_span : segment_at s second < segments s.coefs
    segment_in_span = (div-lt_iff_lt-mul (some_seconds s.body)).1 (omega (arith, distance_in_span))

    pub place_in_span : Within S (place_at s second)
    place_in_span = rw (place_by_remainder s i.from_start) (place_within s.body (distance_from s.start second))

    pub value_in_span : Within 1000100000000000 (value_at s second)
    unfolding value_at
    value_in_span = value_bound (known.ranged.in_range (segment_at s second) segment_in_span) place_in_span
