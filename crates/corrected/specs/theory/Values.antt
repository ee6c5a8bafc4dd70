-- Where the segments are the same words, two series that begin at one second have the same values. Which segment has a second, by the seconds at which segments begin.
-- Assumes nothing.
use Rattle.std.specs.Prelude.{◌≡◌, List, [], ◌∷◌, ℕ, ◌*◌, ◌≤◌, ◌<◌, ℤ, pos, ◌-ℤ◌, ◌≤ℤ◌, ◌<ℤ◌}
use Rattle.std.proofs.Common.{ap, arith, mul-le-mul, le_refl, le-div_iff_mul-le, div-lt_iff_lt-mul, SFits}
use Rattle.std.specs.Int.{w64}
use Rattle.whole.specs.Solver.{⇑, ⇓, ring}
use Rattle.whole.specs.Distance.{distance_from, distance_is}
use Rattle.chebyshev.specs.Segment.{value}
use Rattle.series.specs.declared.Body.{Body}
use Rattle.series.specs.Series.{Series, series, segments, segment_length, segment_start, InSpan, segment_at, place_at, value_at}
use Rattle.series.specs.Acceptance.{Accepted}
use Rattle.series.proofs.theory.Known.{facts}
use Rattle.series.proofs.theory.Span.{some_seconds, span_short}
use Rattle.corrected.specs.theory.Compared.{SameAt}

module _ (s : Series) {second : ℤ} (low : s.start ≤ℤ second) where
  abbrev L : ℕ
  L = segment_length s.body

  abbrev d : ℕ
  d = distance_from s.start second

  -- before the first second of segment k, from it on, and by the last second of n segments
  pub lies_before : (k : ℕ) → second <ℤ segment_start s k → segment_at s second < k
  lies_before k h =
      let ρ = s.start ∷ second ∷ pos d ∷ pos (L * k) ∷ [] in
      let near : d < L * k = omega (arith, ⇓ ρ (distance_is low) (search ring depth 9), ⇓ ρ h (search ring depth 9)) in
      (div-lt_iff_lt-mul (some_seconds s.body)).1 (omega (arith, near))

  pub lies_from : (k : ℕ) → segment_start s k ≤ℤ second → k ≤ segment_at s second
  lies_from k h =
      let ρ = s.start ∷ second ∷ pos d ∷ pos (L * k) ∷ [] in
      let far : L * k ≤ d = omega (arith, ⇓ ρ (distance_is low) (search ring depth 9), ⇓ ρ h (search ring depth 9)) in
      (le-div_iff_mul-le (some_seconds s.body)).1 (omega (arith, far))

  pub before_lies : (k : ℕ) → segment_at s second < k → second ≤ℤ (segment_start s k -ℤ pos 1)
  before_lies k h =
      let ρ = s.start ∷ second ∷ pos d ∷ pos (L * k) ∷ [] in
      let near = (div-lt_iff_lt-mul (some_seconds s.body)).0 h in
      let near' : d < L * k = omega (arith, near) in
      ⇑ ρ (search ring depth 9) (omega (arith, near', ⇓ ρ (distance_is low) (search ring depth 9)))

-- the same words at the same second
pub same_value : (body : Body) (start : ℤ) (old new : List ℤ) (second : ℤ) → SameAt old new (segment_at (series body start new) second) → value_at (series body start new) second ≡ value_at (series body start old) second
unfolding value_at
same_value body start old new second same = ap (λ (part : List ℤ). value part (place_at (series body start new) second)) same.1

-- ---- the first seconds of an accepted series' segments, and the second behind its last
module _ (s : Series) (e : Accepted s) {k : ℕ} (h : k ≤ segments s.coefs) where
  abbrev before : ℕ
  before = segment_length s.body * k

  pub seconds_before : before ≤ 5529600000
  seconds_before = omega (arith, span_short s e, mul-le-mul (le_refl (segment_length s.body)) h)

  pub start_fits : SFits w64 (segment_start s k)
  start_fits =
      let ρ = s.start ∷ pos before ∷ [] in
      let early = ⇓ ρ (facts s e).not_too_early (search ring) in
      let late = ⇓ ρ (facts s e).not_too_late (search ring) in
      ⇑ ρ (search ring depth 9) (omega (arith, seconds_before), omega (arith, seconds_before))

  abbrev all : ℕ
  all = segment_length s.body * segments s.coefs

  -- the first second of a segment, and the last before it
  pub first_in_span : k < segments s.coefs → InSpan s (segment_start s k)
  first_in_span l =
      let ρ = s.start ∷ pos before ∷ pos all ∷ [] in
      let less : before < all = omega (arith, some_seconds s.body, mul-le-mul (le_refl (segment_length s.body)) l) in
      record { from_start = ⇑ ρ (search ring depth 9) (omega arith); to_last = ⇑ ρ (search ring depth 9) (omega (arith, less)) }

  pub last_in_span : 0 < k → InSpan s (segment_start s k -ℤ pos 1)
  last_in_span l =
      let ρ = s.start ∷ pos before ∷ pos all ∷ [] in
      let some : 0 < before = omega (arith, some_seconds s.body, mul-le-mul (le_refl (segment_length s.body)) l) in
      let less : before ≤ all = mul-le-mul (le_refl (segment_length s.body)) h in
      record { from_start = ⇑ ρ (search ring depth 9) (omega (arith, some)); to_last = ⇑ ρ (search ring depth 9) (omega (arith, less)) }
