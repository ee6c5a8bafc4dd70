-- The place of a second by a remainder, as the code finds it: so many seconds after its segment's first. Assumes nothing.
use Rattle.std.specs.Prelude.{◌≡◌, [], ◌∷◌, ℕ, ◌+◌, ◌*◌, ◌/◌, ◌%◌, ℤ, pos, ◌+ℤ◌, ◌-ℤ◌, ◌*ℤ◌, ◌≤ℤ◌}
use Rattle.std.proofs.Math.Path.{ap}
use Rattle.std.proofs.Common.{arith, div-add-mod'}
use Rattle.whole.specs.Solver.{⇑, ⇓, ring}
use Rattle.whole.specs.Distance.{distance_from, distance_is}
use Rattle.chebyshev.specs.Segment.{value, exact}
use Rattle.series.specs.declared.Body.{Body}
use Rattle.series.specs.Bodies.{numbers}
use Rattle.series.specs.Series.{Series, segment, segment_length, segment_at, place_at, value_at, exact_at}

abbrev pub place_after : Body → ℕ → ℤ
place_after body seconds = pos (numbers body).step *ℤ (pos (seconds % segment_length body) -ℤ pos (numbers body).half_length)

from_middle : (start second : ℤ) (d before rest H : ℕ) → pos d ≡ second -ℤ start → d ≡ before + rest → second -ℤ (start +ℤ pos before +ℤ pos H) ≡ pos rest -ℤ pos H
from_middle start second d before rest H p q =
    let ρ = start ∷ second ∷ pos d ∷ pos before ∷ pos rest ∷ pos H ∷ [] in
    ⇑ ρ (search ring depth 9) (omega (arith, ⇓ ρ p (search ring depth 9)))

module _ (s : Series) {second : ℤ} (low : s.start ≤ℤ second) where
  abbrev d : ℕ
  d = distance_from s.start second

  abbrev L : ℕ
  L = segment_length s.body

  pub place_by_remainder : place_at s second ≡ place_after s.body d
  place_by_remainder =
      let divided : d ≡ L * (d / L) + d % L = omega (arith, div-add-mod' d L) in
      ap (λ (z : ℤ). pos (numbers s.body).step *ℤ z) (from_middle s.start second d (L * (d / L)) (d % L) (numbers s.body).half_length (distance_is low) divided)

  pub value_by_remainder : value_at s second ≡ value (segment s.coefs (segment_at s second)) (place_after s.body d)
  unfolding value_at
  value_by_remainder = ap (value (segment s.coefs (segment_at s second))) place_by_remainder

  pub exact_by_remainder : exact_at s second ≡ exact (segment s.coefs (segment_at s second)) (place_after s.body d)
  unfolding exact_at
  exact_by_remainder = ap (exact (segment s.coefs (segment_at s second))) place_by_remainder
