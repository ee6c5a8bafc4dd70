-- The numbers in which Sun and Moon differ (document 01, "Segments" and "Marks"), and the few facts about them that the theory uses. Assumes nothing.
use Rattle.std.specs.Prelude.{◌≡◌, refl, ℕ, ◌*◌, ◌≤◌, ◌<◌}
use Rattle.std.proofs.Common.{lit≤, lit<}
use Rattle.chebyshev.specs.Polynomials.{S}
use Rattle.series.specs.declared.Body.{Body}
use Rattle.series.specs.declared.Body.TheVariants.{Sun, Moon}

pub record Numbers : Type 0 where
  -- H: a segment has 2H seconds
  pub half_length : ℕ
  -- S/H: how far the place moves in a second
  pub step : ℕ
  -- how many units a mark is
  pub mark_size : ℕ
  -- how many marks a circle has
  pub circle : ℕ
  pub most_segments : ℕ

abbrev pub numbers : Body → Numbers
numbers Sun = record { half_length = 1382400; step = 48; mark_size = 540000000; circle = 24; most_segments = 2000 }
numbers Moon = record { half_length = 172800; step = 384; mark_size = 3240000000; circle = 4; most_segments = 16000 }

pub record BodyLaws (n : Numbers) : Type 0 where
  -- "S/H is 48 or 384"
  pub exact_step : n.step * n.half_length ≡ S
  -- "A circle is 12,960,000,000 units."
  pub whole_circle : n.circle * n.mark_size ≡ 12960000000
  -- so small a step that rounding drops less than one unit at each of a segment's last places
  pub small_step : 2 * (n.step * n.step) * 144 < S
  pub long : 172800 ≤ n.half_length
  pub short : n.half_length ≤ 1382400
  pub large_mark : 100000 < n.mark_size
  pub short_span : 2 * n.half_length * n.most_segments ≤ 5529600000

pub body_laws : (body : Body) → BodyLaws (numbers body)
body_laws Sun = record { exact_step = refl; whole_circle = refl; small_step = lit< tt; long = lit≤ tt; short = lit≤ tt; large_mark = lit< tt; short_span = lit≤ tt }
body_laws Moon = record { exact_step = refl; whole_circle = refl; small_step = lit< tt; long = lit≤ tt; short = lit≤ tt; large_mark = lit< tt; short_span = lit≤ tt }
