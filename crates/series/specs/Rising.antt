-- The one property of a series' values from which everything about marks is proved: from each second of the span to the next, the value rises,
-- and by less than a mark. It is stated over any function of seconds. Assumes nothing: these are definitions.
use Rattle.std.specs.Prelude.{ℕ, ◌<◌, ◌⊎◌, ℤ, pos, ◌+ℤ◌, ◌*ℤ◌, ◌≤ℤ◌, ◌<ℤ◌}
use Rattle.chebyshev.specs.Segment.{allowance}

pub record Rising (v : ℤ → ℤ) (first last : ℤ) (mark_size : ℕ) : Type 0 where
  pub some_mark : 0 < mark_size
  pub rises : (s : ℤ) → first ≤ℤ s → s <ℤ last → v s <ℤ v (s +ℤ pos 1)
  pub less_than_a_mark : (s : ℤ) → first ≤ℤ s → s <ℤ last → v (s +ℤ pos 1) <ℤ (v s +ℤ pos mark_size)

-- How the exact sums, written over a common divisor, go with the values: they are less than 32 units (`allowance`) apart, and from each second of the
-- span to the next the exact sum rises by at least 100 units or, at a joint, the value rises by at least 200.
pub record Tracking (v exact : ℤ → ℤ) (divisor first last : ℤ) : Type 0 where
  pub some_divisor : pos 0 <ℤ divisor
  pub not_far_above : (s : ℤ) → first ≤ℤ s → s ≤ℤ last → (divisor *ℤ v s) <ℤ (exact s +ℤ pos allowance *ℤ divisor)
  pub not_far_below : (s : ℤ) → first ≤ℤ s → s ≤ℤ last → exact s <ℤ (divisor *ℤ v s +ℤ pos allowance *ℤ divisor)
  pub steps : (s : ℤ) → first ≤ℤ s → s <ℤ last → ((exact s +ℤ pos 100 *ℤ divisor) ≤ℤ exact (s +ℤ pos 1)) ⊎ ((v s +ℤ pos 200) ≤ℤ v (s +ℤ pos 1))
