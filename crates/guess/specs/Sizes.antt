-- What is promised of a guess: how large it is. Assumes nothing: these are definitions.
use Rattle.std.specs.Prelude.{◌+◌, ◌*◌, ◌≤◌, ℤ, pos, nat_abs, ◌≤ℤ◌}
use Rattle.whole.specs.Ranges.{Within}

-- r is not less than `least`, and not larger than that and a together
pub record Raised (least a r : ℤ) : Type 0 where
  pub not_less : least ≤ℤ r
  pub small : nat_abs r ≤ nat_abs least + nat_abs a

-- r is at most twice as large as a
pub record Doubled (a r : ℤ) : Type 0 where
  pub small : nat_abs r ≤ 2 * nat_abs a

-- r is not before the first, and not after the last
pub record Between (first last r : ℤ) : Type 0 where
  pub not_before : first ≤ℤ r
  pub not_after : r ≤ℤ last

-- a place at most twice as far out as a segment's end, and a slope to divide by
pub record Aim (place slope : ℤ) : Type 0 where
  pub near : Within 2097152 place
  pub steep : pos 16777216 ≤ℤ slope
