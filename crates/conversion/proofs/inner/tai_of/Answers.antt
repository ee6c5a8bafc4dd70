-- `conversion::inner::tai_of` meets its contract. Assumes nothing.
use native.Mathlib.Omega.{arith}
use mir.Facts.{to_z-of_z}
use Rattle.whole.specs.Ranges.{fits, bounds, bound_back, back}
use Rattle.clock.specs.Clock.{tai}
use Rattle.clock.proofs.theory.Sizes.{second_small}
use Rattle.conversion.proofs.inner.tai_of.Goals as goal

pub overflow_mul-result : goal.overflow_mul-result
overflow_mul-result c = let small = second_small c.args.second c.requires in fits (search bounds) tt

pub overflow_sub-result : goal.overflow_sub-result
overflow_sub-result c = let small = second_small c.args.second c.requires in fits (search (bounds, bound_back (overflow_mul-result c))) tt

pub returns : goal.returns
unfolding tai
returns c = rw (to_z-of_z (overflow_sub-result c), to_z-of_z (overflow_mul-result c), back c.args.second.0 (omega arith))
