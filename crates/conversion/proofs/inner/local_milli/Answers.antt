-- `conversion::inner::local_milli` meets its contract. Assumes nothing.
use native.Mathlib.Omega.{arith}
use mir.Facts.{to_z-of_z}
use Rattle.whole.specs.Ranges.{fits, bounds, bound_back, back}
use Rattle.clock.specs.Clock.{local_milli}
use Rattle.conversion.proofs.inner.local_milli.Goals as goal

pub overflow_mul-result : goal.overflow_mul-result
overflow_mul-result c = fits (search bounds) tt

pub overflow_sub-result : goal.overflow_sub-result
overflow_sub-result c = fits (search (bounds, bound_back (overflow_mul-result c))) tt

pub overflow_mul-result-2 : goal.overflow_mul-result-2
overflow_mul-result-2 c = fits (search bounds) tt

pub overflow_add-result : goal.overflow_add-result
overflow_add-result c = fits (search (bounds, bound_back (overflow_mul-result c), bound_back (overflow_sub-result c), bound_back (overflow_mul-result-2 c)) depth 9) tt

pub returns : goal.returns
unfolding local_milli
returns c =
    rw (to_z-of_z (overflow_add-result c), to_z-of_z (overflow_mul-result-2 c), to_z-of_z (overflow_sub-result c), to_z-of_z (overflow_mul-result c), back c.args.t.0 (omega arith), to_z-of_z c.ranges.offset, to_z-of_z c.ranges.zone)
