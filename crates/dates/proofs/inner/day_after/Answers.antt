-- `dates::inner::day_after` meets its contract. Assumes nothing.
use mir.Facts.{to_z-of_z}
use Rattle.whole.specs.Ranges.{fits, bounds, bound_back, back}
use Rattle.dates.proofs.inner.day_after.Goals as goal

pub overflow_add-result : goal.overflow_add-result
overflow_add-result c = fits (search bounds) tt

pub overflow_add-result-2 : goal.overflow_add-result-2
overflow_add-result-2 c = fits (search (bounds, bound_back (overflow_add-result c))) tt

pub overflow_sub-result : goal.overflow_sub-result
overflow_sub-result c = fits (search (bounds, bound_back (overflow_add-result c), bound_back (overflow_add-result-2 c)) depth 9) tt

pub returns : goal.returns
returns c =
    let start = c.before in
    rw (to_z-of_z (overflow_sub-result c), to_z-of_z (overflow_add-result-2 c), to_z-of_z (overflow_add-result c), back start.args.first.0 c.struct_told-1.given.0.1, to_z-of_z start.ranges.before, to_z-of_z start.ranges.day)
