-- `build::inner::ahead::build_at` meets its contract. In the needs, `start` is the function's entry. Assumes nothing.
use mathlib.Core.Path.{sym}
use native.Mathlib.Omega.{arith}
use lib.ListN.{length-replicate}
use lib.Seq.{length-take-le}
use mir.Facts.{to_z-of_z}
use Rattle.build.proofs.inner.ahead.build_at.Goals as goal
use Rattle.build.proofs.inner.ahead.build_at.Lts as lts
use Rattle.build.proofs.inner.ahead.build_at.Reads as reads
use Rattle.build.proofs.inner.ahead.build_at.Tie as tie

abbrev Found : Type 0
Found = lts.After-find_ahead tie.the-claims reads.Pre reads.Post tie.handed_clauses

abbrev start_of : Found → lts.Start tie.the-claims reads.Pre reads.Post tie.handed_clauses
start_of c = c.before.before.before.before.before

pub find_ahead-found-requires : goal.find_ahead-found-requires
find_ahead-found-requires c =
    let few = c.requires.few_years in
    rw (to_z-of_z c.ranges.zone, to_z-of_z c.ranges.first) (record { begins = c.requires; n_in_bounds = rw (length-replicate 130 c.args.first) (omega arith); n_in_bounds_2 = rw (length-replicate 1666 c.args.first) (omega arith); n_in_bounds_3 = rw (length-replicate 1664 c.args.first) (omega arith) })

pub slice_bounds-build_from-end : goal.slice_bounds-build_from-end
slice_bounds-build_from-end c = sym (length-take-le _ _ (omega (arith, c.find_ahead-found.ensures.solstices_bound.0, (start_of c.before.before.before.before.before).requires.few_years)))

pub slice_bounds-build_from-end-2 : goal.slice_bounds-build_from-end-2
slice_bounds-build_from-end-2 c = sym (length-take-le _ _ (omega (arith, c.find_ahead-found.ensures.solstices_bound.1, (start_of c.before.before.before.before.before.before).requires.few_years)))

pub returns : goal.returns
returns c =
    let start = start_of c.before.before.before.before.before.before.before.before.before.before.before in
    rw (to_z-of_z start.ranges.zone, to_z-of_z start.ranges.first) at c.build_from.ensures
