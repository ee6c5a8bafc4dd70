-- `rebuild::known::rebuild_begun` meets its contract. In the needs, `start` is the function's entry. Assumes nothing.
use mathlib.Core.Path.{sym}
use native.Mathlib.Omega.{arith}
use lib.ListN.{length-replicate}
use lib.Seq.{length-take-le}
use mir.Facts.{to_z-of_z}
use Rattle.rebuild.proofs.known.rebuild_begun.Goals as goal

pub find_ahead-found-requires : goal.find_ahead-found-requires
find_ahead-found-requires c =
    let few = c.requires.few_years in
    rw (to_z-of_z c.ranges.zone, to_z-of_z c.ranges.first) (record { begins = c.requires; n_in_bounds = rw (length-replicate 130 c.args.first) (omega arith); n_in_bounds_2 = rw (length-replicate 1666 c.args.first) (omega arith); n_in_bounds_3 = rw (length-replicate 1664 c.args.first) (omega arith) })

pub slice_bounds-rebuild_found-end : goal.slice_bounds-rebuild_found-end
slice_bounds-rebuild_found-end c = sym (length-take-le _ _ (omega (arith, c.find_ahead-found.ensures.solstices_bound.0, c.requires.few_years)))

pub slice_bounds-rebuild_found-end-2 : goal.slice_bounds-rebuild_found-end-2
slice_bounds-rebuild_found-end-2 c = sym (length-take-le _ _ (omega (arith, c.find_ahead-found.ensures.solstices_bound.1, c.requires.few_years)))

pub rebuild_found-requires : goal.rebuild_found-requires
rebuild_found-requires c = c.find_ahead-found.ensures.walks

pub returns : goal.returns
returns c =
    rw (to_z-of_z c.ranges.zone, to_z-of_z c.ranges.first) at c.rebuild_found.ensures
