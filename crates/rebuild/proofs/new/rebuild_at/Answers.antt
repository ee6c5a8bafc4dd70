-- `rebuild::new::rebuild_at` meets its contract. In the needs, `start` is the function's entry. Assumes nothing.
use mathlib.Core.Path.{sym}
use native.Mathlib.Omega.{arith}
use lib.ListN.{length-replicate}
use lib.Seq.{length-take-le}
use mir.Facts.{to_z-of_z}
use Rattle.rebuild.proofs.new.rebuild_at.Goals as goal

pub find_again-found-requires : goal.find_again-found-requires
find_again-found-requires c =
    let few = c.requires.begins.few_years in
    rw (to_z-of_z c.ranges.zone, to_z-of_z c.ranges.first) (record { walks = c.requires.walks; begins = c.requires.begins; shared = c.requires.shared; shared_2 = c.requires.shared_2; n_in_bounds = rw (length-replicate 130 c.args.first) (omega arith); n_in_bounds_2 = rw (length-replicate 1666 c.args.first) (omega arith); n_in_bounds_3 = rw (length-replicate 1664 c.args.first) (omega arith) })

pub slice_bounds-rebuild_from-end : goal.slice_bounds-rebuild_from-end
slice_bounds-rebuild_from-end c = sym (length-take-le _ _ (omega (arith, c.find_again-found.ensures.solstices_bound.0, c.requires.begins.few_years)))

pub slice_bounds-rebuild_from-end-2 : goal.slice_bounds-rebuild_from-end-2
slice_bounds-rebuild_from-end-2 c = sym (length-take-le _ _ (omega (arith, c.find_again-found.ensures.solstices_bound.1, c.requires.begins.few_years)))

pub rebuild_from-requires : goal.rebuild_from-requires
rebuild_from-requires c = record { walks = c.find_again-found.ensures.walks_2; copies = rw (to_z-of_z c.ranges.zone, to_z-of_z c.ranges.first) c.requires.copies }

pub returns : goal.returns
returns c =
    rw (to_z-of_z c.ranges.zone, to_z-of_z c.ranges.first) at c.rebuild_from.ensures
