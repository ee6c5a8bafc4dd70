-- `month_rule::numbering::month_at` meets its contract. Assumes nothing.
use Prim.Native.Nat.{◌+◌}
use native.Mathlib.Omega.{arith}
use mir.Facts.{to_z-of_z}
use Rattle.whole.specs.Ranges.{fit_hyp}
use Rattle.month_rule.proofs.numbering.month_at.Goals as goal

pub month_of-requires : goal.month_of-requires
month_of-requires c =
    let first = c.requires.all.each c.args.place in
    let next = c.requires.all.each (c.args.place + 1) in record { within = rw (to_z-of_z c.ranges.year) c.requires.within; place_bound = omega arith; within_2 = rw (to_z-of_z (fit_hyp first tt)) first; within_3 = rw (to_z-of_z (fit_hyp next tt)) next }

pub returns : goal.returns
returns c =
    let first = c.requires.all.each c.args.place in
    let next = c.requires.all.each (c.args.place + 1) in
    rw (to_z-of_z c.ranges.year, to_z-of_z (fit_hyp first tt), to_z-of_z (fit_hyp next tt)) at c.month_of.ensures
