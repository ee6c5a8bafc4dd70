-- `build::inner::records::put_sui` meets its contract. Assumes nothing.
use native.Mathlib.Omega.{arith}
use lib.IntN.{pos}
use lib.ListN.{length-set}
use mir.Facts.{to_z-of_z}
use Rattle.whole.specs.Ranges.{back}
use Rattle.almanac.specs.theory.Sections.{two_stored}
use Rattle.build.proofs.inner.records.put_sui.Goals as goal

pub bounds-out-at-2 : goal.bounds-out-at-2
bounds-out-at-2 c = simp length-set (omega (arith, c.requires.at_in_bounds))

pub returns : goal.returns
returns c =
    let a = c.args in
    rw (to_z-of_z c.ranges.year, back c.signed.result c.signed.type_inv, c.signed.ensures) (two_stored a.out.now a.at a.year (pos a.count) c.requires.at_in_bounds)
