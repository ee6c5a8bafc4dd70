-- `listing::parts::put_sections` meets its contract. Assumes nothing.
use Prim.Native.Nat.{◌+◌}
use lib.IntN.{pos}
use lib.ListN.{get_or}
use mir.Facts.{to_z-of_z}
use mir.Syntax.{w64}
use mir.Val.{SFits}
use Rattle.listing.proofs.parts.put_sections.Goals as goal
use native.Mathlib.Omega.{arith}

pub put_input-requires : goal.put_input-requires
put_input-requires c = rw (to_z-of_z c.ranges.zone) c.requires.within

pub returns : goal.returns
returns c =
    let fs : SFits w64 (get_or c.args.words.now (c.args.sun + 1) (pos 0)) = record { sfits = (omega arith) } in
    let fm : SFits w64 (get_or c.args.words.now (c.args.moon + 1) (pos 0)) = record { sfits = (omega arith) } in
    rw (to_z-of_z fs, to_z-of_z fm, to_z-of_z c.ranges.zone) at c.put_input.ensures
