-- `building::refused::in_sections` meets its contract. Assumes nothing.
use Prim.Native.Nat.{◌+◌}
use lib.IntN.{pos}
use lib.ListN.{get_or}
use mir.Syntax.{w64}
use mir.Val.{SFits}
use mir.Facts.{to_z-of_z}
use borrow.Author.Rules.{rules}
use Rattle.building.proofs.refused.in_sections.Goals as goal

pub returns : goal.returns
returns c =
    let a = c.args in
    let fs : SFits w64 (get_or a.words.now (a.sun + 1) (pos 0)) = search rules in
    let fm : SFits w64 (get_or a.words.now (a.moon + 1) (pos 0)) = search rules in
    rw (to_z-of_z fs, to_z-of_z fm) at c.of_inputs.ensures
