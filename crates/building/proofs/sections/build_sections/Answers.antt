-- `building::sections::build_sections` meets its contract. Assumes nothing.
use Prim.Native.Nat.{◌+◌}
use lib.IntN.{pos}
use lib.ListN.{get_or}
use mir.Syntax.{w64}
use mir.Val.{SFits}
use mir.Facts.{to_z-of_z}
use Rattle.built.specs.Build.{file_built}
use borrow.Author.Rules.{rules}
use Rattle.building.proofs.sections.build_sections.Goals as goal

pub returns : goal.returns
unfolding file_built
returns c =
    let a = c.args in
    let fs : SFits w64 (get_or a.words.now (a.sun + 1) (pos 0)) = search rules in
    let fm : SFits w64 (get_or a.words.now (a.moon + 1) (pos 0)) = search rules in
    rw (to_z-of_z fs, to_z-of_z fm, to_z-of_z c.ranges.zone, to_z-of_z c.ranges.year, to_z-of_z c.ranges.count) at c.build.ensures
