-- `month_rule::numbering::handle` meets its contract. Assumes nothing.
use mathlib.Core.Path.{◌∙◌}
use native.Mathlib.Omega.{arith}
use mir.Syntax.{w64}
use mir.Val.{SFits}
use mir.Facts.{to_z-of_z}
use borrow.Author.Rules.{rules}
use Rattle.whole.specs.Ranges.{fits, fits<, bounds}
use Rattle.months.specs.Handles.{handle}
use Rattle.month_rule.proofs.numbering.handle.Goals as goal

pub multiply-requires : goal.multiply-requires
multiply-requires c =
    let year = c.args.year in
    let f : SFits w64 year = search rules in
    let small = c.requires.within in
    rw (to_z-of_z f) (fits (search bounds) tt)

pub add-requires : goal.add-requires
add-requires c =
    let a = c.args in
    let fy : SFits w64 a.year = search rules in
    let fm : SFits w64 c.multiply.result = search rules in
    let fs : SFits w64 c.signed.result = search rules in
    let small = c.requires.within in
    rw (to_z-of_z fm, to_z-of_z fs, c.signed.ensures, rw (to_z-of_z fy) at c.multiply.ensures) (fits< (search bounds) (omega arith))

pub returns : goal.returns
unfolding handle
returns c =
    let a = c.args in
    let fy : SFits w64 a.year = search rules in
    let fm : SFits w64 c.multiply.result = search rules in
    let fs : SFits w64 c.signed.result = search rules in
    let fr : SFits w64 c.add.result = search rules in
    to_z-of_z fr ∙ (rw (to_z-of_z fm, to_z-of_z fs, c.signed.ensures, rw (to_z-of_z fy) at c.multiply.ensures) at c.add.ensures)
