-- `build::inner::records::put_month` meets its contract. Assumes nothing.
use native.Mathlib.Omega.{arith}
use lib.ListN.{length-set}
use mir.Syntax.{w64}
use mir.Val.{SFits}
use mir.Facts.{to_z-of_z}
use Rattle.almanac.specs.theory.Sections.{three_stored}
use borrow.Author.Rules.{rules}
use Rattle.build.proofs.inner.records.put_month.Goals as goal

pub bounds-out-at-2 : goal.bounds-out-at-2
bounds-out-at-2 c = simp length-set (omega (arith, c.requires))

pub bounds-out-at-3 : goal.bounds-out-at-3
bounds-out-at-3 c = simp length-set (omega (arith, c.requires))

pub returns : goal.returns
returns c =
    let m = c.args.month in
    let f : SFits w64 m.handle = search rules in
    let g : SFits w64 m.first = search rules in
    let k : SFits w64 m.length = search rules in
    rw (to_z-of_z f, to_z-of_z g, to_z-of_z k) (three_stored c.args.out.now c.args.at m.handle m.first m.length c.requires)
