-- `month_rule::numbering::bad_month` meets its contract. Assumes nothing.
use Prim.Native.Nat.{◌+◌}
use borrow.Author.Rules.{rules}
use mir.Syntax.{w64}
use mir.Val.{SFits}
use mir.Facts.{to_z-of_z}
use Rattle.whole.specs.Ranges.{fits, fit_hyp, bounds}
use Rattle.months.specs.Months.{month_length, bad_month}
use Rattle.month_rule.proofs.numbering.bad_month.Goals as goal

pub subtract-requires : goal.subtract-requires
subtract-requires c =
    let first = c.requires.all.each c.args.place in
    let next = c.requires.all.each (c.args.place + 1) in
    rw (to_z-of_z (fit_hyp first tt), to_z-of_z (fit_hyp next tt)) (fits (search bounds) tt)

pub returns : goal.returns
unfolding bad_month month_length
returns c =
    let first = c.requires.all.each c.args.place in
    let next = c.requires.all.each (c.args.place + 1) in
    let length : SFits w64 c.subtract.result = search rules in
    rw (to_z-of_z length, rw (to_z-of_z (fit_hyp first tt), to_z-of_z (fit_hyp next tt)) at c.subtract.ensures) at c.bad_length.ensures
