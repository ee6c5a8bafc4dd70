-- `conversion::inner::holds_from` meets its contract. Assumes nothing.
use borrow.Author.Rules.{rules}
use mir.Syntax.{w64}
use mir.Val.{SFits}
use mir.Facts.{to_z-of_z}
use Rattle.clock.specs.Leap.{day, offset, holds_from}
use Rattle.clock.proofs.theory.Table.{day_small, offset_small}
use Rattle.conversion.proofs.inner.holds_from.Goals as goal

pub moment_of-requires : goal.moment_of-requires
moment_of-requires c =
    let w = c.args.leap.now in
    let i = c.args.i in
    let d : SFits w64 (day w i) = search rules in
    let o : SFits w64 (offset w i) = search rules in
    rw (to_z-of_z d, to_z-of_z o) (record { within = day_small w c.requires.leap_value i c.requires.i_bound; within_2 = offset_small w c.requires.leap_value i c.requires.i_bound })

pub returns : goal.returns
unfolding holds_from
returns c =
    let d : SFits w64 (day c.args.leap.now c.args.i) = search rules in
    let o : SFits w64 (offset c.args.leap.now c.args.i) = search rules in
    rw (to_z-of_z d, to_z-of_z o) at c.moment_of.ensures
