-- `listing::parts::put_input` meets its contract. Assumes nothing.
use mathlib.Core.Path.{sym, ap}
use mir.Facts.{to_z-of_z}
use Rattle.refusals.specs.Verdict.{answered, accepted_is, refused_first, accepted_first}
use Rattle.inputs.specs.Inputs.{Inputs, inputs}
use Rattle.inputs.proofs.Theorems.{known}
use Rattle.listed.specs.Listing.{lines_of, listed, printed}
use Rattle.listing.proofs.parts.put_input.Goals as goal
use Rattle.listing.proofs.parts.put_input.Goals.{Start}

abbrev inputs-of : Start → Inputs
inputs-of c = inputs c.args.leap.now c.args.sunstart.0 c.args.sun.now c.args.moonstart.0 c.args.moon.now

pub returns-in-Err : goal.returns-in-Err
unfolding listed
returns-in-Err c =
    rw (ap printed (sym (refused_first (answered (lines_of (inputs-of (goal.at.returns-in-Err c).Start) c.args.zone)) c.judge.ensures c.in-Err.is))) c.put_refusal.ensures

pub put_lines-requires : goal.put_lines-requires
put_lines-requires c =
    rw (to_z-of_z c.ranges.zone) (record { known = known (inputs-of (goal.at.put_lines-requires c).Start) (accepted_is c.judge.ensures c.in-Ok.is); within = c.requires })

pub returns-in-Ok : goal.returns-in-Ok
unfolding listed
returns-in-Ok c =
    rw (ap printed (sym (accepted_first (answered (lines_of (inputs-of (goal.at.returns-in-Ok c).Start) c.args.zone)) c.judge.ensures c.in-Ok.is))) (rw (to_z-of_z c.ranges.zone) at c.put_lines.ensures)
