-- `listing::parts::put_lines` meets its contract: the loop's invariant is `Printed`, and that no line past the last is counted. In the needs, `loop` is the place
-- where a turn begins. Assumes nothing.
use Prim.Native.Nat.{◌-◌, ◌≤◌}
use Rattle.inputs.specs.Inputs.{inputs}
use Rattle.listed.specs.Listing.{lines_of}
use Rattle.listing.proofs.Printed.{Printed}
use Rattle.listing.proofs.parts.put_lines.Given as goal

abbrev pub invariant-loop-i : goal.invariant-loop-i
invariant-loop-i l = record {
  printed : Printed (lines_of (inputs l.leap l.sunstart.0 l.sun l.moonstart.0 l.moon) (l.zone)) l.from l.initial.room l.room l.i l.at;
  counted : l.i - l.from ≤ l.total - l.from;
}
