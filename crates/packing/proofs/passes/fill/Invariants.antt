-- How far the second pass has come: what is written, with the rest put behind it, is what is wanted. Assumes nothing.
use Rattle.std.proofs.Common.{drop}
use Rattle.whole.specs.Lists.{placed}
use Rattle.packing.specs.Packing.{scan, start, bytes_of}
use Rattle.packing.specs.Passes.{found}
use Rattle.packing.specs.theory.Filling.{Filled}
use Rattle.packing.specs.theory.Judging.{Read}
use Rattle.packing.proofs.passes.fill.Given as goal

abbrev pub invariant-loop-byte : goal.invariant-loop-byte
invariant-loop-byte l = record {
  read : Read l.text l.state l.byte-index;
  filled : Filled l.end (scan l.state (drop l.byte-index l.text)) l.out (placed 0 (bytes_of (found (scan start l.text))) l.fn.out);
}
