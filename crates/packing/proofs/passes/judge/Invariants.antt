-- How far the first pass has come: what stands before the byte was judged, and what is left is judged behind it. Assumes nothing.
use Rattle.std.proofs.Common.{◌≡◌, ◌≤◌, drop}
use Rattle.packing.specs.Packing.{scan, start}
use Rattle.packing.specs.Passes.{judged}
use Rattle.packing.specs.theory.Judging.{Read}
use Rattle.packing.proofs.passes.judge.Given as goal

abbrev pub invariant-loop-byte : goal.invariant-loop-byte
invariant-loop-byte l = record {
  read : Read l.text l.state l.byte-index;
  few : l.words ≤ l.byte-index;
  rest : judged l.words (scan l.state (drop l.byte-index l.text)) ≡ judged 0 (scan start l.text);
}
