-- `writer::writing::put_suis` meets its contract. Assumes nothing.
use mathlib.Core.Path.{◌≡◌}
use Prim.Native.Nat.{◌*◌}
use lib.ListN.{take}
use Rattle.whole.specs.Lists.{placed}
use Rattle.almanac.specs.Fields.{times, bytes_for}
use Rattle.almanac.specs.Layout.{sui_fields}
use Rattle.writer.proofs.writing.put_suis.Given as goal

abbrev pub invariant-loop-i : goal.invariant-loop-i
invariant-loop-i l = l.out ≡ placed l.at (bytes_for (times l.i sui_fields) (take (2 * l.i) l.suis)) l.initial.out
