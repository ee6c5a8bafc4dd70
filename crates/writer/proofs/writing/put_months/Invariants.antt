-- `writer::writing::put_months` meets its contract. Assumes nothing.
use mathlib.Core.Path.{◌≡◌}
use Prim.Native.Nat.{◌*◌}
use lib.ListN.{take}
use Rattle.whole.specs.Lists.{placed}
use Rattle.almanac.specs.Fields.{times, bytes_for}
use Rattle.almanac.specs.Layout.{month_fields}
use Rattle.writer.proofs.writing.put_months.Given as goal

abbrev pub invariant-loop-i : goal.invariant-loop-i
invariant-loop-i l = l.out ≡ placed l.at (bytes_for (times l.i month_fields) (take (3 * l.i) l.months)) l.initial.out
