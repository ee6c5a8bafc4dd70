-- `reader::reading::read_entries` meets its contract. Assumes nothing.
use mathlib.Core.Path.{◌≡◌}
use mathlib.Core.List.{◌++◌}
use Prim.Native.Nat.{◌*◌}
use lib.ListN.{drop}
use Rattle.almanac.specs.Fields.{times, numbers_in}
use Rattle.almanac.specs.Layout.{entry_fields}
use Rattle.reader.proofs.reading.read_entries.Given as goal

abbrev pub invariant-loop-i : goal.invariant-loop-i
invariant-loop-i l = l.out ≡ numbers_in (times l.i entry_fields) l.file l.at ++ drop (2 * l.i) l.initial.out
