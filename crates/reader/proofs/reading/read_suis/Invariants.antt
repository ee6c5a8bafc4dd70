-- `reader::reading::read_suis` meets its contract. Assumes nothing.
use mathlib.Core.Path.{◌≡◌}
use mathlib.Core.List.{◌++◌}
use Prim.Native.Nat.{◌*◌}
use lib.ListN.{drop}
use Rattle.almanac.specs.Fields.{times, numbers_in}
use Rattle.almanac.specs.Layout.{sui_fields}
use Rattle.reader.proofs.reading.read_suis.Given as goal

abbrev pub invariant-loop-i : goal.invariant-loop-i
invariant-loop-i l = l.out ≡ numbers_in (times l.i sui_fields) l.file l.at ++ drop (2 * l.i) l.initial.out
