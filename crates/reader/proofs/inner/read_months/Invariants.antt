-- `reader::inner::read_months` meets its contract. Assumes nothing.
use mathlib.Core.Path.{◌≡◌}
use mathlib.Core.List.{◌++◌}
use Prim.Native.Nat.{◌*◌}
use lib.ListN.{drop}
use Rattle.almanac.specs.Fields.{times, numbers_in}
use Rattle.almanac.specs.Layout.{month_fields}
use Rattle.reader.proofs.inner.read_months.Given as goal

abbrev pub invariant-loop-i : goal.invariant-loop-i
invariant-loop-i l = l.out ≡ numbers_in (times l.i month_fields) l.file l.at ++ drop (3 * l.i) l.initial.out
