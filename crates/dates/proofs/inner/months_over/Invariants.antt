-- `dates::inner::months_over` meets its contract. The loop's invariant: the months over are those passed, and those over in the rest of the list
-- when the days left are. Assumes nothing.
use Prim.Native.Nat.{◌+◌}
use mathlib.Core.Path.{◌≡◌}
use lib.ListN.{drop}
use Rattle.dates.specs.Calendar.{months_over}
use Rattle.dates.proofs.inner.months_over.Given as goal

abbrev pub invariant-loop-over : goal.invariant-loop-over
invariant-loop-over l = months_over l.lengths l.k ≡ l.over + months_over (drop l.over l.lengths) l.left
