-- `build::inner::records::put_months` meets its contract. The loop's invariant: the words of the first i months are put. Assumes nothing.
use mathlib.Core.Path.{◌≡◌}
use lib.ListN.{take}
use Rattle.whole.specs.Lists.{placed}
use Rattle.built.specs.Build.{words_of}
use Rattle.build.proofs.inner.records.put_months.Given as goal

abbrev pub invariant-loop-i : goal.invariant-loop-i
invariant-loop-i l = l.out ≡ placed l.at (words_of (take l.i l.month-items)) l.initial.out
