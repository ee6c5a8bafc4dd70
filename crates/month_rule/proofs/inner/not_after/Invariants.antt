-- `month_rule::inner::not_after` meets its contract. The loop's invariant: what was counted, and what is left to count, is the whole count. Assumes nothing.
use mathlib.Core.Path.{◌≡◌}
use Prim.Native.Nat.{◌+◌}
use lib.ListN.{drop}
use Rattle.months.specs.Months.{not_after}
use Rattle.month_rule.proofs.inner.not_after.Given as goal

abbrev pub invariant-loop-d : goal.invariant-loop-d
invariant-loop-d l = l.n + not_after l.day (drop l.d-index l.days) ≡ not_after l.day l.days
