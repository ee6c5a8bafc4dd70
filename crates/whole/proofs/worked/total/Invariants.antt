-- `whole::worked::total` meets its contract: the loop's invariant is that `sum` is the sum so far. Assumes nothing.
use mathlib.Core.Path.{◌≡◌}
use Rattle.whole.specs.Worked.{sum_to}
use Rattle.whole.proofs.worked.total.Given as goal

abbrev pub invariant-loop-x : goal.invariant-loop-x
invariant-loop-x l = l.sum ≡ sum_to l.xs l.x-index
