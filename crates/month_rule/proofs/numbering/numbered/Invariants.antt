-- `month_rule::numbering::numbered` meets its contract. The loop's invariant: the first months stand in the array, and none behind them.
-- Assumes nothing.
use mathlib.Core.Path.{◌≡◌}
use mathlib.Core.List.{◌++◌}
use lib.ListN.{drop}
use Rattle.whole.specs.Tabulated.{tabulate}
use Rattle.months.specs.Months.{month_at}
use Rattle.month_rule.proofs.numbering.numbered.Given as goal

abbrev pub invariant-loop-place : goal.invariant-loop-place
invariant-loop-place l = l.month-items ≡ tabulate (month_at l.year l.days) l.place ++ drop l.place l.initial.month-items
