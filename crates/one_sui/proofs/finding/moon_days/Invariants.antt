-- `one_sui::finding::moon_days` meets its contract. The loop's invariant: the first i days stand in the array. Assumes nothing.
use mathlib.Core.Path.{◌≡◌}
use mathlib.Core.List.{◌++◌}
use Prim.Native.Nat.{◌+◌}
use lib.ListN.{drop}
use Rattle.whole.specs.Tabulated.{tabulate}
use Rattle.series.specs.declared.Body.TheVariants.{Moon}
use Rattle.series.specs.Series.{series}
use Rattle.turns.specs.Listed.{turn_day}
use Rattle.one_sui.proofs.finding.moon_days.Given as goal

abbrev pub invariant-loop-i : goal.invariant-loop-i
invariant-loop-i l = l.day-items ≡ tabulate (λ k. turn_day l.leap (series Moon l.start.0 l.coefs) l.zone (l.from + k)) l.i ++ drop l.i l.initial.day-items
