-- `one_sui::finding::zhongqi_days` meets its contract. The loop's invariant: the first i days stand in the array. Assumes nothing.
use mathlib.Core.Path.{◌≡◌}
use mathlib.Core.List.{List, ◌++◌}
use Prim.Native.Nat.{ℕ, ◌*◌}
use lib.IntN.{ℤ, pos, ◌+ℤ◌}
use lib.ListN.{drop, replicate}
use Rattle.whole.specs.Tabulated.{tabulate}
use Rattle.series.specs.declared.Body.TheVariants.{Sun}
use Rattle.series.specs.Series.{Series, series}
use Rattle.inputs.specs.Inputs.{day_of_mark}
use Rattle.one_sui.proofs.finding.zhongqi_days.Given as goal

-- the day of the i-th zhongqi
abbrev pub day_at : List ℤ → Series → ℤ → ℤ → ℕ → ℤ
day_at leap s zone index i = (day_of_mark leap s zone (index +ℤ pos (2 * i))).0

abbrev pub invariant-loop-i : goal.invariant-loop-i
invariant-loop-i l = l.day-items ≡ tabulate (day_at l.leap (series Sun l.start.0 l.coefs) l.zone l.index) l.i ++ drop l.i (replicate 13 (pos 0))
