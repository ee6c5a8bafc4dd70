-- `suis::inner::days_ahead` meets its contract. The loop's invariant: the first i days stand in front. Assumes nothing.
use mathlib.Core.Path.{◌≡◌}
use mathlib.Core.List.{List, ◌++◌}
use Prim.Native.Nat.{ℕ, ◌+◌}
use lib.IntN.{ℤ}
use lib.ListN.{drop}
use Rattle.whole.specs.Tabulated.{tabulate}
use Rattle.series.specs.Series.{Series, series}
use Rattle.turns.specs.Listed.{turn_day}
use Rattle.suis.proofs.inner.days_ahead.Given as goal

-- the day of the k-th turn from a place on
abbrev pub day_at : List ℤ → Series → ℤ → ℕ → ℕ → ℤ
day_at leap s zone from k = turn_day leap s zone (from + k)

abbrev pub invariant-loop-i : goal.invariant-loop-i
invariant-loop-i l = l.day-items ≡ tabulate (day_at l.leap (series l.body l.start.0 l.coefs) (l.zone) l.from) l.i ++ drop l.i l.initial.day-items
