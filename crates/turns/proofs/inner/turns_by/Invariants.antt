-- `turns::inner::turns_by` meets its contract. The loop's invariant: the count lies from `low` to `high`, and no turn is left out. In the needs, `start` is the
-- function's entry. Assumes nothing.
use Prim.Native.Nat.{◌-◌, ◌≤◌}
use Rattle.series.specs.Series.{series}
use Rattle.turns.specs.Listed.{turns_by}
use Rattle.turns.proofs.inner.turns_by.Given as goal

abbrev pub invariant-loop-low : goal.invariant-loop-low
invariant-loop-low l = (l.high ≤ l.turns.count) × (l.low ≤ turns_by l.leap (series l.body l.start.0 l.coefs) (l.zone) l.day.0) × (turns_by l.leap (series l.body l.start.0 l.coefs) (l.zone) l.day.0 ≤ l.high)

abbrev pub decreases-loop-low : goal.decreases-loop-low
decreases-loop-low l = l.high - l.low
