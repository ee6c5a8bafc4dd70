-- `conversion::inner::entry_used` meets its contract. The loop's invariant: `low` holds by then, and nothing from `high` on does. Assumes nothing.
use Prim.Native.Nat.{◌-◌}
use Rattle.clock.proofs.theory.Used.{Bracket}
use Rattle.conversion.proofs.inner.entry_used.Given as goal

abbrev pub invariant-loop-low : goal.invariant-loop-low
invariant-loop-low l = Bracket l.leap l.t.0 l.low l.high

abbrev pub decreases-loop-low : goal.decreases-loop-low
decreases-loop-low l = l.high - l.low
