-- `month_rule::numbering::zhongqi_in` meets its contract. The loop's invariant: what was counted, and what is left to count, is the whole count. Assumes nothing.
use mathlib.Core.Path.{◌≡◌}
use Prim.Native.Nat.{◌+◌, ◌≤◌}
use lib.ListN.{drop}
use Rattle.months.specs.Months.{zhongqi_in}
use Rattle.month_rule.proofs.numbering.zhongqi_in.Given as goal

abbrev pub invariant-loop-day : goal.invariant-loop-day
invariant-loop-day l = record { few : l.n ≤ l.day-index; kept : l.n + zhongqi_in l.first l.next (drop l.day-index l.fn.zhongqi) ≡ zhongqi_in l.first l.next l.fn.zhongqi }
