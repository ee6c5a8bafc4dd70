-- `month_rule::numbering::zhongqi_in` meets its contract. The loop's invariant: what was counted, and what is left to count, is the whole count. Assumes nothing.
use mathlib.Core.Path.{◌≡◌, ap, ◌∙◌}
use Prim.Native.Nat.{◌+◌, ◌≤◌}
use native.Mathlib.Omega.{arith}
use borrow.Author.Rules.{rules}
use lib.IntN.{pos}
use lib.ListN.{length, get_or, drop}
use mir.Facts.{to_z-of_z}
use Rattle.whole.specs.Counted.{one, one_small}
use Rattle.months.specs.Months.{is_within, zhongqi_in}
use Rattle.months.proofs.theory.Listed.{zhongqi_in_turn, zhongqi_in_end}
use Rattle.month_rule.proofs.Counted.{byte_is}
use Rattle.month_rule.proofs.numbering.zhongqi_in.Goals as goal
use Rattle.month_rule.proofs.numbering.zhongqi_in.Goals.{After-contains, After-from-n, At-loop-day, Start}

-- there are 13
thirteen : (c : Start) → length c.args.zhongqi ≡ 13
thirteen c = search rules

-- what was counted, and what is left to count
at_head : (c : At-loop-day) → (let a = c.args in c.loop-day.n + zhongqi_in a.first a.next (drop c.loop-day.day-index a.zhongqi) ≡ zhongqi_in a.first a.next a.zhongqi)
at_head c = rw (to_z-of_z c.ranges.first, to_z-of_z c.ranges.next) at c.loop-day.invariant.kept

-- whether the month has the day
within : (c : After-contains) → c.contains.result ≡ is_within c.args.first c.args.next (get_or c.args.zhongqi c.loop-day.day-index (pos 0))
unfolding is_within
within c = search rules

-- one turn counts the day that it is at
at_turn : (c : After-from-n) → (let a = c.args in let i = c.loop-day.day-index in (c.from-n.result ≤ 1) × (zhongqi_in a.first a.next (drop i a.zhongqi) ≡ c.from-n.result + zhongqi_in a.first a.next (drop (i + 1) a.zhongqi)))
at_turn c =
    let i = c.loop-day.day-index in
    let has = is_within c.args.first c.args.next (get_or c.args.zhongqi i (pos 0)) in
    let counted = c.from-n.ensures ∙ byte_is c.contains.result ∙ ap one (within c.before) in
    let small = one_small has in
    (omega (arith, counted, small), omega (arith, counted, zhongqi_in_turn c.args.first c.args.next c.args.zhongqi i (omega (arith, thirteen (goal.at.loop-day-preserved c).Start))))

pub loop-day-preserved : goal.loop-day-preserved
loop-day-preserved c =
    let head = at_head (goal.at.loop-day-preserved c).At-loop-day in
    record {
      few = omega (arith, at_turn c, c.loop-day.invariant.few);
      kept = rw (to_z-of_z c.ranges.first, to_z-of_z c.ranges.next) (omega (arith, at_turn c, head));
    }

pub returns : goal.returns
returns c =
    let a = c.args in
    omega (arith, at_head (goal.at.returns c).At-loop-day, zhongqi_in_end a.first a.next a.zhongqi c.loop-day.day-index (omega (arith, c.loop-day-test.false, thirteen (goal.at.returns c).Start)))
