-- `month_rule::inner::not_after` meets its contract. The loop's invariant: what was counted, and what is left to count, is the whole count. Assumes nothing.
use mathlib.Core.Path.{◌≡◌, ◌∙◌}
use Prim.Native.Nat.{◌+◌}
use native.Mathlib.Omega.{arith}
use borrow.Author.Rules.{rules}
use lib.IntN.{pos}
use lib.ListN.{get_or, drop}
use lib.Signed.{le_z}
use mir.Syntax.{w64}
use mir.Val.{SFits}
use mir.Facts.{to_z-of_z}
use Rattle.months.specs.Months.{not_after}
use Rattle.months.proofs.theory.Listed.{not_after_turn, not_after_end, not_after_small}
use Rattle.month_rule.proofs.Counted.{byte_is}
use Rattle.month_rule.proofs.inner.not_after.Goals as goal
use Rattle.month_rule.proofs.inner.not_after.Goals.{After-from-n, At-loop-d}

-- what was counted, and what is left to count
at_head : (c : At-loop-d) → (let a = c.args in c.loop-d.n + not_after a.day (drop c.loop-d.d-index a.days.now) ≡ not_after a.day a.days.now)
at_head c = rw (to_z-of_z c.ranges.day) at c.loop-d.invariant

-- one turn counts the day that it is at
at_turn : (c : After-from-n) → (let a = c.args in let i = c.loop-d.d-index in not_after a.day (drop i a.days.now) ≡ c.from-n.result + not_after a.day (drop (i + 1) a.days.now))
at_turn c =
    let i = c.loop-d.d-index in
    let day = get_or c.args.days.now i (pos 0) in
    let f : SFits w64 day = search rules in
    let counted = (rw (to_z-of_z f, to_z-of_z c.ranges.day) at c.from-n.ensures) ∙ byte_is (le_z day c.args.day) in
    omega (arith, counted, not_after_turn c.args.day c.args.days.now i (omega arith))

pub overflow_add-n : goal.overflow_add-n
overflow_add-n c =
    let whole = not_after_small c.args.day c.args.days.now in
    record { fits = omega (arith, at_turn c, at_head (goal.at.overflow_add-n c).At-loop-d, whole, c.well_formed.0) }

pub loop-d-preserved : goal.loop-d-preserved
loop-d-preserved c = rw (to_z-of_z c.ranges.day) (omega (arith, at_turn c, at_head (goal.at.loop-d-preserved c).At-loop-d))

pub returns : goal.returns
returns c = omega (arith, at_head (goal.at.returns c).At-loop-d, not_after_end c.args.day c.args.days.now c.loop-d.d-index (omega arith))
