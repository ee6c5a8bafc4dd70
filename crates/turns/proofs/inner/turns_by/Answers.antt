-- `turns::inner::turns_by` meets its contract. The loop's invariant: the count lies from `low` to `high`, and no turn is left out. In the needs, `start` is the
-- function's entry. Assumes nothing.
use mathlib.Core.Path.{◌≡◌, sym, ap, ◌∙◌}
use Prim.Native.Nat.{ℕ, ◌+◌, ◌-◌, ◌/◌, ◌≤◌, ◌<◌}
use native.Mathlib.Omega.{arith}
use lib.IntN.{ℤ}
use lib.Signed.{lt_z}
use mir.Facts.{to_z-of_z}
use Rattle.series.specs.Series.{series}
use Rattle.times.specs.declared.Day.{Day}
use Rattle.turns.specs.Listed.{turn_day}
use Rattle.turns.specs.Listed.{turns_by}
use Rattle.turns.specs.Searched.{by_small, count_small, turn_counts, turn_is_behind}
use Rattle.turns.proofs.inner.turns_by.Goals as goal
use Rattle.turns.proofs.inner.turns_by.Goals.{After-comes_before, At-loop-low, In-loop-low, Start}

abbrev counted : Start → ℕ
counted start = turns_by start.args.leap.now (series start.args.body start.args.start.0 start.args.coefs.now) start.args.zone start.args.day.0

abbrev day_of : Start → ℕ → ℤ
day_of start = turn_day start.args.leap.now (series start.args.body start.args.start.0 start.args.coefs.now) start.args.zone

at_head : (c : At-loop-low) → (c.loop-low.high ≤ c.args.turns.count) × (c.loop-low.low ≤ counted c.before) × (counted c.before ≤ c.loop-low.high)
at_head c = rw (to_z-of_z c.ranges.zone) at c.loop-low.invariant

abbrev middle : At-loop-low → ℕ
middle c = c.loop-low.low + (c.loop-low.high - c.loop-low.low) / 2

inside : (c : In-loop-low) → (c.loop-low.low ≤ middle c.before) × (middle c.before < c.loop-low.high) × (c.loop-low.high ≤ 2000200000000000) × (middle c.before < c.args.turns.count)
inside c = omega (arith, at_head c.before, count_small c.requires)

at_day : (c : After-comes_before) → (c.comes_before.result ≡ lt_z c.args.day.0 (day_of c.before.before.before.before (middle c.before.before.before)))
at_day c =
    c.comes_before.ensures ∙ ap (λ (d : Day). lt_z c.args.day.0 d.0) (rw (to_z-of_z c.ranges.zone) at c.day_of_turn-here.ensures)

pub loop-low-init : goal.loop-low-init
loop-low-init c = (omega arith, omega arith, rw (to_z-of_z c.ranges.zone) (by_small c.requires c.args.day.0))

pub overflow_sub-middle : goal.overflow_sub-middle
overflow_sub-middle c = omega arith

pub overflow_add-middle : goal.overflow_add-middle
overflow_add-middle c = record { fits = omega (arith, inside c) }

pub day_of_turn-here-requires : goal.day_of_turn-here-requires
day_of_turn-here-requires c = rw (to_z-of_z c.ranges.zone) (record { searched = c.requires; k_lt_count = omega (arith, inside c) })

pub loop-low-smaller-then-comes_before : goal.loop-low-smaller-then-comes_before
loop-low-smaller-then-comes_before c = omega (arith, inside c.before.before.before)

pub loop-low-preserved-then-comes_before : goal.loop-low-preserved-then-comes_before
loop-low-preserved-then-comes_before c =
    let here = inside c.before.before.before in
    let behind = turn_is_behind c.requires c.args.day.0 (middle c.before.before.before.before) here.3 (sym (at_day c.before) ∙ c.if-comes_before.true) in
    rw (to_z-of_z c.ranges.zone) (omega (arith, here, at_head c.before.before.before.before), (at_head c.before.before.before.before).1, behind)

pub overflow_add-low : goal.overflow_add-low
overflow_add-low c = record { fits = omega (arith, inside c.before.before.before) }

pub loop-low-smaller : goal.loop-low-smaller
loop-low-smaller c = omega (arith, inside c.before.before.before)

pub loop-low-preserved : goal.loop-low-preserved
loop-low-preserved c =
    let here = inside c.before.before.before in
    let counts = turn_counts c.requires c.args.day.0 (middle c.before.before.before.before) here.3 (sym (at_day c.before) ∙ c.if-comes_before.false) in
    rw (to_z-of_z c.ranges.zone) ((at_head c.before.before.before.before).0, omega (arith, counts), (at_head c.before.before.before.before).2)

pub returns : goal.returns
returns c = omega (arith, at_head c.before)
