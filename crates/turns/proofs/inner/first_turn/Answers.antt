-- `turns::inner::first_turn` meets its contract. Assumes nothing.
use mathlib.Core.Path.{◌≡◌, ap, ◌∙◌}
use native.Mathlib.Omega.{arith}
use lib.IntN.{pos, ◌+ℤ◌, ◌-ℤ◌}
use mir.Syntax.{w64}
use mir.Val.{of_z, to_z}
use mir.Facts.{to_z-of_z}
use Rattle.whole.proofs.Floor.{floor_mod_lt}
use Rattle.whole.specs.Parts.{→<}
use Rattle.whole.specs.Ranges.{back, fits, fits<, bounds}
use Rattle.turns.specs.Turns.{circle_of, turn_of, some_circle, small_circle, turn_within, gap}
use Rattle.turns.proofs.inner.first_turn.Goals as goal
use Rattle.turns.proofs.inner.first_turn.Goals.{After-add-next, After-floor_mod-gap, After-signed, After-subtract, After-turn}

at_next : (c : After-add-next) → to_z w64 (of_z w64 c.add-next.result) ≡ c.args.lowest +ℤ pos 1
at_next c = back c.add-next.result c.add-next.type_inv ∙ (rw (to_z-of_z c.ranges.lowest) at c.add-next.ensures)

at_turn : (c : After-turn) → to_z w64 (of_z w64 c.turn.result) ≡ pos (turn_of c.args.body)
at_turn c = back c.turn.result c.turn.type_inv ∙ c.turn.ensures

at_difference : (c : After-subtract) → (to_z w64 (of_z w64 c.subtract.result) ≡ pos (turn_of c.args.body) -ℤ (c.args.lowest +ℤ pos 1))
at_difference c = back c.subtract.result c.subtract.type_inv ∙ (rw (at_turn c.before, at_next c.before.before) at c.subtract.ensures)

at_circle : (c : After-signed) → to_z w64 (of_z w64 c.signed.result) ≡ pos (circle_of c.args.body)
at_circle c = back c.signed.result c.signed.type_inv ∙ c.signed.ensures ∙ ap pos c.circle.ensures

at_gap : (c : After-floor_mod-gap) → (to_z w64 (of_z w64 c.floor_mod-gap.result) ≡ pos (gap c.args.body c.args.lowest))
at_gap c = back c.floor_mod-gap.result c.floor_mod-gap.type_inv ∙ (rw (at_difference c.before.before.before, at_circle c.before) at c.floor_mod-gap.ensures)

pub add-next-requires : goal.add-next-requires
add-next-requires c = let small = c.requires in rw (to_z-of_z c.ranges.lowest) (fits (search bounds) tt)

pub subtract-requires : goal.subtract-requires
subtract-requires c =
    let small = c.requires in
    rw (at_turn c, at_next c.before) (fits< (search bounds) (omega (arith, turn_within c.args.body, small_circle c.args.body)))

pub signed-requires : goal.signed-requires
signed-requires c = omega (arith, c.circle.ensures, small_circle c.args.body)

pub floor_mod-gap-requires : goal.floor_mod-gap-requires
floor_mod-gap-requires c = rw (at_circle c) (→< (omega (arith, some_circle c.args.body)))

pub add-requires : goal.add-requires
add-requires c =
    let small = c.requires in
    let body = c.args.body in
    rw (at_next c.before.before.before.before.before, at_gap c)
    (fits< (search bounds) (omega (arith, floor_mod_lt (pos (turn_of body) -ℤ (c.args.lowest +ℤ pos 1)) (circle_of body) (some_circle body), small_circle body)))

pub returns : goal.returns
returns c = back c.add.result c.add.type_inv ∙ (rw (at_next c.before.before.before.before.before.before, at_gap c.before) at c.add.ensures)
