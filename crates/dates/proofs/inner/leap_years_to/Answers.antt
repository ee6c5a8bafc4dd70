-- `dates::inner::leap_years_to` meets its contract. Assumes nothing.
use mathlib.Core.Path.{◌≡◌, ◌∙◌}
use mir.Syntax.{w64}
use mir.Val.{to_z, of_z}
use mir.Facts.{to_z-of_z}
use Rattle.whole.specs.Ranges.{fits, bounds, back}
use Rattle.whole.specs.Floor.{floor_div}
use Rattle.whole.proofs.Floor.{bound_floor}
use Rattle.dates.specs.Calendar.{leap_years_to}
use Rattle.dates.proofs.inner.leap_years_to.Goals as goal
use Rattle.dates.proofs.inner.leap_years_to.Goals.{After-floor_div, After-floor_div-2, After-floor_div-3}

at_4 : (c : After-floor_div) → to_z w64 (of_z w64 c.floor_div.result) ≡ floor_div c.before.args.y 4
at_4 c = back c.floor_div.result c.floor_div.type_inv ∙ (rw (to_z-of_z c.before.ranges.y) at c.floor_div.ensures)

at_100 : (c : After-floor_div-2) → to_z w64 (of_z w64 c.floor_div-2.result) ≡ floor_div c.before.before.args.y 100
at_100 c = back c.floor_div-2.result c.floor_div-2.type_inv ∙ (rw (to_z-of_z c.before.before.ranges.y) at c.floor_div-2.ensures)

at_400 : (c : After-floor_div-3) → (let start = c.before.before.before in to_z w64 (of_z w64 c.floor_div-3.result) ≡ floor_div start.args.y 400)
at_400 c =
    let start = c.before.before.before in
    back c.floor_div-3.result c.floor_div-3.type_inv ∙ (rw (to_z-of_z start.ranges.y) at c.floor_div-3.ensures)

pub overflow_sub-result : goal.overflow_sub-result
overflow_sub-result c = rw (at_4 c.before, at_100 c) (fits (search (bounds, bound_floor) depth 9) tt)

pub overflow_add-result : goal.overflow_add-result
overflow_add-result c =
    let century = c.before in
    rw (to_z-of_z (overflow_sub-result century), at_4 century.before, at_100 century, at_400 c) (fits (search (bounds, bound_floor) depth 9) tt)

pub returns : goal.returns
unfolding leap_years_to
returns c =
    let century = c.before in
    rw (to_z-of_z (overflow_add-result c), to_z-of_z (overflow_sub-result century), at_4 century.before, at_100 century, at_400 c)
