-- `dates::inner::year_or_next` meets its contract. Assumes nothing.
use mathlib.Core.Path.{◌≡◌, ◌∙◌}
use lib.IntN.{pos, ◌+ℤ◌, ◌*ℤ◌}
use mir.Syntax.{w64}
use mir.Val.{to_z, of_z}
use mir.Facts.{to_z-of_z}
use Rattle.whole.specs.Ranges.{fits, bounds, bound_back, back}
use Rattle.whole.specs.Floor.{floor_div}
use Rattle.whole.proofs.Floor.{bound_floor}
use Rattle.dates.specs.Calendar.{year_or_next}
use Rattle.dates.proofs.inner.year_or_next.Goals as goal
use Rattle.dates.proofs.inner.year_or_next.Goals.{After-floor_div}

pub overflow_mul-n : goal.overflow_mul-n
overflow_mul-n c = fits (search bounds) tt

pub overflow_add-n : goal.overflow_add-n
overflow_add-n c = fits (search (bounds, bound_back (overflow_mul-n c))) tt

at_quotient : (c : After-floor_div) → to_z w64 (of_z w64 c.floor_div.result) ≡ floor_div (pos 400 *ℤ c.before.before.args.day.0 +ℤ pos 396) 146097
at_quotient c =
    let told = c.before in
    back c.floor_div.result c.floor_div.type_inv
    ∙ (rw (to_z-of_z (overflow_add-n told), to_z-of_z (overflow_mul-n told), back told.before.args.day.0 told.struct_told-1.given.0.1) at c.floor_div.ensures)

pub overflow_add-result : goal.overflow_add-result
overflow_add-result c = rw (at_quotient c) (fits (search (bounds, bound_floor) depth 9) tt)

pub returns : goal.returns
unfolding year_or_next
returns c = rw (to_z-of_z (overflow_add-result c), at_quotient c)
