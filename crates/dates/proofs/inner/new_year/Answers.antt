-- `dates::inner::new_year` meets its contract. Assumes nothing.
use mathlib.Core.Path.{◌≡◌, ◌∙◌}
use lib.IntN.{pos, ◌-ℤ◌}
use mir.Syntax.{w64}
use mir.Val.{to_z, of_z}
use mir.Facts.{to_z-of_z}
use Rattle.whole.specs.Ranges.{Within, fits, within, bounds, bound_back, back}
use Rattle.dates.specs.Calendar.{leap_years_to, new_year}
use Rattle.dates.proofs.theory.Sizes.{leap_years_small}
use Rattle.dates.proofs.inner.new_year.Goals as goal
use Rattle.dates.proofs.inner.new_year.Goals.{After-leap_years_to}

pub overflow_sub-result : goal.overflow_sub-result
overflow_sub-result c = fits (search bounds) tt

pub overflow_mul-result : goal.overflow_mul-result
overflow_mul-result c = fits (search (bounds, bound_back (overflow_sub-result c))) tt

pub overflow_sub-y : goal.overflow_sub-y
overflow_sub-y c = fits (search bounds) tt

pub leap_years_to-requires : goal.leap_years_to-requires
leap_years_to-requires c = within (search (bounds, bound_back (overflow_sub-y c))) tt

at_leap : (c : After-leap_years_to) → to_z w64 (of_z w64 c.leap_years_to.result) ≡ leap_years_to (c.before.args.y -ℤ pos 1)
at_leap c = back c.leap_years_to.result c.leap_years_to.type_inv ∙ (rw (to_z-of_z (overflow_sub-y c.before), to_z-of_z c.before.ranges.y) at c.leap_years_to.ensures)

small : (c : After-leap_years_to) → Within 6000000000 (leap_years_to (c.before.args.y -ℤ pos 1))
small c = leap_years_small (c.before.args.y -ℤ pos 1) (within (search bounds) tt)

pub overflow_add-result : goal.overflow_add-result
overflow_add-result c =
    let few = small c in
    rw (at_leap c) (fits (search (bounds, bound_back (overflow_sub-result c.before), bound_back (overflow_mul-result c.before)) depth 9) tt)

pub overflow_sub-result-2 : goal.overflow_sub-result-2
overflow_sub-result-2 c =
    let few = small c in
    rw (to_z-of_z (overflow_add-result c), at_leap c) (fits (search (bounds, bound_back (overflow_sub-result c.before), bound_back (overflow_mul-result c.before)) depth 9) tt)

pub returns : goal.returns
unfolding new_year
returns c =
    let start = c.before in
    rw (to_z-of_z (overflow_sub-result-2 c), to_z-of_z (overflow_add-result c), to_z-of_z (overflow_mul-result start), to_z-of_z (overflow_sub-result start), to_z-of_z start.ranges.y, at_leap c)
