-- `dates::inner::year_of` meets its contract. Assumes nothing.
use mathlib.Core.Path.{◌≡◌, sym, ◌∙◌}
use lib.Signed.{lt_z}
use mir.Syntax.{w64}
use mir.Val.{to_z, of_z}
use mir.Facts.{to_z-of_z}
use Rattle.whole.specs.Ranges.{fits, within, bounds, back}
use Rattle.dates.specs.Calendar.{new_year, year_or_next, year_of}
use Rattle.dates.proofs.theory.Sizes.{near_small}
use Rattle.dates.proofs.inner.year_of.Goals as goal
use Rattle.dates.proofs.inner.year_of.Goals.{After-new_year-first, After-struct_told-2-1, After-year_or_next-near}

at_near : (c : After-year_or_next-near) → to_z w64 (of_z w64 c.year_or_next-near.result) ≡ year_or_next c.before.args.day.0
at_near c = back c.year_or_next-near.result c.year_or_next-near.type_inv ∙ c.year_or_next-near.ensures

at_first : (c : After-new_year-first) → c.new_year-first.result.0 ≡ new_year (year_or_next c.before.before.args.day.0)
at_first c = rw (at_near c.before) at c.new_year-first.ensures

pub new_year-first-requires : goal.new_year-first-requires
new_year-first-requires c =
    let small = near_small c.before.args.day.0 c.before.requires in
    rw (at_near c) (within (search bounds) tt)

pub overflow_sub-result : goal.overflow_sub-result
overflow_sub-result c =
    let near = c.before.before.before.before.before.before in
    let small = near_small near.before.args.day.0 near.before.requires in
    rw (at_near near) (fits (search bounds) tt)

-- the test decides as the definition's does
at_test : (c : After-struct_told-2-1) →
    (let first = c.before.before.before.before in
    let n = first.before.before.args.day.0 in
    lt_z (to_z w64 (of_z w64 n)) (to_z w64 (of_z w64 first.new_year-first.result.0)) ≡ lt_z n (new_year (year_or_next n)))
at_test c =
    let told = c.before.before in
    let first = told.before.before in
    rw (back first.before.before.args.day.0 told.struct_told-1.given.0.1, back first.new_year-first.result.0 c.struct_told-2-1.given.0.1, at_first first)

pub returns-then-day-first : goal.returns-then-day-first
unfolding year_of
returns-then-day-first c =
    let near = c.before.before.before.before.before.before in
    rw (sym (at_test c.before) ∙ c.if-day-first.true, to_z-of_z (overflow_sub-result c), at_near near)

pub returns : goal.returns
unfolding year_of
returns c =
    let near = c.before.before.before.before.before.before in
    rw (sym (at_test c.before) ∙ c.if-day-first.false, at_near near)
