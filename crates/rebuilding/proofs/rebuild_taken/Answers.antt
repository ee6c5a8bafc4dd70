-- `rebuilding::rebuild_taken` meets its contract. Assumes nothing.
use Rattle.refusals.specs.Verdict.{passed_on, paper}
use mathlib.Core.Path.{sym, ap, ◌∙◌}
use lib.ListN.{length}
use mir.Facts.{to_z-of_z}
use borrow.Author.Rules.{rules}
use Rattle.building.specs.theory.Cases.{bounded}
use Rattle.clock.specs.Clock.{is_zone}
use Rattle.rebuilt_from.proofs.theory.Cases.{found, sections, refusing, passing_on, no_zone, old_broken, new_broken, both_found}
use Rattle.rebuilding.proofs.rebuild_taken.Goals as goal

pub returns-then-not-is_zone : goal.returns-then-not-is_zone
returns-then-not-is_zone c =
    let a = c.args in
    let none = refusing a.file.now a.years.now (no_zone a.old.now a.oldwords.now a.oldbytes a.words.now a.bytes a.zone (length a.file.now) (length a.years.now) (sym (c.is_zone.ensures ∙ ap is_zone (to_z-of_z c.ranges.zone)) ∙ c.if-not-is_zone.true)) in
    record { result_value = none.0; file_after = none.1.0; years_after = none.1.1 }

pub returns-in_err-oldplaces : goal.returns-in_err-oldplaces
returns-in_err-oldplaces c =
    let a = c.args in
    let none = refusing a.file.now a.years.now (old_broken a.old.now a.oldwords.now a.oldbytes a.words.now a.bytes a.zone (length a.file.now) (length a.years.now) (sym (c.is_zone.ensures ∙ ap is_zone (to_z-of_z c.ranges.zone)) ∙ c.if-not-is_zone.false) (sym c.find_sections.ensures ∙ ap paper c.in_err-oldplaces.was)) in
    record { result_value = passed_on c.from_residual.result c.in_err-oldplaces.field-0.0 c.from_residual.ensures.1 none.0; file_after = none.1.0; years_after = none.1.1 }

pub returns-in_err-places : goal.returns-in_err-places
returns-in_err-places c =
    let a = c.args in
    let none = refusing a.file.now a.years.now
    (new_broken a.old.now a.oldwords.now a.oldbytes a.words.now a.bytes a.zone (length a.file.now) (length a.years.now) (sym (c.is_zone.ensures ∙ ap is_zone (to_z-of_z c.ranges.zone)) ∙ c.if-not-is_zone.false) (sym c.find_sections.ensures ∙ ap paper c.in_ok-oldplaces.was) (sym c.find_sections-2.ensures ∙ ap paper c.in_err-places.was)) in
    record { result_value = passed_on c.from_residual-in_err-places.result c.in_err-places.field-0.0 c.from_residual-in_err-places.ensures.1 none.0; file_after = none.1.0; years_after = none.1.1 }

pub slice_bounds-rebuild_sections-start : goal.slice_bounds-rebuild_sections-start
slice_bounds-rebuild_sections-start c =
    let old = found _ _ _ (sym c.find_sections.ensures ∙ ap paper c.in_ok-oldplaces.was) in
    let two = old.two in
    search rules

pub slice_bounds-rebuild_sections-end : goal.slice_bounds-rebuild_sections-end
slice_bounds-rebuild_sections-end c =
    let old = found _ _ _ (sym c.find_sections.ensures ∙ ap paper c.in_ok-oldplaces.was) in
    let known = bounded _ _ old.taken in
    search rules

pub slice_bounds-rebuild_sections-count : goal.slice_bounds-rebuild_sections-count
slice_bounds-rebuild_sections-count c = let old = found _ _ _ (sym c.find_sections.ensures ∙ ap paper c.in_ok-oldplaces.was) in old.two

pub slice_bounds-rebuild_sections-start-2 : goal.slice_bounds-rebuild_sections-start-2
slice_bounds-rebuild_sections-start-2 c =
    let new = found _ _ _ (sym c.find_sections-2.ensures ∙ ap paper c.in_ok-places.was) in
    let two = new.two in
    search rules

pub slice_bounds-rebuild_sections-end-2 : goal.slice_bounds-rebuild_sections-end-2
slice_bounds-rebuild_sections-end-2 c =
    let new = found _ _ _ (sym c.find_sections-2.ensures ∙ ap paper c.in_ok-places.was) in
    let known = bounded _ _ new.taken in
    search rules

pub slice_bounds-rebuild_sections-count-2 : goal.slice_bounds-rebuild_sections-count-2
slice_bounds-rebuild_sections-count-2 c = let new = found _ _ _ (sym c.find_sections-2.ensures ∙ ap paper c.in_ok-places.was) in new.two

pub rebuild_sections-requires : goal.rebuild_sections-requires
rebuild_sections-requires c =
    let old = found _ _ _ (sym c.find_sections.ensures ∙ ap paper c.in_ok-oldplaces.was) in
    let new = found _ _ _ (sym c.find_sections-2.ensures ∙ ap paper c.in_ok-places.was) in
    record { sections = sections _ _ _ old; sections_2 = sections _ _ _ new }

pub returns : goal.returns
returns c =
    let a = c.args in
    let told = rw (to_z-of_z c.ranges.zone) at c.rebuild_sections.ensures in
    let rebuilt = passing_on a.file.now a.years.now
    (both_found a.old.now a.oldwords.now a.oldbytes a.words.now a.bytes a.zone (length a.file.now) (length a.years.now) (sym (c.is_zone.ensures ∙ ap is_zone (to_z-of_z c.ranges.zone)) ∙ c.if-not-is_zone.false) (sym c.find_sections.ensures ∙ ap paper c.in_ok-oldplaces.was) (sym c.find_sections-2.ensures ∙ ap paper c.in_ok-places.was))
    (told.result_value, (told.file_after, told.years_after)) in
    record { result_value = rebuilt.0; file_after = rebuilt.1.0; years_after = rebuilt.1.1 }
