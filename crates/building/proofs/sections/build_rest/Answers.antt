-- `building::sections::build_rest` meets its contract. Assumes nothing.
use mathlib.Core.Path.{sym, ap, ◌∙◌}
use lib.ListN.{length}
use mir.Facts.{to_z-of_z}
use Rattle.refusals.specs.Verdict.{paper, passed_on}
use Rattle.layout.proofs.theory.Sections.{places_inside}
use Rattle.building.specs.theory.Cases.{refusing, passing_on, rest_broken, rest_found}
use Rattle.building.proofs.sections.build_rest.Goals as goal

pub build_sections-requires : goal.build_sections-requires
build_sections-requires c = record { le_sun = places_inside c.args.words.now _ (sym c.find_places.ensures ∙ ap paper c.in_ok-p.was); words_len_bound = c.requires }

pub returns-in_err-p : goal.returns-in_err-p
returns-in_err-p c =
    let a = c.args in
    let stop = refusing a.file.now (rest_broken a.words.now a.zone a.year a.count (length a.file.now) (sym c.find_places.ensures ∙ ap paper c.in_err-p.was)) in
    record { result_value = passed_on c.from_residual.result c.in_err-p.field-0.0 c.from_residual.ensures.1 stop.0; file_after = stop.1 }

pub returns : goal.returns
returns c =
    let a = c.args in
    let told = rw (to_z-of_z c.ranges.zone, to_z-of_z c.ranges.year, to_z-of_z c.ranges.count) at c.build_sections.ensures in
    let built = passing_on a.file.now (rest_found a.words.now a.zone a.year a.count (length a.file.now) (sym c.find_places.ensures ∙ ap paper c.in_ok-p.was)) (told.result_value, told.file_after) in
    record { result_value = built.0; file_after = built.1 }
