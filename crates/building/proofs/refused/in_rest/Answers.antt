-- `building::refused::in_rest` meets its contract. Assumes nothing.
use mathlib.Core.Path.{sym, ap, ◌∙◌}
use Rattle.refusals.specs.Verdict.{paper}
use Rattle.layout.proofs.theory.Sections.{places_inside}
use Rattle.building.specs.theory.Blamed.{rest_broken, rest_found}
use Rattle.building.proofs.refused.in_rest.Goals as goal

pub in_sections-requires : goal.in_sections-requires
in_sections-requires c = record { le_sun = places_inside c.args.words.now _ (sym c.find_places.ensures ∙ ap paper c.in-Ok.is); words_len_bound = c.requires }

pub returns-in-Err : goal.returns-in-Err
returns-in-Err c = rest_broken c.args.words.now (sym c.find_places.ensures ∙ ap paper c.in-Err.is)

pub returns-in-Ok : goal.returns-in-Ok
returns-in-Ok c =
    c.in_sections.ensures ∙ sym (rest_found c.args.words.now (sym c.find_places.ensures ∙ ap paper c.in-Ok.is))
