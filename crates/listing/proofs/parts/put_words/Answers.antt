-- `listing::parts::put_words` meets its contract. Assumes nothing.
use mathlib.Core.Path.{sym, ap, ◌∙◌}
use mir.Facts.{to_z-of_z}
use Rattle.layout.specs.Layout.{inputs_at}
use Rattle.layout.proofs.theory.Sections.{places_inside}
use Rattle.listed.specs.Listing.{listed, listed_words, printed}
use Rattle.refusals.specs.Verdict.{refused_then, answered_then, paper}
use Rattle.listing.proofs.parts.put_words.Goals as goal

pub put_sections-requires : goal.put_sections-requires
put_sections-requires c =
    let inside = places_inside c.args.words.now _ (sym (sym (ap paper c.in-Ok.is) ∙ c.find_places.ensures)) in
    record { le_sun = inside; words_len_bound = c.requires.words_len_bound; within = rw (to_z-of_z c.ranges.zone) c.requires.within }

pub returns-in-Err : goal.returns-in-Err
unfolding listed_words
returns-in-Err c =
    rw (ap printed (sym (refused_then (λ p. listed (inputs_at c.args.words.now p) c.args.zone) (sym (ap paper c.in-Err.is) ∙ c.find_places.ensures)))) c.put_refusal.ensures

pub returns-in-Ok : goal.returns-in-Ok
unfolding listed_words
returns-in-Ok c =
    rw (ap printed (sym (answered_then (λ p. listed (inputs_at c.args.words.now p) c.args.zone) (sym (ap paper c.in-Ok.is) ∙ c.find_places.ensures)))) (rw (to_z-of_z c.ranges.zone) at c.put_sections.ensures)
