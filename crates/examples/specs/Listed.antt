-- What the two series of document 01's listing example list, whole. Assumes nothing.
use Rattle.std.specs.Prelude.{◌≡◌, refl, [], ◌∷◌, ℤ, pos, ◌+ℤ◌}
use Rattle.std.proofs.Common.{sym, ap, ap₂, ◌∙◌}
use Rattle.std.specs.Int.Signed.{le_z_yes, lt_z_yes}
use Rattle.whole.specs.Floor.{floor_div}
use Rattle.whole.specs.Distance.{distance_from}
use Rattle.refusals.specs.Search.{first_bad}
use Rattle.chebyshev.specs.Polynomials.{P}
use Rattle.chebyshev.specs.Segment.{sum, value, slope}
use Rattle.series.specs.Series.{value_at}
use Rattle.series.specs.Acceptance.{Accepted, series_judged}
use Rattle.series.specs.Examples.{sun, moon}
use Rattle.marks.specs.Marks.{index_at}
use Rattle.marks.specs.Crossings.{marked, numbered}
use Rattle.marks.specs.Listed.{listed_marks, first_reached, last_reached, second_of_mark, MarkAt}
use Rattle.marks.proofs.Theorems.{listed_by_index, located_nowhere_else}

-- ---- the Sun's: marks 1 and 2. Mark 0, at its first second, is not among them
sun_accepted : Accepted sun
unfolding series_judged value slope sum P floor_div first_bad
sun_accepted = refl

sun_first : first_reached sun ≡ pos 0
unfolding value_at value sum P floor_div index_at
sun_first = refl

sun_last : last_reached sun ≡ pos 2
unfolding value_at value sum P floor_div index_at
sun_last = refl

sun_at_1 : MarkAt sun (pos 1) (pos 1350000)
unfolding value_at value sum P floor_div
sun_at_1 = record { after_first = lt_z_yes tt; by_last = le_z_yes tt; less_before = lt_z_yes tt; reached_here = le_z_yes tt }

sun_at_2 : MarkAt sun (pos 2) (pos 2700000)
unfolding value_at value sum P floor_div
sun_at_2 = record { after_first = lt_z_yes tt; by_last = le_z_yes tt; less_before = lt_z_yes tt; reached_here = le_z_yes tt }

pub sun_lists : listed_marks sun ≡ marked (pos 1) (pos 1350000) ∷ marked (pos 2) (pos 2700000) ∷ []
unfolding numbered
sun_lists =
    listed_by_index sun sun_accepted
    ∙ ap₂ (λ (a b : ℤ). numbered (second_of_mark sun) (a +ℤ pos 1) (distance_from a b)) sun_first sun_last
    ∙ ap₂ (λ (t u : ℤ). marked (pos 1) t ∷ marked (pos 2) u ∷ []) (sym (located_nowhere_else sun sun_accepted (pos 1) (pos 1350000) sun_at_1)) (sym (located_nowhere_else sun sun_accepted (pos 2) (pos 2700000) sun_at_2))

-- ---- the Moon's: mark 1, a second after its first
moon_accepted : Accepted moon
unfolding series_judged value slope sum P floor_div first_bad
moon_accepted = refl

moon_first : first_reached moon ≡ pos 0
unfolding value_at value sum P floor_div index_at
moon_first = refl

moon_last : last_reached moon ≡ pos 1
unfolding value_at value sum P floor_div index_at
moon_last = refl

moon_at_1 : MarkAt moon (pos 1) (pos 1)
unfolding value_at value sum P floor_div
moon_at_1 = record { after_first = lt_z_yes tt; by_last = le_z_yes tt; less_before = lt_z_yes tt; reached_here = le_z_yes tt }

pub moon_lists : listed_marks moon ≡ marked (pos 1) (pos 1) ∷ []
unfolding numbered
moon_lists =
    listed_by_index moon moon_accepted
    ∙ ap₂ (λ (a b : ℤ). numbered (second_of_mark moon) (a +ℤ pos 1) (distance_from a b)) moon_first moon_last
    ∙ ap (λ (t : ℤ). marked (pos 1) t ∷ []) (sym (located_nowhere_else moon moon_accepted (pos 1) (pos 1) moon_at_1))
