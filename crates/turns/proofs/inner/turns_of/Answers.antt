-- `turns::inner::turns_of` meets its contract. Assumes nothing.
use mathlib.Core.Path.{◌≡◌, ◌∙◌}
use native.Mathlib.Omega.{arith}
use mir.Syntax.{w64}
use mir.Val.{of_z, to_z}
use Rattle.whole.specs.Ranges.{back}
use Rattle.series.specs.Series.{Series, series}
use Rattle.marks.specs.Listed.{first_reached, last_reached}
use Rattle.turns.specs.Listed.{first_turn_of}
use Rattle.turns.specs.Searched.{first_small, last_small, first_turn_small}
use Rattle.turns.proofs.inner.turns_of.Goals as goal
use Rattle.turns.proofs.inner.turns_of.Goals.{After-first_reached-lowest, After-first_turn-first, After-last_reached-highest, Start}

abbrev series_of : Start → Series
series_of start = series start.args.body start.args.start.0 start.args.coefs.now

at_lowest : (c : After-first_reached-lowest) → to_z w64 (of_z w64 c.first_reached-lowest.result) ≡ first_reached (series_of c.before)
at_lowest c = back c.first_reached-lowest.result c.first_reached-lowest.type_inv ∙ c.first_reached-lowest.ensures

at_first : (c : After-first_turn-first) → to_z w64 (of_z w64 c.first_turn-first.result) ≡ first_turn_of (series_of c.before.before)
at_first c = back c.first_turn-first.result c.first_turn-first.type_inv ∙ (rw (at_lowest c.before) at c.first_turn-first.ensures)

at_highest : (c : After-last_reached-highest) → to_z w64 (of_z w64 c.last_reached-highest.result) ≡ last_reached (series_of c.before.before.before)
at_highest c = back c.last_reached-highest.result c.last_reached-highest.type_inv ∙ c.last_reached-highest.ensures

pub first_turn-first-requires : goal.first_turn-first-requires
first_turn-first-requires c = rw (at_lowest c) (first_small (series_of c.before) c.requires)

pub turns_up_to-count-requires : goal.turns_up_to-count-requires
turns_up_to-count-requires c =
    rw (at_first c.before, at_highest c) (record { within = first_turn_small (series_of c.before.before.before) c.requires; within_2 = record { within = omega (arith, (last_small (series_of c.before.before.before) c.requires).within) } })

pub returns : goal.returns
returns c =
    let count = rw (at_first c.before.before, at_highest c.before) at c.turns_up_to-count.ensures in
    λ t. record { first = at_first c.before.before t; count = count t }
