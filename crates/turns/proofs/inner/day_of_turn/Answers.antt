-- `turns::inner::day_of_turn` meets its contract. In the needs, `start` is the function's entry. Assumes nothing.
use mathlib.Core.Path.{◌≡◌, ap, ◌∙◌}
use Prim.Native.Nat.{◌<◌}
use mir.Syntax.{w64}
use mir.Val.{SFits, of_z, to_z}
use mir.Facts.{to_z-of_z}
use Rattle.whole.specs.Ranges.{fits_of, back}
use Rattle.series.specs.Series.{Series, series}
use Rattle.turns.specs.declared.inner.TurnList.{TurnList}
use Rattle.turns.specs.Listed.{first_turn_of, turn_index_of, turns_of, turn_after, turn_by_last}
use Rattle.turns.specs.Searched.{turn_fits, circles_small}
use Rattle.turns.proofs.inner.day_of_turn.Goals as goal
use Rattle.turns.proofs.inner.day_of_turn.Goals.{After-turn_index-index, Start}

abbrev series_of : Start → Series
series_of start = series start.args.body start.args.start.0 start.args.coefs.now

first_is : (start : Start) → start.args.turns.first ≡ first_turn_of (series_of start)
first_is start = ap (λ (t : TurnList). t.first) start.requires.searched.are_turns

listed : (start : Start) → start.args.k < turns_of (series_of start)
listed start = rw (ap (λ (t : TurnList). t.count) start.requires.searched.are_turns) at start.requires.k_lt_count

pub turn_index-index-requires : goal.turn_index-index-requires
turn_index-index-requires c =
    let s = series_of c.before.before in
    let f : SFits w64 c.args.turns.first = fits_of c.args.turns.first c.struct_told-1.given.0.1 in record { k_bound = circles_small s c.requires.searched.ready.is_accepted c.args.k (listed c.before.before); sfits = rw (to_z-of_z f, first_is c.before.before) (turn_fits s c.requires.searched.ready.is_accepted c.args.k (listed c.before.before)) }

at_index : (c : After-turn_index-index) → (to_z w64 (of_z w64 c.turn_index-index.result) ≡ turn_index_of (series_of c.before.before) c.args.k)
at_index c =
    let f : SFits w64 c.args.turns.first = fits_of c.args.turns.first c.struct_told-1.given.0.1 in
    back c.turn_index-index.result c.turn_index-index.type_inv ∙ (rw (to_z-of_z f, first_is c.before.before) at c.turn_index-index.ensures)

pub day_of_mark-requires : goal.day_of_mark-requires
day_of_mark-requires c =
    let s = series_of c.before.before in
    rw (at_index c, to_z-of_z c.ranges.zone) (record { ready = c.requires.searched.ready; coefs_bound = turn_after s c.args.k; index_bound = turn_by_last s c.args.k (listed c.before.before); within = c.requires.searched.zone_small })

pub returns : goal.returns
returns c = rw (at_index c.before, to_z-of_z c.ranges.zone) at c.day_of_mark.ensures
