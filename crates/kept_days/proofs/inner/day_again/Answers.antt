-- `kept_days::inner::day_again` meets its contract. In the needs, `start` is the function's entry. Assumes nothing.
use mathlib.Core.Path.{◌≡◌, sym, ap, ap₂, ◌∙◌}
use Prim.Native.Nat.{◌+◌, ◌<◌}
use native.Mathlib.Omega.{arith}
use lib.IntN.{ℤ, pos}
use lib.ListN.{get_or}
use mir.Syntax.{w64}
use mir.Val.{SFits, of_z, to_z}
use mir.Facts.{to_z-of_z}
use Rattle.whole.specs.Ranges.{fits_of, back}
use Rattle.series.specs.Series.{Series, series}
use Rattle.times.specs.declared.Day.{Day}
use Rattle.turns.specs.declared.inner.TurnList.{TurnList}
use Rattle.turns.specs.Listed.{first_turn_of, turn_index_of, turn_day, turns_of}
use Rattle.turns.specs.Searched.{turn_fits, circles_small, count_is, count_small}
use Rattle.kept_days.specs.KeptDays.{outside}
use Rattle.kept_days.proofs.inner.day_again.Goals as goal
use Rattle.kept_days.proofs.inner.day_again.Goals.{Start, After-turn_index-index, After-outside}

abbrev series_of : Start → Series
series_of start = series start.args.body start.args.start.0 start.args.coefs.now

first_is : (start : Start) → start.args.turns.first ≡ first_turn_of (series_of start)
first_is start = ap (λ (t : TurnList). t.first) start.requires.searched.are_turns

listed : (start : Start) → start.args.from + start.args.i < turns_of (series_of start)
listed start = omega (arith, count_is start.requires.searched, start.requires.i_bound)

pub overflow_add-from : goal.overflow_add-from
overflow_add-from c = record { fits = omega (arith, count_small c.requires.searched, c.requires.i_bound) }

pub turn_index-index-requires : goal.turn_index-index-requires
turn_index-index-requires c =
    let s = series_of (goal.at.turn_index-index-requires c).Start in
    let k = c.args.from + c.args.i in
    let f : SFits w64 c.args.turns.first = fits_of c.args.turns.first (omega arith) in record { k_bound = circles_small s c.requires.searched.ready.is_accepted k (listed (goal.at.turn_index-index-requires c).Start); sfits = rw (to_z-of_z f, first_is (goal.at.turn_index-index-requires c).Start) (turn_fits s c.requires.searched.ready.is_accepted k (listed (goal.at.turn_index-index-requires c).Start)) }

at_index : (c : After-turn_index-index) → (to_z w64 (of_z w64 c.turn_index-index.result) ≡ turn_index_of (series c.args.body c.args.start.0 c.args.coefs.now) (c.args.from + c.args.i))
at_index c =
    let first : c.args.turns.first ≡ first_turn_of (series c.args.body c.args.start.0 c.args.coefs.now) = ap (λ (t : TurnList). t.first) c.requires.searched.are_turns in
    let f : SFits w64 c.args.turns.first = fits_of c.args.turns.first (omega arith) in
    back c.turn_index-index.result c.turn_index-index.type_inv ∙ (rw (to_z-of_z f, first) at c.turn_index-index.ensures)

-- whether the turn has not moved
at_outside : (c : After-outside) → to_z w64 (of_z w64 c.turn_index-index.result) ≡ turn_index_of (series c.args.body c.args.start.0 c.args.coefs.now) (c.args.from + c.args.i) → (let index = turn_index_of (series c.args.body c.args.start.0 c.args.coefs.now) (c.args.from + c.args.i) in c.outside.result ≡ outside c.args.low c.args.high index index)
at_outside c found =
    let made = to_z w64 (of_z w64 c.turn_index-index.result) in
    c.outside.ensures
    ∙ ap₂ (λ (low high : ℤ). outside low high made made) (to_z-of_z c.ranges.low) (to_z-of_z c.ranges.high)
    ∙ ap (λ (index : ℤ). outside c.args.low c.args.high index index) found

pub returns-then-outside : goal.returns-then-outside
returns-then-outside c =
    let a = c.args in
    let i = a.i in
    back (get_or a.known.now i (pos 0)) (omega arith) ∙ c.requires.days_kept.each i c.if-i-known.true (listed (goal.at.returns-then-outside c).Start) (sym (at_outside (goal.at.returns-then-outside c).After-outside (at_index (goal.at.returns-then-outside c).After-turn_index-index)) ∙ c.if-outside.true)

pub returns : goal.returns
returns c =
    let a = c.args in
    back c.day_of_turn-day.result.0 (omega arith)
    ∙ ap (λ (d : Day). d.0) c.day_of_turn-day.ensures
    ∙ ap (λ (zone : ℤ). turn_day a.leap.now (series_of (goal.at.returns c).Start) zone (a.from + a.i)) (to_z-of_z c.ranges.zone)
