-- `kept_days::inner::thirteen_again` meets its contract. In the needs, `start` is the function's entry. Assumes nothing.
use mathlib.Core.Path.{◌≡◌, sym, ap, ap₂, subst, ◌∙◌}
use Prim.Native.Nat.{suc, ◌+◌, ◌*◌, ◌<◌}
use native.Mathlib.Omega.{arith}
use borrow.Author.Rules.{rules}
use lib.IntN.{ℤ, pos, ◌+ℤ◌}
use lib.ListN.{get_or}
use mir.Syntax.{w64}
use mir.Val.{SFits, of_z, to_z}
use mir.Facts.{to_z-of_z}
use Rattle.whole.specs.Ranges.{back, fits_of}
use Rattle.series.specs.declared.Body.TheVariants.{Sun}
use Rattle.series.specs.Series.{Series, series}
use Rattle.turns.specs.declared.inner.TurnList.{TurnList}
use Rattle.turns.specs.Listed.{turn_index_of, turn_after, turns_of}
use Rattle.turns.specs.Searched.{turn_fits, circles_small, count_is, count_small}
use Rattle.sui.proofs.theory.Solstices.{one_circle_on}
use Rattle.kept_days.specs.KeptDays.{outside}
use Rattle.suis.specs.theory.Zhongqi.{first_known, last_known, last_listed, both_turns}
use Rattle.kept_days.proofs.inner.thirteen_again.Goals as goal
use Rattle.kept_days.proofs.inner.thirteen_again.Goals.{After-add, After-outside, After-turn_index-index, Start}

abbrev sun_of : Start → Series
sun_of start = series Sun start.args.start.0 start.args.coefs.now

-- the index of the sui's first solstice
abbrev index_of : Start → ℤ
index_of start = turn_index_of (sun_of start) (start.args.place + start.args.j)

index_made : (start : Start) → start.args.suns.first +ℤ pos (24 * (start.args.place + start.args.j)) ≡ index_of start
index_made start = ap (λ (t : TurnList). t.first +ℤ pos (24 * (start.args.place + start.args.j))) start.requires.searched.are_turns

both_listed : (start : Start) → suc (start.args.place + start.args.j) < turns_of (sun_of start)
both_listed start = both_turns start.requires.ahead start.args.j start.requires.j_in_bounds

listed : (start : Start) → start.args.place + start.args.j < turns_of (sun_of start)
listed start = omega (arith, both_listed start)

pub overflow_add-place : goal.overflow_add-place
overflow_add-place c = record { fits = omega (arith, listed c, count_is c.requires.searched, count_small c.requires.searched) }

pub turn_index-index-requires : goal.turn_index-index-requires
turn_index-index-requires c =
    let e = c.requires.searched.ready.is_accepted in
    let k = c.args.place + c.args.j in
    let f = fits_of c.args.suns.first (omega arith) in record { k_bound = circles_small (sun_of c.before.before) e k (listed c.before.before); sfits = rw (to_z-of_z f, index_made c.before.before) (turn_fits (sun_of c.before.before) e k (listed c.before.before)) }

at_index : (c : After-turn_index-index) → to_z w64 (of_z w64 c.turn_index-index.result) ≡ index_of c.before.before
at_index c =
    let f = fits_of c.args.suns.first (omega arith) in
    back c.turn_index-index.result c.turn_index-index.type_inv ∙ (rw (to_z-of_z f) at c.turn_index-index.ensures) ∙ index_made c.before.before

pub add-requires : goal.add-requires
add-requires c =
    let k = c.args.place + c.args.j in
    let last : index_of c.before.before +ℤ pos 24 ≡ turn_index_of (sun_of c.before.before) (suc k) = sym (one_circle_on c.args.start.0 c.args.coefs.now k) in
    subst (λ (z : ℤ). SFits w64 z) (sym (ap (λ (index : ℤ). index +ℤ pos 24) (at_index c) ∙ last)) (turn_fits (sun_of c.before.before) c.requires.searched.ready.is_accepted (suc k) (both_listed c.before.before))

-- the index of its second solstice
at_last : (c : After-add) → to_z w64 (of_z w64 c.add.result) ≡ index_of c.before.before.before +ℤ pos 24
at_last c = back c.add.result c.add.type_inv ∙ c.add.ensures ∙ ap (λ (index : ℤ). index +ℤ pos 24) (at_index c.before)

-- whether none of the thirteen has moved
at_outside : (c : After-outside) → (c.outside.result ≡ outside c.args.low c.args.high (index_of c.before.before.before.before) (index_of c.before.before.before.before +ℤ pos 24))
at_outside c =
    c.outside.ensures
    ∙ ap₂ (λ (low high : ℤ). outside low high (to_z w64 (of_z w64 c.turn_index-index.result)) (to_z w64 (of_z w64 c.add.result))) (to_z-of_z c.ranges.low) (to_z-of_z c.ranges.high)
    ∙ ap₂ (λ (first last : ℤ). outside c.args.low c.args.high first last) (at_index c.before.before) (at_last c.before)

pub overflow_mul-j : goal.overflow_mul-j
overflow_mul-j c = record { fits = omega (arith, listed c.before.before.before.before.before, count_is c.requires.searched, count_small c.requires.searched) }

pub thirteen-requires : goal.thirteen-requires
thirteen-requires c = c.requires.j_in_bounds_2

pub returns-then-outside : goal.returns-then-outside
returns-then-outside c =
    c.thirteen.ensures ∙ c.requires.thirteen_kept.are_zhongqi (sym (at_outside c.before.before) ∙ c.if-outside.true)

pub zhongqi_days-requires : goal.zhongqi_days-requires
zhongqi_days-requires c =
    let a = c.args in
    let j = a.j in
    let ahead = c.requires.ahead in
    let two = c.requires.j_in_bounds in
    let f : SFits w64 (get_or a.solstices.now j (pos 0)) = search rules in
    let g : SFits w64 (get_or a.solstices.now (j + 1) (pos 0)) = search rules in
    rw (at_index c.before.before.before.before.before, to_z-of_z c.ranges.zone, to_z-of_z f, to_z-of_z g)
    (record { ready = c.requires.searched.ready; within = c.requires.searched.zone_small; coefs_bound = turn_after (sun_of c.before.before.before.before.before.before.before) (a.place + j); pos_bound = last_listed ahead j two; first_value = first_known ahead j two; last_value = last_known ahead j two })

pub returns : goal.returns
returns c =
    rw (at_index c.before.before.before.before.before.before, to_z-of_z c.ranges.zone) at c.zhongqi_days.ensures
