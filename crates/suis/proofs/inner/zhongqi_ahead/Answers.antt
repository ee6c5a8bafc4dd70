-- `suis::inner::zhongqi_ahead` meets its contract. The loop's invariant: the zhongqi days of the first j suis stand in front. Assumes nothing.
use mathlib.Core.Path.{◌≡◌, ap, ◌∙◌}
use mathlib.Core.List.{List}
use Prim.Native.Nat.{◌+◌, ◌*◌, ◌<◌}
use native.Mathlib.Omega.{arith}
use borrow.Author.Rules.{rules}
use lib.IntN.{ℤ, pos, ◌+ℤ◌}
use lib.ListN.{length, get_or}
use mir.Syntax.{w64}
use mir.Val.{SFits, of_z, to_z}
use mir.Facts.{to_z-of_z}
use Rattle.whole.specs.Lists.{placed}
use Rattle.whole.specs.Ranges.{back, fits_of}
use Rattle.series.specs.declared.Body.TheVariants.{Sun}
use Rattle.series.specs.Series.{Series, series}
use Rattle.turns.specs.declared.inner.TurnList.{TurnList}
use Rattle.turns.specs.Listed.{turn_index_of, turn_after, turns_of}
use Rattle.turns.specs.Searched.{turn_fits, circles_small, count_is, count_small}
use Rattle.sui.specs.theory.Found.{zhongqi_from}
use Rattle.suis.specs.Ahead.{zhongqi_of}
use Rattle.suis.specs.theory.Zhongqi.{nothing_put, sui_put, first_known, last_known, last_listed, both_turns}
use Rattle.suis.proofs.inner.zhongqi_ahead.Goals as goal
use Rattle.suis.proofs.inner.zhongqi_ahead.Lts as lts
use Rattle.suis.proofs.inner.zhongqi_ahead.Reads as reads
use Rattle.suis.proofs.inner.zhongqi_ahead.Tie as tie

abbrev Start : Type 0
Start = lts.Start tie.the-claims reads.Pre reads.Post goal.the-invariant-loop-j goal.the-decreases-loop-j tie.handed_clauses

abbrev Loop : Type 0
Loop = lts.At-loop tie.the-claims reads.Pre reads.Post goal.the-invariant-loop-j goal.the-decreases-loop-j tie.handed_clauses

abbrev sun_of : Start → Series
sun_of start = series Sun start.args.start.0 start.args.coefs.now

-- the index of the first solstice of sui j
abbrev index_of : Loop → ℤ
index_of c = turn_index_of (sun_of c.before) (c.args.place + c.loop-j.j)

at_head : (c : Loop) → c.loop-j.out ≡ placed 0 (zhongqi_of c.args.leap.now (sun_of c.before) c.args.zone c.args.place c.loop-j.j) c.args.out.now
at_head c = rw (to_z-of_z c.ranges.zone) at c.loop-j.invariant

-- both solstices of sui j stand among the lent days
both : (c : Loop) → c.loop-j.j < c.args.m → c.loop-j.j + 1 < length c.args.solstices.now
both c h = omega (arith, c.requires.m_in_bounds)

-- and both are listed
listed : (c : Loop) → c.loop-j.j < c.args.m → c.args.place + c.loop-j.j < c.args.suns.count
listed c h = omega (arith, both_turns c.requires.ahead c.loop-j.j (both c h), count_is c.requires.searched)

-- the index, as it is made
index_made : (c : Loop) → c.args.suns.first +ℤ pos (24 * (c.args.place + c.loop-j.j)) ≡ index_of c
index_made c = ap (λ (t : TurnList). t.first +ℤ pos (24 * (c.args.place + c.loop-j.j))) c.requires.searched.are_turns

at_index : (c : lts.After-turn_index tie.the-claims reads.Pre reads.Post goal.the-invariant-loop-j goal.the-decreases-loop-j tie.handed_clauses) → to_z w64 (of_z w64 c.turn_index-index.result) ≡ index_of c.before.before.before
at_index c =
    let f = fits_of c.args.suns.first (omega arith) in
    back c.turn_index-index.result c.turn_index-index.type_inv ∙ (rw (to_z-of_z f) at c.turn_index-index.ensures) ∙ index_made c.before.before.before

-- the zhongqi days of sui j
at_zhongqi : (c : lts.After-zhongqi_days tie.the-claims reads.Pre reads.Post goal.the-invariant-loop-j goal.the-decreases-loop-j tie.handed_clauses) → (let a = c.args in c.zhongqi_days-days.result ≡ zhongqi_from a.leap.now (sun_of c.before.before.before.before.before.before.before) a.zone (index_of c.before.before.before.before.before.before))
at_zhongqi c = rw (at_index c.before.before.before, to_z-of_z c.ranges.zone) at c.zhongqi_days-days.ensures

pub loop-j-init : goal.loop-j-init
loop-j-init c = nothing_put c.args.leap.now (sun_of c) (to_z w64 (of_z w64 c.args.zone)) c.args.place c.args.out.now

pub overflow_add-place : goal.overflow_add-place
overflow_add-place c = record { fits = omega (arith, listed c.before c.loop-j-test.true, count_small c.requires.searched) }

pub turn_index-index-requires : goal.turn_index-index-requires
turn_index-index-requires c =
    let e = c.requires.searched.ready.is_accepted in
    let there : c.args.place + c.loop-j.j < turns_of (sun_of c.before.before.before.before) = omega (arith, listed c.before.before.before c.loop-j-test.true, count_is c.requires.searched) in
    let f = fits_of c.args.suns.first (omega arith) in record { k_bound = circles_small (sun_of c.before.before.before.before) e (c.args.place + c.loop-j.j) there; sfits = rw (to_z-of_z f, index_made c.before.before.before) (turn_fits (sun_of c.before.before.before.before) e (c.args.place + c.loop-j.j) there) }

pub zhongqi_days-days-requires : goal.zhongqi_days-days-requires
zhongqi_days-days-requires c =
    let a = c.args in
    let j = c.loop-j.j in
    let ahead = c.requires.ahead in
    let two = both c.before.before.before.before.before.before c.loop-j-test.true in
    let f : SFits w64 (get_or a.solstices.now j (pos 0)) = search rules in
    let g : SFits w64 (get_or a.solstices.now (j + 1) (pos 0)) = search rules in
    rw (at_index c.before.before.before, to_z-of_z c.ranges.zone, to_z-of_z f, to_z-of_z g)
    (record { ready = c.requires.searched.ready; within = c.requires.searched.zone_small; coefs_bound = turn_after (sun_of c.before.before.before.before.before.before.before) (a.place + j); pos_bound = last_listed ahead j two; first_value = first_known ahead j two; last_value = last_known ahead j two })

pub loop-j-preserved : goal.loop-j-preserved
loop-j-preserved c =
    let taken = c.loop-j-test.true in
    let a = c.args in
    rw (to_z-of_z c.ranges.zone) (c.put_thirteen.ensures ∙ ap (λ (l : List ℤ). placed (13 * c.loop-j.j) l c.loop-j.out) (at_zhongqi c.before.before.before.before) ∙ sui_put a.leap.now (sun_of c.before.before.before.before.before.before.before.before.before.before.before) a.zone a.place a.out.now c.loop-j.j (omega (arith, taken, c.requires.m_in_bounds_2)) (at_head c.before.before.before.before.before.before.before.before.before.before))

pub returns : goal.returns
returns c =
    let all : c.loop-j.j ≡ c.args.m = omega (arith, c.loop-j-test.false) in
    rw all at (at_head c.before)
