-- `kept_days::inner::zhongqi_again` meets its contract. The loop's invariant: the zhongqi days of the first j suis stand in front. Assumes nothing.
use mathlib.Core.Path.{◌≡◌, ap, ◌∙◌}
use mathlib.Core.List.{List}
use Prim.Native.Nat.{◌+◌, ◌*◌, ◌<◌}
use native.Mathlib.Omega.{arith}
use lib.IntN.{ℤ}
use lib.ListN.{length}
use mir.Syntax.{w64}
use mir.Val.{of_z, to_z}
use mir.Facts.{to_z-of_z}
use Rattle.whole.specs.Lists.{placed}
use Rattle.series.specs.declared.Body.TheVariants.{Sun}
use Rattle.series.specs.Series.{Series, series}
use Rattle.turns.specs.Listed.{turn_index_of}
use Rattle.sui.specs.theory.Found.{zhongqi_from}
use Rattle.suis.specs.Ahead.{zhongqi_of}
use Rattle.suis.specs.theory.Zhongqi.{nothing_put, sui_put, both_turns}
use Rattle.kept_days.proofs.inner.zhongqi_again.Goals as goal
use Rattle.kept_days.proofs.inner.zhongqi_again.Goals.{After-thirteen_again-days, At-loop-j, Start}

abbrev Loop : Type 0
Loop = At-loop-j

abbrev sun_of : Start → Series
sun_of start = series Sun start.args.start.0 start.args.coefs.now

at_head : (c : Loop) → c.loop-j.out ≡ placed 0 (zhongqi_of c.args.leap.now (sun_of c.before) c.args.zone c.args.place c.loop-j.j) c.args.out.now
at_head c = rw (to_z-of_z c.ranges.zone) at c.loop-j.invariant

-- both solstices of sui j stand among the lent days
both : (c : Loop) → c.loop-j.j < c.args.m → c.loop-j.j + 1 < length c.args.solstices.now
both c h = omega (arith, c.requires.m_in_bounds)

-- the zhongqi days of sui j
at_zhongqi : (c : After-thirteen_again-days) → (let a = c.args in c.thirteen_again-days.result ≡ zhongqi_from a.leap.now (sun_of c.before.before.before) a.zone (turn_index_of (sun_of c.before.before.before) (a.place + c.loop-j.j)))
at_zhongqi c = rw (to_z-of_z c.ranges.zone) at c.thirteen_again-days.ensures

pub loop-j-init : goal.loop-j-init
loop-j-init c = nothing_put c.args.leap.now (sun_of c) (to_z w64 (of_z w64 c.args.zone)) c.args.place c.args.out.now

pub thirteen_again-days-requires : goal.thirteen_again-days-requires
thirteen_again-days-requires c =
    let j = c.loop-j.j in
    let ahead = c.requires.ahead in
    let two = both c.before c.loop-j-test.true in
    rw (to_z-of_z c.ranges.zone, to_z-of_z c.ranges.low, to_z-of_z c.ranges.high)
    (record { searched = c.requires.searched; ahead = ahead; j_in_bounds = two; thirteen_kept = c.requires.zhongqi_kept.of_sui j c.loop-j-test.true (both_turns ahead j two); j_in_bounds_2 = omega (arith, c.loop-j-test.true, c.requires.m_in_bounds_2) })

pub loop-j-preserved : goal.loop-j-preserved
loop-j-preserved c =
    let taken = c.loop-j-test.true in
    let a = c.args in
    rw (to_z-of_z c.ranges.zone) (c.put_thirteen.ensures ∙ ap (λ (l : List ℤ). placed (13 * c.loop-j.j) l c.loop-j.out) (at_zhongqi c.before.before.before) ∙ sui_put a.leap.now (sun_of c.before.before.before.before.before.before) a.zone a.place a.out.now c.loop-j.j (omega (arith, taken, c.requires.m_in_bounds_3)) (at_head c.before.before.before.before.before))

pub returns : goal.returns
returns c =
    let all : c.loop-j.j ≡ c.args.m = omega (arith, c.loop-j-test.false) in
    rw all at (at_head c.before)
