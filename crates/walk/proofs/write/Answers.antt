-- `walk::write` meets its contract. The invariant: the words written so far, with those of the rest put behind them, are what is wanted (`Written`). In the needs,
-- `turn` is a turn's beginning. Assumes nothing.
use mathlib.Core.Path.{◌≡◌, ap, ◌∙◌}
use Prim.Native.Nat.{◌+◌, ◌^◌, ◌<◌}
use native.Mathlib.Omega.{arith}
use lib.IntN.{ℤ, pos, ◌+ℤ◌}
use lib.Signed.{◌<ℤ◌, mag}
use lib.ListN.{set, length-set}
use mir.Syntax.{w64}
use mir.Val.{SFits, of_z, to_z}
use mir.Facts.{to_z-of_z}
use Rattle.whole.specs.Ranges.{back}
use Rattle.whole.specs.Solver.{lt_yes, lt_no}
use Rattle.series.specs.Series.{Series, series, last_second}
use Rattle.series.proofs.theory.Span.{start_in_span, second_fits}
use Rattle.marks.specs.Listed.{reached_at}
use Rattle.walk.specs.theory.Turns.{written_none, next_in_span, room_for_one, written_more, written_same, written_all}
use Rattle.walk.proofs.write.Goals as goal
use Rattle.walk.proofs.write.Goals.{In-loop-before, then-reached-index, else-reached-index}

abbrev series-of : In-loop-before → Series
series-of turn = series turn.args.body turn.args.start.0 turn.args.coefs.now

abbrev second-of : In-loop-before → ℤ
second-of turn = to_z w64 turn.loop-before.before-bits

-- a second is left
at_left : (turn : In-loop-before) → second-of turn <ℤ last_second (series-of turn)
at_left turn =
    let end : to_z w64 (of_z w64 turn.last_second-last.result.0) ≡ last_second (series-of turn) = back turn.last_second-last.result.0 (omega arith) ∙ turn.last_second-last.ensures in
    lt_yes (rw end at turn.loop-before-test.true)

at_fits : (turn : In-loop-before) → SFits w64 (second-of turn +ℤ pos 1)
at_fits turn = second_fits (series-of turn) turn.requires.accepted (next_in_span turn.loop-before.invariant.stands (at_left turn))

pub reached_at-reached-requires : goal.reached_at-reached-requires
reached_at-reached-requires c =
    rw (back c.args.start.0 (omega arith)) (record { accepted = c.requires.accepted; in_span = start_in_span (series c.args.body c.args.start.0 c.args.coefs.now) c.requires.accepted })

pub loop-before-init : goal.loop-before-init
loop-before-init c =
    let first = back c.args.start.0 (omega arith) in
    let knows = back c.reached_at-reached.result c.reached_at-reached.type_inv ∙ (rw first at c.reached_at-reached.ensures) in
    rw first (written_none (series c.args.body c.args.start.0 c.args.coefs.now) c.requires.accepted knows c.args.out.now c.requires.coefs_in_bounds)

pub overflow_add-second : goal.overflow_add-second
overflow_add-second c = at_fits (goal.at.overflow_add-second c).In-loop-before

pub reached_at-index-requires : goal.reached_at-index-requires
reached_at-index-requires c =
    let turn = (goal.at.reached_at-index-requires c).In-loop-before in
    rw (to_z-of_z {w = w64} (at_fits turn)) (record { accepted = c.requires.accepted; in_span = next_in_span c.loop-before.invariant.stands (at_left turn) })

-- the next second's index, read
index_at : (turn : In-loop-before) (n : ℤ) → mag n < 2 ^ 63 → n ≡ reached_at (series-of turn) (to_z w64 (of_z w64 (second-of turn +ℤ pos 1))) → to_z w64 (of_z w64 n) ≡ reached_at (series-of turn) (second-of turn +ℤ pos 1)
index_at turn n small is = back n small ∙ (rw (to_z-of_z {w = w64} (at_fits turn)) at is)

-- a mark that is found has room
pub bounds-out-at : goal.bounds-out-at
bounds-out-at c =
    let turn = (goal.at.bounds-out-at c).In-loop-before in
    let inv = c.loop-before.invariant in
    omega (arith, room_for_one inv.stands (at_left turn) (index_at turn c.reached_at-index.result c.reached_at-index.type_inv c.reached_at-index.ensures) (lt_yes c.if-reached-index.true) inv)

pub bounds-out-at-then-reached-index : goal.bounds-out-at-then-reached-index
bounds-out-at-then-reached-index c =
    let turn = (goal.at.bounds-out-at-then-reached-index c).In-loop-before in
    let inv = c.loop-before.invariant in
    simp length-set (omega (arith, room_for_one inv.stands (at_left turn) (index_at turn c.reached_at-index.result c.reached_at-index.type_inv c.reached_at-index.ensures) (lt_yes c.if-reached-index.true) inv))

pub loop-before-preserved : goal.loop-before-preserved
loop-before-preserved c =
    let turn = (goal.at.loop-before-preserved c).In-loop-before in
    let index = index_at turn c.reached_at-index.result c.reached_at-index.type_inv c.reached_at-index.ensures in
    let inv = c.loop-before.invariant in
    rw (to_z-of_z {w = w64} (at_fits turn))
    (elim c.if-reached-index.branch [
      | then-reached-index w ↦ (let end = c.loop-before.at in
          let found = set c.loop-before.out end (to_z w64 (of_z w64 c.reached_at-index.result)) in
          let stored : c.if-reached-index.out ≡ set found (end + 1) (second-of turn +ℤ pos 1) = w.out-is ∙ ap (set found (end + 1)) (to_z-of_z {w = w64} (at_fits turn)) in
          rw (w.at-is, stored) (written_more inv.stands (at_left turn) index (lt_yes w.if-reached-index.true) inv))
      | else-reached-index w ↦ rw (w.at-is, w.out-is) (written_same inv.stands (at_left turn) index (lt_no w.if-reached-index.false) inv)
    ])

pub returns : goal.returns
returns c =
    let end : to_z w64 (of_z w64 c.last_second-last.result.0) ≡ last_second (series c.args.body c.args.start.0 c.args.coefs.now) = back c.last_second-last.result.0 (omega arith) ∙ c.last_second-last.ensures in
    written_all (lt_no (rw end at c.loop-before-test.false)) c.loop-before.invariant
