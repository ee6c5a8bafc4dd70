-- `walk::count` meets its contract. The invariant: the marks counted so far and those of the rest are all (`Counted`). In the needs, `turn` is a turn's beginning.
-- Assumes nothing.
use mathlib.Core.Path.{◌≡◌, ◌∙◌}
use native.Mathlib.Omega.{arith}
use lib.IntN.{ℤ, pos, ◌+ℤ◌}
use lib.Signed.{◌<ℤ◌}
use mir.Syntax.{w64}
use mir.Val.{SFits, of_z, to_z}
use mir.Facts.{to_z-of_z}
use Rattle.whole.specs.Ranges.{back}
use Rattle.whole.specs.Solver.{lt_yes, lt_no}
use Rattle.series.specs.Series.{Series, series, last_second}
use Rattle.series.proofs.theory.Span.{start_in_span, second_fits}
use Rattle.marks.specs.Listed.{reached_at}
use Rattle.walk.specs.theory.Turns.{counted_none, next_in_span, counted_more, counted_same, counted_all, marks_few}
use Rattle.walk.proofs.count.Goals as goal
use Rattle.walk.proofs.count.Goals.{In-loop-before, then-reached-index, else-reached-index}

abbrev series-of : In-loop-before → Series
series-of turn = series turn.args.body turn.args.start.0 turn.args.coefs.now

abbrev second-of : In-loop-before → ℤ
second-of turn = to_z w64 turn.loop-before.before-bits

-- a second is left
at_left : (turn : In-loop-before) → second-of turn <ℤ last_second (series-of turn)
at_left turn =
    let end : to_z w64 (of_z w64 turn.last_second-last.result.0) ≡ last_second (series-of turn) = back turn.last_second-last.result.0 (omega arith) ∙ turn.last_second-last.ensures in
    lt_yes (rw end at turn.loop-before-test.true)

at_fits : (turn : In-loop-before) → SFits w64 (second-of turn +ℤ pos 1)
at_fits turn = second_fits (series-of turn) turn.requires (next_in_span turn.loop-before.invariant.stands (at_left turn))

pub reached_at-reached-requires : goal.reached_at-reached-requires
reached_at-reached-requires c =
    rw (back c.args.start.0 (omega arith)) (record { accepted = c.requires; in_span = start_in_span (series c.args.body c.args.start.0 c.args.coefs.now) c.requires })

pub loop-before-init : goal.loop-before-init
loop-before-init c =
    let first = back c.args.start.0 (omega arith) in
    rw first (counted_none (series c.args.body c.args.start.0 c.args.coefs.now) c.requires (back c.reached_at-reached.result c.reached_at-reached.type_inv ∙ (rw first at c.reached_at-reached.ensures)))

pub overflow_add-second : goal.overflow_add-second
overflow_add-second c = at_fits (goal.at.overflow_add-second c).In-loop-before

pub reached_at-index-requires : goal.reached_at-index-requires
reached_at-index-requires c =
    let turn = (goal.at.reached_at-index-requires c).In-loop-before in
    rw (to_z-of_z {w = w64} (at_fits turn)) (record { accepted = c.requires; in_span = next_in_span c.loop-before.invariant.stands (at_left turn) })

pub overflow_add-marks : goal.overflow_add-marks
overflow_add-marks c =
    let few = marks_few {s = series c.args.body c.args.start.0 c.args.coefs.now} c.requires c.loop-before.invariant in
    record { fits = omega arith }

pub loop-before-preserved : goal.loop-before-preserved
loop-before-preserved c =
    let turn = (goal.at.loop-before-preserved c).In-loop-before in
    let inv = c.loop-before.invariant in
    let index : to_z w64 (of_z w64 c.reached_at-index.result) ≡ reached_at (series-of turn) (second-of turn +ℤ pos 1) = back c.reached_at-index.result c.reached_at-index.type_inv ∙ (rw (to_z-of_z {w = w64} (at_fits turn)) at c.reached_at-index.ensures) in
    rw (to_z-of_z {w = w64} (at_fits turn))
    (elim c.if-reached-index.branch [
      | then-reached-index w ↦ rw w.marks-is (counted_more inv.stands (at_left turn) index (lt_yes w.if-reached-index.true) inv)
      | else-reached-index w ↦ rw w.marks-is (counted_same inv.stands (at_left turn) index (lt_no w.if-reached-index.false) inv)
    ])

pub returns : goal.returns
returns c =
    let end : to_z w64 (of_z w64 c.last_second-last.result.0) ≡ last_second (series c.args.body c.args.start.0 c.args.coefs.now) = back c.last_second-last.result.0 (omega arith) ∙ c.last_second-last.ensures in
    counted_all (lt_no (rw end at c.loop-before-test.false)) c.loop-before.invariant
