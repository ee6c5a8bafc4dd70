-- `locator::looks::look` meets its contract. Assumes nothing.
use mathlib.Core.Path.{◌≡◌, refl, ◌∙◌}
use lib.IntN.{pos, ◌*ℤ◌}
use mir.Syntax.{w64}
use mir.Val.{of_z, to_z}
use mir.Facts.{to_z-of_z}
use Rattle.whole.specs.Ranges.{fits, fit_hyp, back, bounds}
use Rattle.whole.specs.Solver.{lt_yes, lt_no, le_no}
use Rattle.series.specs.Bodies.{numbers}
use Rattle.series.specs.Series.{Series, series, InSpan, value_at}
use Rattle.series.proofs.theory.Span.{value_in_span}
use Rattle.finder.proofs.Halves.{Inside}
use Rattle.locator.proofs.Bracket.{upper, lower}
use Rattle.locator.proofs.Around.{inside_in_span, mark_small}
use Rattle.locator.proofs.looks.look.Goals as goal
use Rattle.locator.proofs.looks.look.Lts as lts
use Rattle.locator.proofs.looks.look.Reads as reads
use Rattle.locator.proofs.looks.look.Tie as tie
use native.Mathlib.Omega.{arith}

at_lo : (c : lts.Start tie.the-claims reads.Pre reads.Post tie.handed_clauses) → to_z w64 (of_z w64 c.args.around.lo) ≡ c.args.around.lo
at_lo c = back c.args.around.lo (omega arith)

at_hi : (c : lts.Start tie.the-claims reads.Pre reads.Post tie.handed_clauses) → to_z w64 (of_z w64 c.args.around.hi) ≡ c.args.around.hi
at_hi c = back c.args.around.hi (omega arith)

abbrev series_of : lts.Else2 tie.the-claims reads.Pre reads.Post tie.handed_clauses → Series
series_of c = series c.args.body c.args.start.0 c.args.coefs.now

at_inside : (c : lts.Else2 tie.the-claims reads.Pre reads.Post tie.handed_clauses) → (Inside c.args.around.lo c.args.around.hi c.args.at)
at_inside c =
    let at = to_z-of_z c.ranges.at in
    record { after_lo = le_no (rw (at, at_lo c.before.before.before.before) at c.if-at-lo.false); before_hi = le_no (rw (at, at_hi c.before.before.before.before) at c.if-hi-at.false) }

at_span : (c : lts.Else2 tie.the-claims reads.Pre reads.Post tie.handed_clauses) → InSpan (series_of c) c.args.at
at_span c = inside_in_span (series_of c) c.requires.accepted c.requires.around (at_inside c)

at_value : (c : lts.After-value tie.the-claims reads.Pre reads.Post tie.handed_clauses) → to_z w64 (of_z w64 c.value-value.result) ≡ value_at (series_of c.before) c.args.at
at_value c =
    back c.value-value.result c.value-value.type_inv ∙ (rw (to_z-of_z c.ranges.at) at c.value-value.ensures)

at_mark : (c : lts.After-mark_value tie.the-claims reads.Pre reads.Post tie.handed_clauses) →
    (to_z w64 (of_z w64 c.mark_value-target.result) ≡ c.args.index *ℤ pos (numbers c.args.body).mark_size)
at_mark c =
    back c.mark_value-target.result c.mark_value-target.type_inv ∙ (rw (to_z-of_z c.ranges.index) at c.mark_value-target.ensures)

pub value-value-requires : goal.value-value-requires
value-value-requires c =
    rw (to_z-of_z c.ranges.at) (record { accepted = c.requires.accepted; in_span = at_span c })

pub mark_value-target-requires : goal.mark_value-target-requires
mark_value-target-requires c =
    rw (to_z-of_z c.ranges.index) (fit_hyp (mark_small (series_of c.before) c.requires.accepted c.requires.around) tt)

pub subtract-under-requires : goal.subtract-under-requires
subtract-under-requires c =
    let mark = mark_small (series_of c.before.before) c.requires.accepted c.requires.around in
    let value = value_in_span (series_of c.before.before) c.requires.accepted (at_span c.before.before) in
    rw (at_mark c, at_value c.before) (fits (search bounds) tt)

pub returns-then-value-target : goal.returns-then-value-target
returns-then-value-target c =
    rw (to_z-of_z c.ranges.at, at_hi c.before.before.before.before.before.before.before.before)
    (upper c.requires.around (at_inside c.before.before.before.before) refl (lt_yes (rw (at_value c.before.before.before, at_mark c.before.before) at c.if-value-target.true)))

pub returns : goal.returns
returns c =
    rw (to_z-of_z c.ranges.at, at_lo c.before.before.before.before.before.before.before.before)
    (lower c.requires.around (at_inside c.before.before.before.before) refl (lt_no (rw (at_value c.before.before.before, at_mark c.before.before) at c.if-value-target.false)))
