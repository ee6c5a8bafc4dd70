-- `locator::inner::settle` meets its contract. Assumes nothing.
use mathlib.Core.Path.{◌≡◌, ◌∙◌}
use native.Mathlib.Omega.{arith}
use mir.Syntax.{w64}
use mir.Val.{of_z, to_z}
use mir.Facts.{to_z-of_z}
use Rattle.whole.specs.Laws.{<→≤}
use Rattle.whole.specs.Ranges.{back}
use Rattle.series.specs.Series.{Series, series}
use Rattle.series.proofs.Theorems.{accepted_rises}
use Rattle.series.proofs.theory.Span.{span_few}
use Rattle.locator.proofs.Bracket.{found, seconds_few}
use Rattle.locator.proofs.Around.{lo_in_span, hi_in_span}
use Rattle.locator.proofs.inner.settle.Goals as goal
use Rattle.locator.proofs.inner.settle.Goals.{Start}

abbrev series_of : Start → Series
series_of c = series c.args.body c.args.start.0 c.args.coefs.now

at_lo : (c : Start) → to_z w64 (of_z w64 c.args.around.lo) ≡ c.args.around.lo
at_lo c = back c.args.around.lo (omega arith)

at_hi : (c : Start) → to_z w64 (of_z w64 c.args.around.hi) ≡ c.args.around.hi
at_hi c = back c.args.around.hi (omega arith)

pub distance-requires : goal.distance-requires
distance-requires c =
    let few = span_few (series_of c.before.before) c.requires.accepted in
    let near = seconds_few c.requires.around (omega arith) in
    rw (at_lo c.before.before, at_hi c.before.before) (record { a_le_b = <→≤ c.requires.around.ordered; b_bound = omega arith })

pub returns-then-distance-eq1 : goal.returns-then-distance-eq1
returns-then-distance-eq1 c =
    let apart = rw (at_lo c.before.before.before.before, at_hi c.before.before.before.before) at c.distance.ensures in
    let one = c.if-distance-eq1.true in
    at_hi c.before.before.before.before ∙ found c.requires.around (accepted_rises (series_of c.before.before.before.before) c.requires.accepted) (omega arith)

pub value-below-requires : goal.value-below-requires
value-below-requires c =
    rw (at_lo c.before.before.before.before) (record { accepted = c.requires.accepted; in_span = lo_in_span (series_of c.before.before.before.before) c.requires.accepted c.requires.around })

pub value-above-requires : goal.value-above-requires
value-above-requires c =
    rw (at_hi c.before.before.before.before.before) (record { accepted = c.requires.accepted; in_span = hi_in_span (series_of c.before.before.before.before.before) c.requires.accepted c.requires.around })

pub locate_between-requires : goal.locate_between-requires
locate_between-requires c =
    let below = rw (at_lo c.before.before.before.before.before.before) at c.value-below.ensures in
    let above = rw (at_hi c.before.before.before.before.before.before) at c.value-above.ensures in
    rw (to_z-of_z c.ranges.index, at_lo c.before.before.before.before.before.before, at_hi c.before.before.before.before.before.before, back c.value-below.result c.value-below.type_inv, back c.value-above.result c.value-above.type_inv, below, above)
    (record { accepted = c.requires.accepted; bracket_of = c.requires.around })

pub returns : goal.returns
returns c =
    rw (to_z-of_z c.ranges.index) at c.locate_between.ensures
