-- `locator::inner::locate_between` meets its contract. The invariant: the mark lies between `from` and `to` (`Bracket`), which are `left` seconds apart; that is the
-- measure. In the needs, `start` is the function's entry, and `loop` the loop's head. Assumes nothing.
use mathlib.Core.Path.{◌≡◌, refl, ◌∙◌}
use Prim.Native.Nat.{◌<◌}
use native.Mathlib.Omega.{arith}
use lib.IntN.{ℤ, pos, ◌+ℤ◌, ◌*ℤ◌}
use mir.Syntax.{w64}
use mir.Val.{SFits, of_z, to_z}
use mir.Facts.{to_z-of_z}
use Rattle.whole.specs.Laws.{<→≤, ≤_trans}
use Rattle.whole.specs.Ranges.{fits_of, back}
use Rattle.whole.specs.Solver.{lt_yes, lt_no}
use Rattle.whole.specs.Distance.{distance_from, between_fits}
use Rattle.series.specs.Bodies.{numbers}
use Rattle.series.specs.Series.{Series, series, InSpan, value_at}
use Rattle.series.specs.Acceptance.{Accepted}
use Rattle.series.proofs.Theorems.{accepted_rises}
use Rattle.series.proofs.theory.Span.{span_few, second_fits, value_in_span}
use Rattle.marks.specs.Stretch.{BracketOf}
use Rattle.finder.proofs.Halves.{Inside}
use Rattle.locator.proofs.Bracket.{inside_at, upper, lower, upper_falls, lower_falls, found, part_of_lem, values_near, seconds_few}
use Rattle.locator.proofs.Around.{inside_in_span}
use Rattle.locator.proofs.inner.locate_between.Goals as goal
use Rattle.locator.proofs.inner.locate_between.Goals.{then-value-target, else-value-target, After-add-middle, After-mark_value-target, After-seconds_on-step, After-value-value, At-loop-left, Joined-value-target}

at_target : (c : After-mark_value-target) → (to_z w64 (of_z w64 c.mark_value-target.result) ≡ c.args.index *ℤ pos (numbers c.args.body).mark_size)
at_target c = back c.mark_value-target.result c.mark_value-target.type_inv ∙ (rw (to_z-of_z c.ranges.index) at c.mark_value-target.ensures)

fits_lo : (c : After-mark_value-target) → SFits w64 c.args.lo.0
fits_lo c = fits_of c.args.lo.0 (omega arith)

fits_hi : (c : After-mark_value-target) → SFits w64 c.args.hi.0
fits_hi c = fits_of c.args.hi.0 (omega arith)

abbrev series_of : At-loop-left → Series
series_of c = series c.args.body c.args.start.0 c.args.coefs.now

abbrev index_of : At-loop-left → ℤ
index_of c = c.args.index

at_accepted : (c : At-loop-left) → Accepted (series_of c)
at_accepted c = c.requires.accepted

at_mark : (c : At-loop-left) → to_z w64 (of_z w64 c.mark_value-target.result) ≡ index_of c *ℤ pos (numbers (series_of c).body).mark_size
at_mark c = at_target c.before.before.before.before

at_bracket : (c : At-loop-left) → BracketOf (series_of c) (index_of c) (to_z w64 c.loop-left.from-bits) (to_z w64 c.loop-left.to-bits) (to_z w64 c.loop-left.under-bits) (to_z w64 c.loop-left.over-bits)
at_bracket c =
    rw (to_z-of_z c.ranges.index) at c.loop-left.invariant.0

-- the values at the two ends are near enough
at_near : (c : At-loop-left) → distance_from (to_z w64 c.loop-left.under-bits) (to_z w64 c.loop-left.over-bits) < 9223372036854775808
at_near c = values_near (at_bracket c) (λ t low high. value_in_span (series_of c) (at_accepted c) (record { from_start = low; to_last = high }))

-- and so are the ends
at_few : (c : At-loop-left) → c.loop-left.left < 8589934592
at_few c =
    let few = span_few (series_of c) (at_accepted c) in
    rw c.loop-left.invariant.1 (seconds_few (at_bracket c) (omega arith))

at_step : (c : After-seconds_on-step) → (Inside (to_z w64 c.loop-left.from-bits) (to_z w64 c.loop-left.to-bits) (to_z w64 c.loop-left.from-bits +ℤ pos c.seconds_on-step.result))
at_step c =
    inside_at (at_bracket c.before.before.before.before) c.seconds_on-step.result refl c.seconds_on-step.ensures.0 (rw c.loop-left.invariant.1 at c.seconds_on-step.ensures.1)

at_middle : (c : After-add-middle) → c.add-middle.result ≡ to_z w64 c.loop-left.from-bits +ℤ pos c.seconds_on-step.result
at_middle c = rw (back c.signed.result c.signed.type_inv, c.signed.ensures) at c.add-middle.ensures

at_inside : (c : After-add-middle) → (Inside (to_z w64 c.loop-left.from-bits) (to_z w64 c.loop-left.to-bits) c.add-middle.result)
at_inside c = rw (at_middle c) (at_step c.before.before)

at_value : (c : After-value-value) → c.value-value.result ≡ value_at (series_of c.before.before.before.before.before.before.before) c.add-middle.result
at_value c = rw (back c.add-middle.result c.add-middle.type_inv) at c.value-value.ensures

at_span : (c : At-loop-left) {middle : ℤ} → Inside (to_z w64 c.loop-left.from-bits) (to_z w64 c.loop-left.to-bits) middle → InSpan (series_of c) middle
at_span c i = inside_in_span (series_of c) (at_accepted c) (at_bracket c) i

-- what one turn leaves, and that it is less
at_next : (c : Joined-value-target) →
    (BracketOf (series_of c.before.before.before.before.before.before.before.before) (index_of c.before.before.before.before.before.before.before.before) (to_z w64 c.if-value-target.from-bits) (to_z w64 c.if-value-target.to-bits) (to_z w64 c.if-value-target.under-bits) (to_z w64 c.if-value-target.over-bits)
    × (distance_from (to_z w64 c.if-value-target.from-bits) (to_z w64 c.if-value-target.to-bits) < distance_from (to_z w64 c.loop-left.from-bits) (to_z w64 c.loop-left.to-bits)))
at_next c =
    let b = at_bracket c.before.before.before.before.before.before.before.before in
    let i = at_inside c.before.before in
    let at = at_value c.before in
    let middle = back c.add-middle.result c.add-middle.type_inv in
    let value = back c.value-value.result c.value-value.type_inv in
    elim c.if-value-target.branch [
      | then-value-target w ↦
          rw (w.from-is, w.to-is, w.under-is, w.over-is, middle, value)
          (upper b i at (lt_yes (rw (value, at_mark c.before.before.before.before.before.before.before.before) at w.if-value-target.true)), upper_falls b i at)
      | else-value-target w ↦
          rw (w.from-is, w.to-is, w.under-is, w.over-is, middle, value)
          (lower b i at (lt_no (rw (value, at_mark c.before.before.before.before.before.before.before.before) at w.if-value-target.false)), lower_falls b i at)
    ]

pub mark_value-target-requires : goal.mark_value-target-requires
mark_value-target-requires c = rw (to_z-of_z c.ranges.index) (between_fits c.ranges.below c.ranges.above (<→≤ c.requires.bracket_of.under) c.requires.bracket_of.reaching)

pub distance-left-requires : goal.distance-left-requires
distance-left-requires c =
    let s = series c.args.body c.args.start.0 c.args.coefs.now in
    let few = span_few s c.requires.accepted in
    let near = seconds_few c.requires.bracket_of (omega arith) in
    rw (to_z-of_z {w = w64} (fits_lo c.before.before), to_z-of_z {w = w64} (fits_hi c.before.before)) (record { a_le_b = <→≤ c.requires.bracket_of.ordered; b_bound = omega arith })

pub loop-left-init : goal.loop-left-init
loop-left-init c =
    rw (to_z-of_z c.ranges.index, to_z-of_z {w = w64} (fits_lo c.before.before.before), to_z-of_z {w = w64} (fits_hi c.before.before.before), to_z-of_z c.ranges.below, to_z-of_z c.ranges.above)
    (c.requires.bracket_of, rw (to_z-of_z {w = w64} (fits_lo c.before.before.before), to_z-of_z {w = w64} (fits_hi c.before.before.before)) at c.distance-left.ensures)

pub distance-requires : goal.distance-requires
distance-requires c =
    let near = at_near c.before in
    let part = part_of_lem (at_bracket c.before) in
    rw (at_mark c.before) (record { a_le_b = <→≤ (at_bracket c.before).under; b_bound = omega arith })

pub distance-requires-in-loop-left : goal.distance-requires-in-loop-left
distance-requires-in-loop-left c =
    let b = at_bracket c.before.before in record { a_le_b = ≤_trans (<→≤ b.under) b.reaching; b_bound = at_near c.before.before }

pub seconds_on-step-requires : goal.seconds_on-step-requires
seconds_on-step-requires c =
    let to-target = rw (at_mark c.before.before.before) at c.distance.ensures in
    let to-above = c.distance-in-loop-left.ensures in
    let part = part_of_lem (at_bracket c.before.before.before) in record { a_le_b = omega arith; lt_n = c.loop-left-test.true; n_bound = at_few c.before.before.before }

pub signed-requires : goal.signed-requires
signed-requires c =
    let few = at_few c.before.before.before.before in
    let less = c.seconds_on-step.ensures.1 in
    omega arith

pub add-middle-requires : goal.add-middle-requires
add-middle-requires c =
    rw (back c.signed.result c.signed.type_inv ∙ c.signed.ensures) (second_fits (series_of c.before.before.before.before.before) (at_accepted c.before.before.before.before.before) (at_span c.before.before.before.before.before (at_step c.before)))

pub value-value-requires : goal.value-value-requires
value-value-requires c =
    rw (back c.add-middle.result c.add-middle.type_inv) (record { accepted = at_accepted c.before.before.before.before.before.before; in_span = at_span c.before.before.before.before.before.before (at_inside c) })

pub distance-rest-requires : goal.distance-rest-requires
distance-rest-requires c =
    let few = at_few c.before.before.before.before.before.before.before.before in
    let apart = c.loop-left.invariant.1 in
    let less = (at_next c).1 in record { a_le_b = <→≤ (at_next c).0.ordered; b_bound = omega arith }

pub loop-left-smaller : goal.loop-left-smaller
loop-left-smaller c =
    let apart = c.loop-left.invariant.1 in
    let less = (at_next c.before.before).1 in
    let rest = c.distance-rest.ensures in
    omega arith

pub loop-left-preserved : goal.loop-left-preserved
loop-left-preserved c =
    rw (to_z-of_z c.ranges.index) ((at_next c.before.before).0, c.distance-rest.ensures)

pub returns : goal.returns
returns c =
    found (at_bracket c.before) (accepted_rises (series_of c.before) (at_accepted c.before)) (rw c.loop-left.invariant.1 at c.loop-left-test.false)
