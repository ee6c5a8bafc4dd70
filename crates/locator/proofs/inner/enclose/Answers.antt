-- `locator::inner::enclose` meets its contract. Assumes nothing.
use mathlib.Core.Path.{◌≡◌, refl, ◌∙◌}
use mathlib.Core.List.{[], ◌∷◌}
use native.Mathlib.Omega.{arith}
use lib.IntN.{ℤ, pos, ◌+ℤ◌, ◌-ℤ◌, ◌*ℤ◌}
use mir.Syntax.{w64}
use mir.Val.{of_z, to_z}
use mir.Facts.{to_z-of_z}
use Rattle.whole.specs.Parts.{◌⩽◌, ◌≺◌}
use Rattle.whole.specs.Laws.{≤_of-≡, ≤_trans, <→≤}
use Rattle.whole.specs.Floor.{floor_div}
use Rattle.whole.proofs.Floor.{bound_floor}
use Rattle.whole.specs.Ranges.{Within, within, fits, back, fit_hyp, bounds}
use Rattle.whole.specs.Solver.{⇑, ⇓, ring, le_yes, le_no}
use Rattle.series.specs.Bodies.{numbers}
use Rattle.series.specs.Series.{Series, series, InSpan, value_at, last_second}
use Rattle.series.proofs.Theorems.{accepted_rises}
use Rattle.series.proofs.theory.Span.{span_ordered, value_in_span}
use Rattle.marks.specs.Listed.{MarkAt, second_of_mark}
use Rattle.marks.proofs.Theorems.{located_crossing}
use Rattle.marks.proofs.theory.Slope.{mark_ahead, mark_behind}
use Rattle.locator.proofs.Bracket.{whole_span}
use Rattle.locator.proofs.Around.{second_small, mark_small}
use Rattle.locator.proofs.inner.enclose.Goals as goal
use Rattle.locator.proofs.inner.enclose.Goals.{After-add-on, After-last_second-last, After-mark_value-target, After-value-value, Start}

abbrev series-of : Start → Series
series-of c = series c.args.body c.args.start.0 c.args.coefs.now

abbrev target-of : Start → ℤ
target-of c = c.args.index *ℤ pos (numbers c.args.body).mark_size

target_small : (c : Start) → Within 1000100000000000 (target-of c)
target_small c = mark_small (series-of c) c.requires.accepted (whole_span (accepted_rises (series-of c) c.requires.accepted) (span_ordered (series-of c) c.requires.accepted) c.requires.coefs_bound c.requires.index_bound refl refl)

mark_of : (c : Start) → MarkAt (series-of c) c.args.index (second_of_mark (series-of c) c.args.index)
mark_of c = located_crossing (series-of c) c.requires.accepted c.args.index c.requires.coefs_bound c.requires.index_bound

at_target : (c : After-mark_value-target) → to_z w64 (of_z w64 c.mark_value-target.result) ≡ target-of c.before
at_target c = back c.mark_value-target.result c.mark_value-target.type_inv ∙ (rw (to_z-of_z c.ranges.index) at c.mark_value-target.ensures)

abbrev Valued : Type 0
Valued = After-value-value

abbrev start_of : Valued → Start
start_of c = c.before.before.before.before

abbrev at_of : Valued → ℤ
at_of c = c.second_for-near.result.at

at_at : (c : Valued) → to_z w64 (of_z w64 (at_of c)) ≡ at_of c
at_at c = back (at_of c) c.struct_told-1.given.0.1

inside : (c : Valued) → InSpan (series-of (start_of c)) (at_of c)
inside c = c.second_for-near.ensures.0

at_value : (c : Valued) → to_z w64 (of_z w64 c.value-value.result) ≡ value_at (series-of (start_of c)) (at_of c)
at_value c = back c.value-value.result c.value-value.type_inv ∙ (rw (at_at c) at c.value-value.ensures)

abbrev on_of : Valued → ℤ
on_of c = at_of c +ℤ floor_div (target-of (start_of c) -ℤ value_at (series-of (start_of c)) (at_of c)) 37

at_on : (c : After-add-on) → to_z w64 (of_z w64 c.add-on.result) ≡ on_of c.before.before
at_on c =
    back c.add-on.result c.add-on.type_inv ∙ (rw (at_at c.before.before, back c.seconds_on.result c.seconds_on.type_inv, c.seconds_on.ensures, at_target c.before.before.before.before.before, at_value c.before.before) at c.add-on.ensures)

on_small : (c : Valued) → Within 5000000000000000 (on_of c)
on_small c =
    let start = start_of c in
    let a = second_small (series-of start) start.requires.accepted (inside c) in
    let t = target_small start in
    let v = value_in_span (series-of start) start.requires.accepted (inside c) in
    within (search (bounds, bound_floor)) tt

abbrev Ended : Type 0
Ended = After-last_second-last

abbrev valued_of : Ended → Valued
valued_of c = c.before.before.before.before

at_last : (c : Ended) → to_z w64 (of_z w64 c.last_second-last.result.0) ≡ last_second (series-of (start_of (valued_of c)))
at_last c = back c.last_second-last.result.0 (omega arith) ∙ c.last_second-last.ensures

under : (c : Ended) → (let valued = valued_of c in let start = start_of valued in value_at (series-of start) (at_of valued) ≺ target-of start)
under c =
    let valued = valued_of c in
    let start = start_of valued in
    le_no {a = target-of start} {b = value_at (series-of start) (at_of valued)} (rw (at_target valued.before.before.before, at_value valued) at c.if-target-value.false)

pub mark_value-target-requires : goal.mark_value-target-requires
mark_value-target-requires c = rw (to_z-of_z c.ranges.index) (fit_hyp (target_small c) tt)

pub second_for-near-requires : goal.second_for-near-requires
second_for-near-requires c = let small = target_small c.before in record { accepted = c.requires.accepted; within = rw (at_target c) (within (search bounds) tt) }

pub seconds_on-requires : goal.seconds_on-requires
seconds_on-requires c =
    let start = start_of c in
    let t = target_small start in
    let v = value_in_span (series-of start) start.requires.accepted (inside c) in
    rw (at_target c.before.before.before, at_value c) (record { within = within (search bounds) tt; within_2 = within (search bounds) tt })

pub add-on-requires : goal.add-on-requires
add-on-requires c =
    let small = on_small c.before in
    rw (at_at c.before, back c.seconds_on.result c.seconds_on.type_inv, c.seconds_on.ensures, at_target c.before.before.before.before, at_value c.before) (fit_hyp small tt)

pub subtract-requires : goal.subtract-requires
subtract-requires c = let small = on_small c.before.before.before in rw (at_on c.before) (fits (search bounds) tt)

pub returns-then-target-value : goal.returns-then-target-value
returns-then-target-value c =
    let start = start_of c.before.before.before.before in
    let s = series-of start in
    let reached : target-of start ⩽ value_at s (at_of c.before.before.before.before) = le_yes {a = target-of start} {b = value_at s (at_of c.before.before.before.before)} (rw (at_target c.before.before.before.before.before.before.before, at_value c.before.before.before.before) at c.if-target-value.true) in
    let told = mark_behind s start.requires.accepted start.args.index (at_of c.before.before.before.before) (inside c.before.before.before.before) (mark_of start) reached in
    let small = on_small c.before.before.before.before in
    rw (back c.subtract.result c.subtract.type_inv, c.subtract.ensures, at_on c.before.before, at_at c.before.before.before.before) (record { comes_after = told.0; comes_by = told.1; in_span = inside c.before.before.before.before; small = within (search bounds) tt })

pub returns-then-end-on : goal.returns-then-end-on
returns-then-end-on c =
    let valued = valued_of c.before.before in
    let start = start_of valued in
    let s = series-of start in
    let told = mark_ahead s start.requires.accepted start.args.index (at_of valued) (inside valued) (mark_of start) (under c.before.before) in
    let small = second_small s start.requires.accepted (inside valued) in
    rw (at_at valued, at_last c.before.before) (record { comes_after = told.0; comes_by = (mark_of start).by_last; in_span = record { from_start = span_ordered s start.requires.accepted; to_last = ≤_of-≡ refl }; small = within (search bounds) tt })

pub add-requires : goal.add-requires
add-requires c = let small = on_small c.before.before.before.before.before.before in rw (at_on c.before.before.before.before) (fits (search bounds) tt)

pub returns : goal.returns
returns c =
    let valued = valued_of c.before.before.before in
    let start = start_of valued in
    let s = series-of start in
    let told = mark_ahead s start.requires.accepted start.args.index (at_of valued) (inside valued) (mark_of start) (under c.before.before.before) in
    let small = second_small s start.requires.accepted (inside valued) in
    let before : on_of valued ≺ last_second s = le_no {a = last_second s} {b = on_of valued} (rw (at_last c.before.before.before, at_on c.before.before.before.before.before) at c.if-end-on.false) in
    let ρ = on_of valued ∷ last_second s ∷ [] in
    let to : on_of valued +ℤ pos 1 ⩽ last_second s = ⇑ ρ (search ring depth 9) (omega (arith, ⇓ ρ before (search ring depth 9))) in
    rw (at_at valued, back c.add.result c.add.type_inv, c.add.ensures, at_on c.before.before.before.before.before) (record { comes_after = told.0; comes_by = told.1; in_span = record { from_start = ≤_trans (<→≤ (mark_of start).after_first) told.1; to_last = to }; small = within (search bounds) tt })
