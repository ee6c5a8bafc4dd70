-- `content::inner::months_lawful` meets its contract. Assumes nothing.
use mathlib.Core.Path.{◌≡◌, sym, ap, subst, ◌∙◌}
use mathlib.Core.List.{[], ◌∷◌}
use Prim.Native.Nat.{ℕ, ◌+◌, ◌/◌, ◌≤◌, ◌<◌}
use native.Mathlib.Omega.{arith}
use lib.IntN.{nat_abs}
use lib.ListN.{length}
use mir.Syntax.{w64}
use mir.Val.{to_z, of_z}
use mir.Facts.{to_z-of_z}
use Rattle.std.specs.Prelude.{Option, is_some, IfSome, ℤ}
use Rattle.whole.specs.Parts.{→≤}
use Rattle.whole.specs.Laws.{≤_trans}
use Rattle.whole.specs.Solver.{⇑, ⇓, ring}
use lib.Dec.{eqb}
use Rattle.whole.specs.Ranges.{back}
use Rattle.whole.specs.Tests.{is_exactly}
use Rattle.content.specs.Content.{month_at}
use Rattle.content.specs.Steps.{ordinary, walked_on}
use Rattle.content.specs.theory.Walk.{Due}
use Rattle.content.proofs.theory.Judged.{by_bits}
use Rattle.content.proofs.theory.Walk.{told_by, MonthsSoFar, no_month_yet, month_next, month_stops, leaps_decide}
use Rattle.content.proofs.inner.months_lawful.Given as given
use Rattle.content.proofs.inner.months_lawful.Goals as goal
use Rattle.content.proofs.inner.months_lawful.Goals.{After-count-last, After-judge_month, At-loop-place, In-loop-place}

counted : (g : given.Over) (c : After-count-last g) → c.count-last.result ≡ nat_abs c.args.size
counted g c = let fs = c.ranges.size in ap nat_abs (rw (to_z-of_z fs) at c.count-last.ensures)

at_most_13 : (g : given.Over) (c : After-count-last g) → c.count-last.result ≤ 13
at_most_13 g c =
    let ρ = c.args.size ∷ [] in
    let low = ⇓ ρ c.requires.pos_bound.0 (search ring) in
    let high = ⇓ ρ c.requires.pos_bound.1 (search ring) in
    omega (arith, counted g c, ⇑ ρ {A = nat_abs c.args.size ≤ 13} (search ring) (omega arith))

so_far : (g : given.Over) (loop : At-loop-place g) → (let a = loop.args in MonthsSoFar (g.R.Records.months a.records.now) a.year a.size a.from loop.loop-place.place loop.loop-place.leaps loop.loop-place.next loop.loop-place.day)
so_far g loop =
    let fy = loop.ranges.year in
    let fs = loop.ranges.size in
    rw (to_z-of_z fy, to_z-of_z fs, loop.loop-place.next-is, loop.loop-place.day-is) at loop.loop-place.invariant

inside : (g : given.Over) (turn : In-loop-place g) → turn.loop-place.place < nat_abs turn.args.size
inside g turn = let fs = turn.ranges.size in omega (arith, turn.loop-place-test.true, ap nat_abs (rw (to_z-of_z fs) at turn.count-last.ensures))

-- the month is among the records
among : (g : given.Over) (turn : In-loop-place g) → (let a = turn.args in a.from + turn.loop-place.place < length (g.R.Records.months a.records.now) / 3)
among g turn = omega (arith, turn.requires.size_bound, inside g turn)

walked : (g : given.Over) (c : After-judge_month g) → (let a = c.args in let m = month_at (g.R.Records.months a.records.now) (a.from + c.loop-place.place) in c.judge_month.result ≡ walked_on a.year a.size c.loop-place.leaps c.loop-place.place c.loop-place.day m.handle m.first m.length)
walked g c =
    let fy = c.ranges.year in
    let fs = c.ranges.size in
    let r = c.month_at-month.result in
    rw (to_z-of_z fy, to_z-of_z fs, back r.handle (omega arith), back r.first (omega arith), back r.length (omega arith), c.month_at-month.ensures, c.loop-place.day-is) at c.judge_month.ensures

pub count-last-requires : goal.count-last-requires
count-last-requires g c = let fs = c.ranges.size in rw (to_z-of_z fs) (≤_trans (→≤ (omega arith)) c.requires.pos_bound.0)

pub first_handle-next-requires : goal.first_handle-next-requires
first_handle-next-requires g c = let fy = c.ranges.year in rw (to_z-of_z fy) c.requires.within

pub loop-place-init : goal.loop-place-init
loop-place-init g c =
    let a = c.args in
    let fy = c.ranges.year in
    let fs = c.ranges.size in
    let fd = c.ranges.due in
    let first : to_z w64 (of_z w64 c.first_handle-next.result) ≡ ordinary a.year 0 = back c.first_handle-next.result c.first_handle-next.type_inv ∙ (rw (to_z-of_z fy) at c.first_handle-next.ensures) in
    rw (to_z-of_z fy, to_z-of_z fs) (no_month_yet (g.R.Records.months a.records.now) a.year a.size a.from _ _ first (rw (to_z-of_z fd) c.requires.due))

pub overflow_add-from : goal.overflow_add-from
overflow_add-from g c = record { fits = omega (arith, among g (goal.at.overflow_add-from g c).In-loop-place, c.requires.few) }

pub month_at-month-requires : goal.month_at-month-requires
month_at-month-requires g c = among g (goal.at.month_at-month-requires g c).In-loop-place

pub judge_month-requires : goal.judge_month-requires
judge_month-requires g c =
    let fy = c.ranges.year in
    rw (to_z-of_z fy, c.loop-place.next-is, c.loop-place.day-is) (record { within = c.requires.within; place_bound = omega (arith, c.loop-place-test.true, at_most_13 g (goal.at.judge_month-requires g c).After-count-last); leaps_le_place = (so_far g (goal.at.judge_month-requires g c).At-loop-place).at_most; next_value = (so_far g (goal.at.judge_month-requires g c).At-loop-place).handle; within_2 = (so_far g (goal.at.judge_month-requires g c).At-loop-place).due.small })

pub returns-in_err-walked-clause-good_value : goal.returns-in_err-walked-clause-good_value
returns-in_err-walked-clause-good_value g c =
    let a = c.args in
    ap is_some c.from_residual.ensures ∙ month_stops (g.R.Records.months a.records.now) a.year a.size a.from c.loop-place.place c.loop-place.leaps _ _ (so_far g (goal.at.returns-in_err-walked-clause-good_value g c).At-loop-place) (sym c.in_err-walked.was ∙ walked g (goal.at.returns-in_err-walked-clause-good_value g c).After-judge_month) (inside g (goal.at.returns-in_err-walked-clause-good_value g c).In-loop-place)

pub loop-place-preserved : goal.loop-place-preserved
loop-place-preserved g c =
    let a = c.args in
    let r = c.in_ok-walked.walked in
    let fy = c.ranges.year in
    let fs = c.ranges.size in
    rw (to_z-of_z fy, to_z-of_z fs, back r.next (omega arith), back r.due (omega arith))
    (month_next (g.R.Records.months a.records.now) a.year a.size a.from c.loop-place.place c.loop-place.leaps _ _ (so_far g (goal.at.loop-place-preserved g c).At-loop-place) r (sym c.in_ok-walked.was ∙ walked g (goal.at.loop-place-preserved g c).After-judge_month) (inside g (goal.at.loop-place-preserved g c).In-loop-place))

pub overflow_add-leaps : goal.overflow_add-leaps
overflow_add-leaps g c = record { fits = omega (arith, (so_far g (goal.at.overflow_add-leaps g c).At-loop-place).at_most, (so_far g (goal.at.overflow_add-leaps g c).At-loop-place).few, counted g (goal.at.overflow_add-leaps g c).After-count-last, at_most_13 g (goal.at.overflow_add-leaps g c).After-count-last) }

pub signed-requires : goal.signed-requires
signed-requires g c = omega (arith, (so_far g (goal.at.signed-requires g c).At-loop-place).at_most, (so_far g (goal.at.signed-requires g c).At-loop-place).few, counted g (goal.at.signed-requires g c).After-count-last, at_most_13 g (goal.at.signed-requires g c).After-count-last)

pub returns : goal.returns
returns g c =
    let a = c.args in
    let fs = c.ranges.size in
    let all : c.loop-place.place ≡ nat_abs a.size = omega (arith, c.loop-place-test.false, (so_far g (goal.at.returns g c).At-loop-place).few, counted g (goal.at.returns g c).After-count-last) in
    let end = subst (λ (p : ℕ). MonthsSoFar (g.R.Records.months a.records.now) a.year a.size a.from p c.loop-place.leaps c.loop-place.next c.loop-place.day) all (so_far g (goal.at.returns g c).At-loop-place) in
    let judged = by_bits c.signed.result a.size (record { sfits = c.signed.type_inv }) fs ∙ ap (λ (lawful : ℤ). is_exactly lawful a.size) c.signed.ensures ∙ leaps_decide (g.R.Records.months a.records.now) a.year a.size a.from c.loop-place.leaps _ _ end in
    let told = told_by (λ (day : ℤ). Due (g.R.Records.months a.records.now) (a.from + nat_abs a.size) day) (eqb (of_z w64 a.size) (of_z w64 c.signed.result)) c.loop-place.day end.due in
    let is = rw c.loop-place.day-is at c.then_some.ensures in
    record { good_value = ap is_some is ∙ told.0 ∙ judged; due_2 = subst (λ (r : Option ℤ). IfSome r (λ (day : ℤ). Due (g.R.Records.months a.records.now) (a.from + nat_abs a.size) day)) (sym is) told.1 }
