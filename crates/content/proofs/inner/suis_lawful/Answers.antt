-- `content::inner::suis_lawful` meets its contract. Assumes nothing.
use mathlib.Core.Path.{◌≡◌, sym, ap, ap₂, subst, ◌∙◌}
use mathlib.Core.Bool.{true}
use Prim.Native.Nat.{ℕ, ◌+◌, ◌*◌, ◌/◌, ◌<◌}
use native.Mathlib.Omega.{arith}
use native.Mathlib.Nat.{div-add-mod'}
use native.Mathlib.Decide.{dec_lt}
use borrow.Author.Tests.{eq-eqb, ne_eqb}
use lib.Dec.{eqb}
use lib.IntN.{ℤ, pos, nat_abs, ◌+ℤ◌}
use lib.ListN.{length}
use Rattle.std.specs.Prelude.{is_some, IfSome}
use Rattle.whole.specs.Parts.{→≤}
use Rattle.whole.specs.Laws.{≤_trans}
use Rattle.whole.specs.Ranges.{fits, bounds, back}
use Rattle.dates.specs.Answers.{has_date}
use Rattle.months.specs.declared.Month.{Month}
use Rattle.content.specs.Content.{year_at, count_at, month_at, good_months}
use Rattle.content.specs.Steps.{sui_after}
use Rattle.content.specs.theory.Walk.{Due}
use Rattle.content.proofs.theory.Walk.{first_due, SuisSoFar, no_sui_yet, no_months, no_date, year_small, count_12_or_13, sui_stops, months_run_out, months_stop, sui_next, months_left_over}
use Rattle.content.proofs.inner.suis_lawful.Given as given
use Rattle.content.proofs.inner.suis_lawful.Goals as goal
use Rattle.content.proofs.inner.suis_lawful.Goals.{After-count-size, After-good_sui, After-has_date, After-month_count-months, After-months_lawful, In-loop-i}

months_there : (g : given.Over) (c : After-month_count-months g) → length (g.R.Records.months c.args.records.now) ≡ 3 * c.month_count-months.result
months_there g c =
    let n = length (g.R.Records.months c.args.records.now) in
    omega (arith, div-add-mod' n 3, c.month_count-months.ensures, c.requires.whole)

first_day : (g : given.Over) (c : After-has_date g) → c.month_at-day.result.first ≡ (month_at (g.R.Records.months c.args.records.now) 0).first
first_day g c = ap (λ (m : Month). m.first) c.month_at-day.ensures

dated : (g : given.Over) (c : After-has_date g) → c.has_date.result ≡ has_date (month_at (g.R.Records.months c.args.records.now) 0).first
dated g c = rw (back c.month_at-day.result.first (omega arith), first_day g c) at c.has_date.ensures

inside : (g : given.Over) (turn : In-loop-i g) → turn.loop-i.i < length (g.R.Records.suis turn.args.records.now) / 2
inside g turn = omega (arith, turn.sui_count-i-end.ensures, turn.loop-i-test.true)

so_far : (g : given.Over) (turn : In-loop-i g) → SuisSoFar (g.R.Records.suis turn.args.records.now) (g.R.Records.months turn.args.records.now) turn.loop-i.i turn.loop-i.from turn.loop-i.due turn.loop-i.day
so_far g turn = rw (turn.loop-i.due-is, turn.loop-i.day-is) at turn.loop-i.invariant

judged : (g : given.Over) (c : After-good_sui g) → (let list = g.R.Records.suis c.args.records.now in c.good_sui.result ≡ sui_after c.loop-i.due (year_at list c.loop-i.i) (count_at list c.loop-i.i))
judged g c =
    let r = c.sui_at-sui.result in
    rw (back r.year (omega arith), back r.months (omega arith), c.sui_at-sui.ensures.year_value, c.sui_at-sui.ensures.months_value, c.loop-i.due-is) at c.good_sui.ensures

is_good : (g : given.Over) (c : After-good_sui g) → c.good_sui.result ≡ true → (let list = g.R.Records.suis c.args.records.now in sui_after c.loop-i.due (year_at list c.loop-i.i) (count_at list c.loop-i.i) ≡ true)
is_good g c good = sym (judged g c) ∙ good

counted : (g : given.Over) (c : After-count-size g) → c.count-size.result ≡ nat_abs (count_at (g.R.Records.suis c.args.records.now) c.loop-i.i)
counted g c =
    ap nat_abs (rw (back c.sui_at-sui.result.months (omega arith), c.sui_at-sui.ensures.months_value) at c.count-size.ensures)

judged_months : (g : given.Over) (c : After-months_lawful g) → (let suis = g.R.Records.suis c.args.records.now in let months = g.R.Records.months c.args.records.now in let size = count_at suis c.loop-i.i in (is_some c.months_lawful.result ≡ good_months months (year_at suis c.loop-i.i) size c.loop-i.from) × IfSome c.months_lawful.result (λ (day : ℤ). Due months (c.loop-i.from + nat_abs size) day))
judged_months g c =
    let r = c.sui_at-sui.result in
    let months = g.R.Records.months c.args.records.now in
    let from = c.loop-i.from in
    let out = c.months_lawful.result in
    let says : (is_some out ≡ good_months months r.year r.months from) × IfSome out (λ (day : ℤ). Due months (from + nat_abs r.months) day) = (let e = rw (back r.year (omega arith), back r.months (omega arith)) at c.months_lawful.ensures in (e.good_value, e.due_2)) in (
      says.0 ∙ ap₂ (λ (y z : ℤ). good_months months y z from) c.sui_at-sui.ensures.year_value c.sui_at-sui.ensures.months_value,
      subst (λ (z : ℤ). IfSome out (λ (day : ℤ). Due months (from + nat_abs z) day)) c.sui_at-sui.ensures.months_value says.1,
    )

pub returns-then-months-lt1 : goal.returns-then-months-lt1
returns-then-months-lt1 g c =
    no_months (g.R.Records.suis c.args.records.now) (g.R.Records.months c.args.records.now) c.requires.some (omega (arith, months_there g (goal.at.returns-then-months-lt1 g c).After-month_count-months, c.if-months-lt1.true))

pub returns-then-not-has_date : goal.returns-then-not-has_date
returns-then-not-has_date g c =
    no_date (g.R.Records.suis c.args.records.now) (g.R.Records.months c.args.records.now) c.requires.some (sym (dated g (goal.at.returns-then-not-has_date g c).After-has_date) ∙ c.if-not-has_date.true)

pub loop-i-init : goal.loop-i-init
loop-i-init g c =
    let months = g.R.Records.months c.args.records.now in
    let year = c.sui_at-due.result.year in
    let day = c.month_at-day.result.first in
    let start = (goal.at.loop-i-init g c).After-has_date in
    rw (back year (omega arith), c.sui_at-due.ensures.year_value, back day (omega arith), first_day g start)
    (no_sui_yet (g.R.Records.suis c.args.records.now) months (month_at months 0).first (first_due months (sym (dated g start) ∙ c.if-not-has_date.false)))

pub returns-then-not-good_sui : goal.returns-then-not-good_sui
returns-then-not-good_sui g c =
    let turn = (goal.at.returns-then-not-good_sui g c).In-loop-i in
    sui_stops (g.R.Records.suis c.args.records.now) (g.R.Records.months c.args.records.now) c.loop-i.i c.loop-i.from _ _ (so_far g turn) (inside g turn) (sym (judged g (goal.at.returns-then-not-good_sui g c).After-good_sui) ∙ c.if-not-good_sui.true)

pub count-size-requires : goal.count-size-requires
count-size-requires g c =
    let list = g.R.Records.suis c.args.records.now in
    rw (back c.sui_at-sui.result.months (omega arith), c.sui_at-sui.ensures.months_value)
    (≤_trans (→≤ (omega arith)) (count_12_or_13 c.loop-i.due (year_at list c.loop-i.i) (count_at list c.loop-i.i) (is_good g (goal.at.count-size-requires g c).After-good_sui c.if-not-good_sui.false)).0)

pub returns-then-months-from : goal.returns-then-months-from
returns-then-months-from g c =
    let turn = (goal.at.returns-then-months-from g c).In-loop-i in
    let all = months_there g (goal.at.returns-then-months-from g c).After-month_count-months in
    months_run_out (g.R.Records.suis c.args.records.now) (g.R.Records.months c.args.records.now) c.loop-i.i c.loop-i.from _ _ (so_far g turn) (inside g turn) (omega (arith, counted g (goal.at.returns-then-months-from g c).After-count-size, all, c.if-months-from.true))

pub months_lawful-requires-clause-within : goal.months_lawful-requires-clause-within
months_lawful-requires-clause-within g c =
    let list = g.R.Records.suis c.args.records.now in
    let i = c.loop-i.i in
    rw (back c.sui_at-sui.result.year (omega arith), c.sui_at-sui.ensures.year_value)
    (year_small c.loop-i.due (year_at list i) (count_at list i) (is_good g (goal.at.months_lawful-requires-clause-within g c).After-good_sui c.if-not-good_sui.false))

pub months_lawful-requires-clause-pos_bound : goal.months_lawful-requires-clause-pos_bound
months_lawful-requires-clause-pos_bound g c =
    let list = g.R.Records.suis c.args.records.now in
    let i = c.loop-i.i in
    rw (back c.sui_at-sui.result.months (omega arith), c.sui_at-sui.ensures.months_value)
    (count_12_or_13 c.loop-i.due (year_at list i) (count_at list i) (is_good g (goal.at.months_lawful-requires-clause-pos_bound g c).After-good_sui c.if-not-good_sui.false))

pub returns-in_default : goal.returns-in_default
returns-in_default g c =
    let turn = (goal.at.returns-in_default g c).In-loop-i in
    months_stop (g.R.Records.suis c.args.records.now) (g.R.Records.months c.args.records.now) c.loop-i.i c.loop-i.from _ _ (so_far g turn) (inside g turn) (sym (judged_months g (goal.at.returns-in_default g c).After-months_lawful).0 ∙ ap is_some c.in_default.is)

pub add-due-requires : goal.add-due-requires
add-due-requires g c =
    let list = g.R.Records.suis c.args.records.now in
    let i = c.loop-i.i in
    let small = year_small c.loop-i.due (year_at list i) (count_at list i) (is_good g (goal.at.add-due-requires g c).After-good_sui c.if-not-good_sui.false) in
    rw (back c.sui_at-sui.result.year (omega arith), c.sui_at-sui.ensures.year_value) (fits (search bounds) tt)

pub loop-i-preserved : goal.loop-i-preserved
loop-i-preserved g c =
    let suis = g.R.Records.suis c.args.records.now in
    let i = c.loop-i.i in
    let next = c.in-Some.next in
    let turn = (goal.at.loop-i-preserved g c).In-loop-i in
    let all = months_there g (goal.at.loop-i-preserved g c).After-month_count-months in
    let year : c.add-due.result ≡ year_at suis i +ℤ pos 1 = rw (back c.sui_at-sui.result.year (omega arith), c.sui_at-sui.ensures.year_value) at c.add-due.ensures in
    let judged = rw c.in-Some.is at (judged_months g (goal.at.loop-i-preserved g c).After-months_lawful) in
    rw (back c.add-due.result c.add-due.type_inv, year, back next (omega arith))
    (sui_next suis (g.R.Records.months c.args.records.now) i c.loop-i.from _ _ (so_far g turn) (inside g turn) c.count-size.result next (counted g (goal.at.loop-i-preserved g c).After-count-size) (is_good g (goal.at.loop-i-preserved g c).After-good_sui c.if-not-good_sui.false) (omega (arith, all, c.if-months-from.false)) (sym judged.0) judged.1)

pub returns : goal.returns
returns g c =
    let suis = g.R.Records.suis c.args.records.now in
    let months = g.R.Records.months c.args.records.now in
    let from = c.loop-i.from in
    let so_far : SuisSoFar suis months c.loop-i.i from c.loop-i.due c.loop-i.day = rw (c.loop-i.due-is, c.loop-i.day-is) at c.loop-i.invariant in
    let all : c.loop-i.i ≡ length suis / 2 = omega (arith, c.loop-i-test.false, so_far.few, c.sui_count-i-end.ensures) in
    three_times c.month_count-months.result from
    ∙ ap (λ (k : ℕ). eqb k (3 * from)) (sym (months_there g (goal.at.returns g c).After-month_count-months))
    ∙ months_left_over suis months from c.loop-i.due c.loop-i.day (subst (λ (k : ℕ). SuisSoFar suis months k from c.loop-i.due c.loop-i.day) all so_far)
  where
    three_times : (a b : ℕ) → eqb a b ≡ eqb (3 * a) (3 * b)
    three_times a b = go (dec_lt a b) (dec_lt b a)
      where
        go : Dec (a < b) → Dec (b < a) → eqb a b ≡ eqb (3 * a) (3 * b)
        go (yes l) m = ne_eqb a b (λ e. omega arith) ∙ sym (ne_eqb (3 * a) (3 * b) (λ e. omega arith))
        go (no l) (yes m) = ne_eqb a b (λ e. omega arith) ∙ sym (ne_eqb (3 * a) (3 * b) (λ e. omega arith))
        go (no l) (no m) = eq-eqb a b (omega arith) ∙ sym (eq-eqb (3 * a) (3 * b) (omega arith))
