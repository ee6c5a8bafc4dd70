-- `dates::inner::date_in_year` meets its contract. Assumes nothing.
use Prim.Native.Nat.{ℕ, suc, ◌+◌, ◌-◌, ◌<◌}
use mathlib.Core.Path.{◌≡◌, ap, ◌∙◌}
use mathlib.Core.List.{List}
use native.Mathlib.Omega.{arith}
use lib.IntN.{pos}
use lib.ListN.{take}
use mir.Facts.{to_z-of_z}
use Rattle.whole.specs.Ranges.{back}
use Rattle.dates.specs.Calendar.{leap_year, lengths_in, total, months_over, date_in_year}
use Rattle.dates.proofs.theory.Months.{InMonth, month_found}
use Rattle.dates.proofs.theory.Days.{twelve}
use Rattle.dates.proofs.theory.Sizes.{year_sum}
use Rattle.dates.proofs.inner.date_in_year.Goals as goal
use Rattle.dates.proofs.inner.date_in_year.Goals.{After-days_of-before, After-lengths_in-lengths, After-months_over-over}

at_lengths : (c : After-lengths_in-lengths) → c.lengths_in-lengths.result ≡ lengths_in c.before.args.y
at_lengths c = rw (to_z-of_z c.before.ranges.y) at c.lengths_in-lengths.ensures

at_over : (c : After-months_over-over) → (let start = c.before.before.before in c.months_over-over.result ≡ months_over (lengths_in start.args.y) start.args.k)
at_over c =
    let start = c.before.before.before in
    c.months_over-over.ensures ∙ ap (λ (ls : List ℕ). months_over ls start.args.k) (at_lengths c.before.before)

at_month : (c : After-months_over-over) → (let start = c.before.before.before in InMonth (lengths_in start.args.y) start.args.k c.months_over-over.result)
at_month c =
    let start = c.before.before.before in
    rw (at_over c) (month_found (lengths_in start.args.y) start.args.k start.requires)

at_days : (c : After-days_of-before) → (let over = c.before.before in c.days_of-before.result ≡ total (take over.months_over-over.result (lengths_in over.before.before.before.args.y)))
at_days c =
    let over = c.before.before in
    c.days_of-before.ensures ∙ ap (λ (ls : List ℕ). total (take over.months_over-over.result ls)) (at_lengths over.before.before)

pub days_of-before-requires : goal.days_of-before-requires
days_of-before-requires c =
    let over = c.before in
    let lengths = over.before.before in
    rw (at_lengths lengths) (record { months_in_bounds = omega (arith, at_month over); lengths_bound = omega (arith, year_sum lengths.before.args.y) })

-- month and day of the month are small
at_small : (c : After-months_over-over) → c.months_over-over.result < 12
at_small c =
    let start = c.before.before.before in
    omega (arith, at_month c, twelve (leap_year start.args.y))

pub overflow_add-over : goal.overflow_add-over
overflow_add-over c = record { fits = omega (arith, at_small c.before.before) }

pub signed-requires : goal.signed-requires
signed-requires c = omega (arith, at_small c.before.before)

pub overflow_sub-k : goal.overflow_sub-k
overflow_sub-k c =
    let days = c.before in
    omega (arith, at_month days.before.before, at_days days)

pub overflow_add-k : goal.overflow_add-k
overflow_add-k c =
    let start = c.before.before.before.before.before.before in
    record { fits = omega (arith, year_sum start.args.y) }

pub signed-requires-2 : goal.signed-requires-2
signed-requires-2 c =
    let start = c.before.before.before.before.before.before in
    omega (arith, year_sum start.args.y)

pub returns : goal.returns
unfolding date_in_year
returns c =
    let days = c.before.before in
    let over = days.before.before in
    let start = over.before.before.before in
    let m : over.months_over-over.result + 1 ≡ suc (months_over (lengths_in start.args.y) start.args.k) = omega (arith, at_over over) in
    let d : start.args.k - days.days_of-before.result + 1 ≡ suc (start.args.k - total (take (months_over (lengths_in start.args.y) start.args.k) (lengths_in start.args.y))) = rw (at_days days, at_over over) (omega arith) in
    let month = back c.before.signed.result c.before.signed.type_inv ∙ c.before.signed.ensures ∙ ap pos m in
    let day = back c.signed-2.result c.signed-2.type_inv ∙ c.signed-2.ensures ∙ ap pos d in
    λ t. record { year = to_z-of_z start.ranges.y t; month = month t; day = day t }
