-- `dates::inner::days_before` meets its contract. Assumes nothing.
use Prim.Native.Nat.{ℕ, ◌-◌}
use mathlib.Core.Path.{◌≡◌, ap, ◌∙◌}
use mathlib.Core.List.{List}
use native.Mathlib.Omega.{arith}
use lib.IntN.{pos, nat_abs}
use lib.ListN.{take}
use mir.Facts.{to_z-of_z}
use Rattle.whole.specs.Parts.{ℤ_rules}
use Rattle.whole.specs.Ranges.{back}
use Rattle.dates.specs.Calendar.{leap_year, lengths_in, total, days_before}
use Rattle.dates.proofs.theory.Months.{take_below}
use Rattle.dates.proofs.theory.Days.{twelve}
use Rattle.dates.proofs.theory.Sizes.{year_sum}
use Rattle.dates.proofs.inner.days_before.Goals as goal
use Rattle.dates.proofs.inner.days_before.Goals.{After-count-i, After-days_of, After-lengths_in-lengths}

at_lengths : (c : After-lengths_in-lengths) → c.lengths_in-lengths.result ≡ lengths_in c.args.y
at_lengths c = rw (to_z-of_z c.ranges.y) at c.lengths_in-lengths.ensures

at_count : (c : After-count-i) → pos c.count-i.result ≡ c.args.m
at_count c = rw (to_z-of_z c.ranges.m) at c.count-i.ensures

at_days : (c : After-days_of) → (c.days_of.result ≡ total (take (c.count-i.result - 1) (lengths_in c.args.y)))
at_days c =
    c.days_of.ensures ∙ ap (λ (ls : List ℕ). total (take (c.count-i.result - 1) ls)) (at_lengths c.before.before.before)

pub count-i-requires : goal.count-i-requires
count-i-requires c = rw (to_z-of_z c.ranges.m) (omega (ℤ_rules, c.requires.0))

pub overflow_sub-i : goal.overflow_sub-i
overflow_sub-i c = omega (ℤ_rules, at_count (goal.at.overflow_sub-i c).After-count-i, c.requires.0)

pub days_of-requires : goal.days_of-requires
days_of-requires c =
    let y = c.args.y in
    rw (at_lengths (goal.at.days_of-requires c).After-lengths_in-lengths) (record { months_in_bounds = omega (ℤ_rules, at_count (goal.at.days_of-requires c).After-count-i, c.requires.1, twelve (leap_year y)); lengths_bound = omega (arith, year_sum y) })

pub signed-requires : goal.signed-requires
signed-requires c =
    let y = c.args.y in
    omega (arith, at_days (goal.at.signed-requires c).After-days_of, year_sum y, take_below (lengths_in y) (c.count-i.result - 1))

pub returns : goal.returns
unfolding days_before
returns c =
    let m : c.count-i.result ≡ nat_abs c.args.m = ap nat_abs (at_count (goal.at.returns c).After-count-i) in
    back c.signed.result c.signed.type_inv ∙ c.signed.ensures ∙ ap pos (rw m at (at_days (goal.at.returns c).After-days_of))
