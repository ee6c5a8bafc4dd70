-- `dates::inner::month_length` meets its contract. Assumes nothing.
use Prim.Native.Nat.{◌-◌}
use mathlib.Core.Path.{◌≡◌, ap, ◌∙◌}
use native.Mathlib.Omega.{arith}
use lib.IntN.{pos, nat_abs}
use mir.Facts.{to_z-of_z}
use Rattle.whole.specs.Parts.{ℤ_rules}
use Rattle.whole.specs.Ranges.{back}
use Rattle.dates.specs.Calendar.{lengths_in, month_length}
use Rattle.dates.proofs.theory.Sizes.{month_small}
use Rattle.dates.proofs.inner.month_length.Goals as goal
use Rattle.dates.proofs.inner.month_length.Goals.{After-count-i, After-lengths_in-lengths}

at_lengths : (c : After-lengths_in-lengths) → c.lengths_in-lengths.result ≡ lengths_in c.before.args.y
at_lengths c = rw (to_z-of_z c.before.ranges.y) at c.lengths_in-lengths.ensures

at_count : (c : After-count-i) → pos c.count-i.result ≡ c.before.before.args.m
at_count c = rw (to_z-of_z c.before.before.ranges.m) at c.count-i.ensures

pub count-i-requires : goal.count-i-requires
count-i-requires c = rw (to_z-of_z c.before.ranges.m) (omega (ℤ_rules, c.before.requires.0))

pub overflow_sub-i : goal.overflow_sub-i
overflow_sub-i c = omega (ℤ_rules, at_count c, c.before.before.requires.0)

pub offset_bounds-lengths-i : goal.offset_bounds-lengths-i
offset_bounds-lengths-i c = record { fits = omega (ℤ_rules, at_count c, c.before.before.requires.1) }

pub bounds-lengths-i : goal.bounds-lengths-i
bounds-lengths-i c = omega (ℤ_rules, at_count c, c.before.before.requires.0, c.before.before.requires.1)

pub signed-requires : goal.signed-requires
signed-requires c =
    let lengths = c.before in
    rw (at_lengths lengths) (omega (arith, month_small lengths.before.args.y (c.count-i.result - 1)))

pub returns : goal.returns
unfolding month_length
returns c =
    let counted = c.before in
    let m : counted.count-i.result ≡ nat_abs counted.before.before.args.m = ap nat_abs (at_count counted) in
    back c.signed.result c.signed.type_inv ∙ (rw (at_lengths counted.before, m) at c.signed.ensures)
