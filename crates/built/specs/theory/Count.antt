-- A count of suis that is in range: from 1 to 128. Assumes nothing.
use Rattle.std.specs.Prelude.{◌≡◌, true, ◌≤◌, ◌<◌, ℤ, pos, nat_abs, ◌≤ℤ◌}
use Rattle.whole.specs.Laws.{≤_trans, abs_of_nonneg}
use Rattle.whole.specs.Parts.{◌⩽◌, ℤ_rules}
use Rattle.whole.specs.Tests.{in_range, in_range_says}

module _ (count : ℤ) (in_range_lem : in_range (pos 1) (pos 128) count ≡ true) where
  pub count_natural : pos 0 ≤ℤ count
  count_natural = ≤_trans {a = pos 0} {b = pos 1} {c = count} (omega ℤ_rules) (in_range_says (pos 1) (pos 128) count in_range_lem).0

  pub count_small : (0 < nat_abs count) × (nat_abs count ≤ 128)
  count_small =
      let range = in_range_says (pos 1) (pos 128) count in_range_lem in
      let is : pos (nat_abs count) ≡ count = abs_of_nonneg {a = count} count_natural in
      let low : pos 1 ⩽ pos (nat_abs count) = rw is range.0 in
      let high : pos (nat_abs count) ⩽ pos 128 = rw is range.1 in
      (omega ℤ_rules, omega ℤ_rules)
