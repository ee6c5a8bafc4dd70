-- `build::years::put_year` meets its contract. In the needs, `start` is the function's entry. Assumes nothing.
use mathlib.Core.Path.{◌≡◌}
use Prim.Native.Nat.{◌*◌, ◌≤◌}
use native.Mathlib.Omega.{arith}
use lib.ListN.{length}
use mir.Facts.{to_z-of_z}
use Rattle.refusals.specs.Verdict.{passed_on, paper, Verdict, answered}
use Rattle.inputs.specs.Inputs.{Inputs, inputs}
use Rattle.months.specs.declared.Sui.{Sui}
use Rattle.sui.specs.Sui.{sui_of_year}
use Rattle.suis.specs.theory.Next.{next_year}
use Rattle.build.specs.theory.Answered.{sui_answered, sui_refused, nothing_put, all_put}
use Rattle.built.specs.theory.Records.{sui_has_its_months}
use Rattle.build.proofs.years.put_year.Goals as goal
use Rattle.build.proofs.years.put_year.Goals.{After-sui_after, In_ok-sui, Start}

abbrev inputs_of : Start → Inputs
inputs_of start = let a = start.args in inputs a.leap.now a.sunstart.0 a.sun.now a.moonstart.0 a.moon.now

-- the sui of the year
abbrev sui_of : Start → Verdict Sui
sui_of start = sui_of_year (inputs_of start) start.args.zone start.args.year

at_sui : (c : After-sui_after) → paper c.sui_after.result ≡ sui_of c.before
at_sui c = rw (to_z-of_z c.ranges.zone, to_z-of_z c.ranges.year) at c.sui_after.ensures

is_found : (c : In_ok-sui) → sui_of c.before.before.before ≡ answered c.in_ok-sui.sui
is_found c = sui_answered c.sui_after.result (sui_of c.before.before.before) (at_sui c.before.before) c.in_ok-sui.was

thirteen_at_most : (c : In_ok-sui) → c.in_ok-sui.sui.count ≤ 13
thirteen_at_most c = (next_year (inputs_of c.before.before.before) c.args.zone c.requires.year_in.ahead.is_known c.args.year (is_found c)).thirteen_at_most

has_its_months : (c : In_ok-sui) → c.in_ok-sui.sui.count ≤ length c.in_ok-sui.sui.months
has_its_months c = sui_has_its_months (inputs_of c.before.before.before) c.args.zone c.args.year (is_found c)

pub sui_after-requires : goal.sui_after-requires
sui_after-requires c = rw (to_z-of_z c.ranges.zone, to_z-of_z c.ranges.year) c.requires.year_in

pub returns-in_err-sui : goal.returns-in_err-sui
returns-in_err-sui c =
    let a = c.args in
    let at = (goal.at.returns-in_err-sui c).After-sui_after in
    let refused = sui_refused c.sui_after.result (sui_of at.before) c.in_err-sui.field-0.0 (at_sui at) c.in_err-sui.was in
    let none = nothing_put (sui_of at.before) a.year (2 * a.j) (3 * a.from) a.suis.now a.months.now refused in
    record { result_value = passed_on c.from_residual.result c.in_err-sui.field-0.0 c.from_residual.ensures.1 none.0; suis_after = none.1.0; months_after = none.1.1 }

pub overflow_mul-j : goal.overflow_mul-j
overflow_mul-j c = record { fits = omega (arith, c.requires.j_bound) }

pub put_sui-requires : goal.put_sui-requires
put_sui-requires c = record { at_in_bounds = c.requires.j_in_bounds; count_bound = thirteen_at_most (goal.at.put_sui-requires c).In_ok-sui }

pub overflow_mul-from : goal.overflow_mul-from
overflow_mul-from c = record { fits = omega (arith, c.requires.from_bound) }

pub put_months-requires : goal.put_months-requires
put_months-requires c =
    let found = (goal.at.put_months-requires c).In_ok-sui in
    record { count_bound = thirteen_at_most found; count_in_bounds = has_its_months found; count_in_bounds_2 = omega (arith, thirteen_at_most found, c.requires.from_in_bounds) }

pub returns : goal.returns
returns c =
    let a = c.args in
    let at = goal.at.returns c in
    let put = all_put (sui_of at.Start) a.year (2 * a.j) (3 * a.from) a.suis.now a.months.now (is_found at.In_ok-sui) (rw (to_z-of_z c.ranges.year) at c.put_sui.ensures) c.put_months.ensures in
    record { result_value = put.0; suis_after = put.1.0; months_after = put.1.1 }
