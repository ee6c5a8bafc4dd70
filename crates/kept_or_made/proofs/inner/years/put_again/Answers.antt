-- `kept_or_made::inner::years::put_again` meets its contract. In the needs, `start` is the function's entry. Assumes nothing.
use mathlib.Core.Path.{◌≡◌}
use Prim.Native.Nat.{◌*◌, ◌≤◌}
use native.Mathlib.Omega.{arith}
use mir.Facts.{to_z-of_z}
use Rattle.refusals.specs.Verdict.{answered, answered_is, refused_is, passed_on}
use Rattle.months.specs.declared.SuiDays.{SuiDays}
use Rattle.months.specs.Months.{IsSuiDays, sui_of}
use Rattle.months.proofs.theory.Listed.{at_most_thirteen}
use Rattle.months.proofs.theory.Suis.{sui_count_lem}
use Rattle.built.specs.theory.Records.{has_its_months}
use Rattle.kept_or_made.specs.Again.{months_at_place}
use Rattle.kept_or_made.specs.theory.Putting.{copied_when, refused_when, made_when}
use Rattle.kept_or_made.proofs.inner.years.put_again.Goals as goal
use Rattle.kept_or_made.proofs.inner.years.put_again.Goals.{In_ok-sui}

few_months : (days : SuiDays) → IsSuiDays days → days.months ≤ 13
few_months days is = (at_most_thirteen days.months is.count).1

-- the sui that is made
made : (c : In_ok-sui) → sui_of c.args.year c.args.days ≡ answered c.in_ok-sui.sui
made c = answered_is {u = sui_of c.args.year c.args.days} (rw (to_z-of_z c.ranges.year) at c.sui_of.ensures) c.in_ok-sui.was

few_made : (c : In_ok-sui) → c.in_ok-sui.sui.count ≤ 13
few_made c = omega (arith, sui_count_lem c.args.year c.args.days (made c), few_months c.args.days c.requires.sui_days)

pub put_sui-requires : goal.put_sui-requires
put_sui-requires c = record { at_in_bounds = c.requires.j_in_bounds; count_bound = few_months c.args.days c.requires.sui_days }

pub copy_months-requires : goal.copy_months-requires
copy_months-requires c = record { n_in_bounds = c.requires.months_in_bounds c.if-same.true; n_in_bounds_2 = omega (arith, few_months c.args.days c.requires.sui_days, c.requires.from_in_bounds) }

pub returns-then-same : goal.returns-then-same
returns-then-same c =
    let a = c.args in
    let months = a.days.months in
    let all = copied_when a.year months (months_at_place a.old.now a.at months) (sui_of c.args.year c.args.days) (2 * a.j) (3 * a.from) a.suis.now a.months.now c.if-same.true (rw (to_z-of_z c.ranges.year) at c.put_sui.ensures) c.copy_months.ensures in
    record { result_value = all.0; suis_after = all.1.0; months_after = all.1.1 }

pub returns-in_err-sui : goal.returns-in_err-sui
returns-in_err-sui c =
    let a = c.args in
    let months = a.days.months in
    let refused = refused_is {u = sui_of a.year a.days} (rw (to_z-of_z c.ranges.year) at c.sui_of.ensures) c.in_err-sui.was in
    let all = refused_when a.year months (months_at_place a.old.now a.at months) (sui_of a.year a.days) (2 * a.j) (3 * a.from) a.suis.now a.months.now c.if-same.false refused in
    record { result_value = passed_on c.from_residual.result c.in_err-sui.field-0.0 c.from_residual.ensures.1 all.0; suis_after = all.1.0; months_after = all.1.1 }

pub put_sui-requires-2 : goal.put_sui-requires-2
put_sui-requires-2 c = record { at_in_bounds = c.requires.j_in_bounds; count_bound = few_made (goal.at.put_sui-requires-2 c).In_ok-sui }

pub put_months-requires : goal.put_months-requires
put_months-requires c = record { count_bound = few_made (goal.at.put_months-requires c).In_ok-sui; count_in_bounds = has_its_months c.args.year c.args.days (made (goal.at.put_months-requires c).In_ok-sui); count_in_bounds_2 = omega (arith, few_made (goal.at.put_months-requires c).In_ok-sui, c.requires.from_in_bounds) }

pub returns : goal.returns
returns c =
    let a = c.args in
    let months = a.days.months in
    let all = made_when a.year months (months_at_place a.old.now a.at months) (sui_of c.args.year c.args.days) (2 * a.j) (3 * a.from) a.suis.now a.months.now c.if-same.false (made (goal.at.returns c).In_ok-sui) (rw (to_z-of_z c.ranges.year) at c.put_sui-2.ensures) c.put_months.ensures in
    record { result_value = all.0; suis_after = all.1.0; months_after = all.1.1 }
