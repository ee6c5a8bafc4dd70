-- `month_rule::months_of` meets its contract. In the needs, `start` is the function's entry. Assumes nothing.
use mathlib.Core.Path.{◌≡◌, sym, ◌∙◌}
use mathlib.Core.Bool.{true}
use native.Mathlib.Omega.{arith}
use mir.Facts.{to_z-of_z}
use Rattle.whole.specs.Bounded.{all_wider}
use Rattle.refusals.specs.Verdict.{answered, answered_is, refused_is, passed_on}
use Rattle.months.specs.Months.{days_of}
use Rattle.months.specs.Limits.{lists_kept}
use Rattle.months.proofs.Theorems.{found_are_sui_days}
use Rattle.months.proofs.theory.Answered.{months_not_kept, months_refused, months_found}
use Rattle.months.proofs.theory.Days.{found_small}
use Rattle.months.proofs.theory.Kept.{Kept, kept, year_small, days_small}
use Rattle.month_rule.proofs.months_of.Goals as goal
use Rattle.month_rule.proofs.months_of.Goals.{After-lists_kept, Else-not-lists_kept, In_ok-days}

at_kept : (c : After-lists_kept) → (let a = c.args in c.lists_kept.result ≡ lists_kept a.year a.moons.now a.zhongqi.now)
at_kept c = rw (to_z-of_z c.ranges.year) at c.lists_kept.ensures

-- year and lists keep the limits
at_lists : (c : Else-not-lists_kept) → (let a = c.args in lists_kept a.year a.moons.now a.zhongqi.now ≡ true)
at_lists c = sym (at_kept c.before) ∙ c.if-not-lists_kept.false

at_limits : (c : Else-not-lists_kept) → (let a = c.args in Kept a.year a.moons.now a.zhongqi.now)
at_limits c = let a = c.args in kept a.year a.moons.now a.zhongqi.now (at_lists c)

-- the days that were found
at_days : (c : In_ok-days) → (let a = c.args in days_of a.moons.now a.zhongqi.now ≡ answered c.in_ok-days.days)
at_days c =
    let a = c.args in
    answered_is {u = days_of a.moons.now a.zhongqi.now} c.days_of.ensures c.in_ok-days.was

pub returns-then-not-lists_kept : goal.returns-then-not-lists_kept
returns-then-not-lists_kept c =
    let a = c.args in
    months_not_kept a.year a.moons.now a.zhongqi.now (sym (at_kept (goal.at.returns-then-not-lists_kept c).After-lists_kept) ∙ c.if-not-lists_kept.true)

pub days_of-requires : goal.days_of-requires
days_of-requires c = (at_limits (goal.at.days_of-requires c).Else-not-lists_kept).thirteen

pub returns-in_err-days : goal.returns-in_err-days
returns-in_err-days c =
    let a = c.args in
    let refused = refused_is {u = days_of a.moons.now a.zhongqi.now} c.days_of.ensures c.in_err-days.was in
    passed_on c.from_residual.result c.in_err-days.field-0.0 c.from_residual.ensures.1 (months_refused a.year a.moons.now a.zhongqi.now (at_lists (goal.at.returns-in_err-days c).Else-not-lists_kept) c.in_err-days.field-0.0 refused)

pub sui_of-requires : goal.sui_of-requires
sui_of-requires c =
    let a = c.args in
    let limits = at_limits (goal.at.sui_of-requires c).Else-not-lists_kept in record { within = rw (to_z-of_z c.ranges.year) (year_small a.year limits.year_kept); sui_days = found_are_sui_days a.moons.now a.zhongqi.now limits.moons_rise limits.thirteen (at_days (goal.at.sui_of-requires c).In_ok-days); all = found_small a.moons.now a.zhongqi.now (at_days (goal.at.sui_of-requires c).In_ok-days) (all_wider (days_small a.moons.now limits.moons_near) (omega arith)) }

pub returns : goal.returns
returns c =
    let a = c.args in
    (rw (to_z-of_z c.ranges.year) at c.sui_of.ensures) ∙ months_found a.year a.moons.now a.zhongqi.now (at_lists (goal.at.returns c).Else-not-lists_kept) (at_days (goal.at.returns c).In_ok-days)
