-- `suis::inner::sui_after` meets its contract. In the needs, `start` is the function's entry. Assumes nothing.
use mathlib.Core.Path.{◌≡◌, sym, ◌∙◌}
use mir.Facts.{to_z-of_z}
use Rattle.refusals.specs.Verdict.{passed_on, answered_is, refused_is, answered, refused_then, answered_then}
use Rattle.inputs.specs.Inputs.{inputs}
use Rattle.months.specs.Months.{sui_of}
use Rattle.months.proofs.theory.Kept.{year_small}
use Rattle.months.proofs.theory.Days.{found_small}
use Rattle.sui.specs.Sui.{new_moon_days, zhongqi_days, sui_days}
use Rattle.sui.proofs.Theorems.{sui_days_of_accepted}
use Rattle.sui.proofs.theory.Answered.{Found, days_found_lem, new_moons_small}
use Rattle.suis.proofs.inner.sui_after.Goals as goal
use Rattle.suis.proofs.inner.sui_after.Goals.{In_ok-days}

-- the days that were found
at_days : (c : In_ok-days) → (sui_days (inputs c.args.leap.now c.args.sunstart.0 c.args.sun.now c.args.moonstart.0 c.args.moon.now) c.args.zone c.args.year ≡ answered c.in_ok-days.days)
at_days c =
    answered_is {u = sui_days (inputs c.args.leap.now c.args.sunstart.0 c.args.sun.now c.args.moonstart.0 c.args.moon.now) c.args.zone c.args.year} (rw (to_z-of_z c.ranges.zone, to_z-of_z c.ranges.year) at c.days_after.ensures) c.in_ok-days.was

at_found : (c : In_ok-days) → (Found (inputs c.args.leap.now c.args.sunstart.0 c.args.sun.now c.args.moonstart.0 c.args.moon.now) c.args.zone c.args.year c.in_ok-days.days)
at_found c = days_found_lem (inputs c.args.leap.now c.args.sunstart.0 c.args.sun.now c.args.moonstart.0 c.args.moon.now) c.args.zone c.args.year (at_days c)

pub days_after-requires : goal.days_after-requires
days_after-requires c = rw (to_z-of_z c.ranges.zone, to_z-of_z c.ranges.year) c.requires

pub returns-in_err-days : goal.returns-in_err-days
returns-in_err-days c =
    let refused = refused_is {u = sui_days (inputs c.args.leap.now c.args.sunstart.0 c.args.sun.now c.args.moonstart.0 c.args.moon.now) c.args.zone c.args.year} (rw (to_z-of_z c.ranges.zone, to_z-of_z c.ranges.year) at c.days_after.ensures) c.in_err-days.was in
    passed_on c.from_residual.result c.in_err-days.field-0.0 c.from_residual.ensures.1 (refused_then (sui_of c.args.year) (sym refused))

pub sui_of-requires : goal.sui_of-requires
sui_of-requires c =
    let i = inputs c.args.leap.now c.args.sunstart.0 c.args.sun.now c.args.moonstart.0 c.args.moon.now in
    let zone = c.args.zone in
    let is_known = c.requires.ahead.is_known in
    let found = at_found (goal.at.sui_of-requires c).In_ok-days in
    let zhongqi = zhongqi_days i zone found.first found.last in record { within = rw (to_z-of_z c.ranges.year) (year_small c.args.year found.in_range); sui_days = sui_days_of_accepted i zone c.args.year is_known (at_days (goal.at.sui_of-requires c).In_ok-days); all = found_small (new_moon_days i zone) zhongqi found.by_rule (new_moons_small i zone is_known c.requires.ahead.suns_searched.zone_small) }

pub returns : goal.returns
returns c =
    (rw (to_z-of_z c.ranges.year) at c.sui_of.ensures) ∙ (answered_then (sui_of c.args.year) (sym (at_days (goal.at.returns c).In_ok-days)))
