-- `one_sui::sui` meets its contract. In the needs, `start` is the function's entry. Assumes nothing.
use mathlib.Core.Path.{◌≡◌, sym, ap, ap₂, subst, ◌∙◌}
use lib.IntN.{ℤ}
use mir.Facts.{to_z-of_z}
use Rattle.whole.specs.Ranges.{Within}
use Rattle.refusals.specs.Verdict.{passed_on, answered_is, refused_is, answered, accepted, refused_first, accepted_is, ◌then◌, paper}
use Rattle.inputs.specs.Inputs.{inputs, judged_in}
use Rattle.inputs.specs.Known.{Known}
use Rattle.inputs.proofs.Theorems.{known, accepted_in}
use Rattle.months.specs.Months.{sui_of}
use Rattle.months.proofs.theory.Days.{found_small}
use Rattle.months.proofs.theory.Kept.{year_small}
use Rattle.sui.specs.Sui.{new_moon_days, zhongqi_days, sui_days, sui_for}
use Rattle.sui.proofs.Theorems.{sui_days_of_accepted}
use Rattle.sui.proofs.theory.Answered.{sui_refused, sui_found, Found, days_found_lem, new_moons_small}
use Rattle.one_sui.proofs.sui.Goals as goal
use Rattle.one_sui.proofs.sui.Goals.{After-days_in, After-judge_in, In_ok-judge_in, In_ok-days}

-- what the judge said, of this function's own zone
at_judge : (c : After-judge_in) → paper c.judge_in.result ≡ judged_in (inputs c.args.leap.now c.args.sunstart.0 c.args.sun.now c.args.moonstart.0 c.args.moon.now) c.args.zone
at_judge c = c.judge_in.ensures ∙ ap (judged_in (inputs c.args.leap.now c.args.sunstart.0 c.args.sun.now c.args.moonstart.0 c.args.moon.now)) (to_z-of_z c.ranges.zone)

-- zone and inputs are accepted
at_judged : (c : In_ok-judge_in) → (judged_in (inputs c.args.leap.now c.args.sunstart.0 c.args.sun.now c.args.moonstart.0 c.args.moon.now) c.args.zone ≡ accepted)
at_judged c = accepted_is (at_judge c.before.before) c.in_ok-judge_in.was

at_zone : (c : In_ok-judge_in) → Within 1000 c.args.zone
at_zone c = (accepted_in (inputs c.args.leap.now c.args.sunstart.0 c.args.sun.now c.args.moonstart.0 c.args.moon.now) c.args.zone (at_judged c)).0

at_known : (c : In_ok-judge_in) → Known (inputs c.args.leap.now c.args.sunstart.0 c.args.sun.now c.args.moonstart.0 c.args.moon.now)
at_known c = known (inputs c.args.leap.now c.args.sunstart.0 c.args.sun.now c.args.moonstart.0 c.args.moon.now) (accepted_in (inputs c.args.leap.now c.args.sunstart.0 c.args.sun.now c.args.moonstart.0 c.args.moon.now) c.args.zone (at_judged c)).1

-- what the days are, of this function's own zone and year
at_answer : (c : After-days_in) → (paper c.days_in.result ≡ sui_days (inputs c.args.leap.now c.args.sunstart.0 c.args.sun.now c.args.moonstart.0 c.args.moon.now) c.args.zone c.args.year)
at_answer c = c.days_in.ensures ∙ ap₂ (λ (zone year : ℤ). (sui_days (inputs c.args.leap.now c.args.sunstart.0 c.args.sun.now c.args.moonstart.0 c.args.moon.now) zone year)) (to_z-of_z c.ranges.zone) (to_z-of_z c.ranges.year)

-- the days that were found
at_days : (c : In_ok-days) → (sui_days (inputs c.args.leap.now c.args.sunstart.0 c.args.sun.now c.args.moonstart.0 c.args.moon.now) c.args.zone c.args.year ≡ answered c.in_ok-days.days)
at_days c =
    answered_is {u = sui_days (inputs c.args.leap.now c.args.sunstart.0 c.args.sun.now c.args.moonstart.0 c.args.moon.now) c.args.zone c.args.year} (at_answer c.before.before) c.in_ok-days.was

at_found : (c : In_ok-days) → (Found (inputs c.args.leap.now c.args.sunstart.0 c.args.sun.now c.args.moonstart.0 c.args.moon.now) c.args.zone c.args.year c.in_ok-days.days)
at_found c = days_found_lem (inputs c.args.leap.now c.args.sunstart.0 c.args.sun.now c.args.moonstart.0 c.args.moon.now) c.args.zone c.args.year (at_days c)

pub returns-in_err-judge_in : goal.returns-in_err-judge_in
unfolding sui_for
returns-in_err-judge_in c =
    passed_on c.from_residual.result c.in_err-judge_in.field-0.0 c.from_residual.ensures.1
    (refused_first {u = judged_in (inputs c.args.leap.now c.args.sunstart.0 c.args.sun.now c.args.moonstart.0 c.args.moon.now) c.args.zone} (sui_days (inputs c.args.leap.now c.args.sunstart.0 c.args.sun.now c.args.moonstart.0 c.args.moon.now) c.args.zone c.args.year then sui_of c.args.year) (at_judge (goal.at.returns-in_err-judge_in c).After-judge_in) c.in_err-judge_in.was)

pub days_in-requires : goal.days_in-requires
days_in-requires c = record { known = at_known c; within = subst (Within 1000) (sym (to_z-of_z c.ranges.zone)) (at_zone c) }

pub returns-in_err-days : goal.returns-in_err-days
returns-in_err-days c =
    let refused = refused_is {u = sui_days (inputs c.args.leap.now c.args.sunstart.0 c.args.sun.now c.args.moonstart.0 c.args.moon.now) c.args.zone c.args.year} (at_answer (goal.at.returns-in_err-days c).After-days_in) c.in_err-days.was in
    passed_on c.from_residual-in_err-days.result c.in_err-days.field-0.0 c.from_residual-in_err-days.ensures.1
    (sui_refused (inputs c.args.leap.now c.args.sunstart.0 c.args.sun.now c.args.moonstart.0 c.args.moon.now) c.args.zone c.args.year (at_judged (goal.at.returns-in_err-days c).In_ok-judge_in) c.in_err-days.field-0.0 refused)

pub sui_of-requires : goal.sui_of-requires
sui_of-requires c =
    let i = inputs c.args.leap.now c.args.sunstart.0 c.args.sun.now c.args.moonstart.0 c.args.moon.now in
    let found = at_found (goal.at.sui_of-requires c).In_ok-days in
    let zhongqi = zhongqi_days i c.args.zone found.first found.last in record { within = rw (to_z-of_z c.ranges.year) (year_small c.args.year found.in_range); sui_days = sui_days_of_accepted i c.args.zone c.args.year (at_known (goal.at.sui_of-requires c).In_ok-judge_in) (at_days (goal.at.sui_of-requires c).In_ok-days); all = found_small (new_moon_days i c.args.zone) zhongqi found.by_rule (new_moons_small i c.args.zone (at_known (goal.at.sui_of-requires c).In_ok-judge_in) (at_zone (goal.at.sui_of-requires c).In_ok-judge_in)) }

pub returns : goal.returns
returns c =
    (rw (to_z-of_z c.ranges.year) at c.sui_of.ensures) ∙ (sui_found (inputs c.args.leap.now c.args.sunstart.0 c.args.sun.now c.args.moonstart.0 c.args.moon.now) c.args.zone c.args.year (at_judged (goal.at.returns c).In_ok-judge_in) (at_days (goal.at.returns c).In_ok-days))
