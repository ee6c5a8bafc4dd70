-- `build::build` meets its contract. In the needs, `start` is the function's entry. Assumes nothing.
use mathlib.Core.Path.{◌≡◌, sym, ap, ◌∙◌}
use mathlib.Core.Bool.{true}
use lib.IntN.{pos, nat_abs}
use mir.Facts.{to_z-of_z}
use Rattle.whole.specs.Tests.{in_range}
use Rattle.refusals.specs.Verdict.{passed_on, accepted, accepted_is, paper}
use Rattle.inputs.specs.Inputs.{inputs, judged_in}
use Rattle.inputs.proofs.Theorems.{known, accepted_in}
use Rattle.built.specs.theory.Count.{count_natural, count_small}
use Rattle.build.specs.theory.Count.{inputs_refused, count_refused, years_built}
use Rattle.build.proofs.build.Goals as goal
use Rattle.build.proofs.build.Goals.{After-judge_in, After-in_range, Else-not-in_range, After-count-n, In_ok-judge_in}

-- what the judge said, of this function's own zone
at_judge : (c : After-judge_in) → paper c.judge_in.result ≡ judged_in (inputs c.args.leap.now c.args.sunstart.0 c.args.sun.now c.args.moonstart.0 c.args.moon.now) c.args.zone
at_judge c = rw (to_z-of_z c.ranges.zone) at c.judge_in.ensures

-- zone and inputs are accepted
at_judged : (c : In_ok-judge_in) → judged_in (inputs c.args.leap.now c.args.sunstart.0 c.args.sun.now c.args.moonstart.0 c.args.moon.now) c.args.zone ≡ accepted
at_judged c = accepted_is {u = judged_in (inputs c.args.leap.now c.args.sunstart.0 c.args.sun.now c.args.moonstart.0 c.args.moon.now) c.args.zone} (rw (to_z-of_z c.ranges.zone) at c.judge_in.ensures) c.in_ok-judge_in.was

at_range : (c : After-in_range) → c.in_range.result ≡ in_range (pos 1) (pos 128) c.args.count
at_range c = rw (to_z-of_z c.ranges.count) at c.in_range.ensures

at_few : (c : Else-not-in_range) → in_range (pos 1) (pos 128) c.args.count ≡ true
at_few c = sym (rw (to_z-of_z c.ranges.count) at c.in_range.ensures) ∙ c.if-not-in_range.false

at_count : (c : After-count-n) → c.count-n.result ≡ nat_abs c.args.count
at_count c = ap nat_abs (rw (to_z-of_z c.ranges.count) at c.count-n.ensures)

pub returns-in_err-judge_in : goal.returns-in_err-judge_in
returns-in_err-judge_in c =
    let a = c.args in
    let refused = inputs_refused (inputs c.args.leap.now c.args.sunstart.0 c.args.sun.now c.args.moonstart.0 c.args.moon.now) a.zone a.first a.count a.file.now (sym (at_judge (goal.at.returns-in_err-judge_in c).After-judge_in) ∙ ap paper c.in_err-judge_in.was) in
    record { result_value = passed_on c.from_residual.result c.in_err-judge_in.field-0.0 c.from_residual.ensures.1 refused.0; file_after = refused.1 }

pub returns-then-not-in_range : goal.returns-then-not-in_range
returns-then-not-in_range c =
    let a = c.args in record { result_value = (count_refused (inputs c.args.leap.now c.args.sunstart.0 c.args.sun.now c.args.moonstart.0 c.args.moon.now) a.zone a.first a.count a.file.now (at_judged (goal.at.returns-then-not-in_range c).In_ok-judge_in) (sym (at_range (goal.at.returns-then-not-in_range c).After-in_range) ∙ c.if-not-in_range.true)).0; file_after = (count_refused (inputs c.args.leap.now c.args.sunstart.0 c.args.sun.now c.args.moonstart.0 c.args.moon.now) a.zone a.first a.count a.file.now (at_judged (goal.at.returns-then-not-in_range c).In_ok-judge_in) (sym (at_range (goal.at.returns-then-not-in_range c).After-in_range) ∙ c.if-not-in_range.true)).1 }

pub count-n-requires : goal.count-n-requires
count-n-requires c = rw (to_z-of_z c.ranges.count) (count_natural c.args.count (at_few (goal.at.count-n-requires c).Else-not-in_range))

pub build_in-requires : goal.build_in-requires
build_in-requires c =
    let is = accepted_in (inputs c.args.leap.now c.args.sunstart.0 c.args.sun.now c.args.moonstart.0 c.args.moon.now) c.args.zone (at_judged (goal.at.build_in-requires c).In_ok-judge_in) in
    rw (at_count (goal.at.build_in-requires c).After-count-n, to_z-of_z c.ranges.zone) (record { known = known (inputs c.args.leap.now c.args.sunstart.0 c.args.sun.now c.args.moonstart.0 c.args.moon.now) is.1; within = is.0; n_nonzero = (count_small c.args.count (at_few (goal.at.build_in-requires c).Else-not-in_range)).0; n_bound = (count_small c.args.count (at_few (goal.at.build_in-requires c).Else-not-in_range)).1 })

pub returns : goal.returns
returns c =
    let a = c.args in
    let built = rw (at_count (goal.at.returns c).After-count-n, to_z-of_z c.ranges.zone, to_z-of_z c.ranges.first) at c.build_in.ensures in record { result_value = (years_built (inputs c.args.leap.now c.args.sunstart.0 c.args.sun.now c.args.moonstart.0 c.args.moon.now) a.zone a.first a.count a.file.now (at_judged (goal.at.returns c).In_ok-judge_in) (at_few (goal.at.returns c).Else-not-in_range) (built.result_value, built.file_after)).0; file_after = (years_built (inputs c.args.leap.now c.args.sunstart.0 c.args.sun.now c.args.moonstart.0 c.args.moon.now) a.zone a.first a.count a.file.now (at_judged (goal.at.returns c).In_ok-judge_in) (at_few (goal.at.returns c).Else-not-in_range) (built.result_value, built.file_after)).1 }
