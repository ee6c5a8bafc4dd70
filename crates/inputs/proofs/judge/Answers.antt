-- `inputs::judge` meets its contract. Assumes nothing.
use mathlib.Core.Path.{◌≡◌, refl, sym, ◌∙◌}
use mathlib.Core.Bool.{Bool, true, false, ◌||◌}
use Rattle.refusals.specs.Verdict.{passed_on, accepted, refuse_when, refused_first, accepted_first, accepted_is}
use Rattle.clock.specs.Answers.{leap_judged}
use Rattle.series.specs.Acceptance.{Accepted}
use Rattle.marks.specs.Listed.{listed_marks}
use Rattle.inputs.specs.Inputs.{Inputs, inputs, sun, moon, any_early, inputs_judged}
use Rattle.inputs.proofs.Theorems.{leap_known}
use Rattle.inputs.proofs.judge.Goals as goal
use Rattle.inputs.proofs.judge.Goals.{In_ok-accept-2}

abbrev Told : Type 0
Told = In_ok-accept-2

abbrev inputs_of : Told → Inputs
inputs_of told =
    let a = told.args in
    inputs a.leap.now a.sunstart.0 a.sun.now a.moonstart.0 a.moon.now

leap_told : (told : Told) → leap_judged (inputs_of told).leap ≡ accepted
leap_told told = accepted_is told.judge_leap_table.ensures told.in_ok-judge_leap_table.was

sun_told : (told : Told) → Accepted (sun (inputs_of told))
sun_told told = accepted_is told.accept.ensures told.in_ok-accept.was

moon_told : (told : Told) → Accepted (moon (inputs_of told))
moon_told told = accepted_is told.accept-2.ensures told.in_ok-accept-2.was

-- then 7 decides
decides : (told : Told) (sun-early moon-early : Bool) → any_early (inputs_of told).leap (listed_marks (sun (inputs_of told))) ≡ sun-early → any_early (inputs_of told).leap (listed_marks (moon (inputs_of told))) ≡ moon-early → refuse_when (sun-early || moon-early) 7 ≡ inputs_judged (inputs_of told)
unfolding inputs_judged
decides told sun-early moon-early p q = rw (leap_told told, sun_told told, moon_told told, p, q)

pub returns-in_err-judge_leap_table : goal.returns-in_err-judge_leap_table
unfolding inputs_judged
returns-in_err-judge_leap_table c =
    passed_on c.from_residual.result c.in_err-judge_leap_table.field-0.0 c.from_residual.ensures.1
    (refused_first _ c.judge_leap_table.ensures c.in_err-judge_leap_table.was)

pub returns-in_err-accept : goal.returns-in_err-accept
unfolding inputs_judged
returns-in_err-accept c =
    passed_on c.from_residual-in_err-accept.result c.in_err-accept.field-0.0 c.from_residual-in_err-accept.ensures.1
    (refused_first _ c.accept.ensures c.in_err-accept.was ∙ accepted_first _ c.judge_leap_table.ensures c.in_ok-judge_leap_table.was)

pub returns-in_err-accept-2 : goal.returns-in_err-accept-2
unfolding inputs_judged
returns-in_err-accept-2 c =
    passed_on c.from_residual-in_err-accept-2.result c.in_err-accept-2.field-0.0 c.from_residual-in_err-accept-2.ensures.1
    (refused_first _ c.accept-2.ensures c.in_err-accept-2.was
    ∙ accepted_first _ c.accept.ensures c.in_ok-accept.was
    ∙ accepted_first _ c.judge_leap_table.ensures c.in_ok-judge_leap_table.was)

pub any_early-requires : goal.any_early-requires
any_early-requires c = record { leap_value = leap_known (inputs_of c).leap (leap_told c); accepted = sun_told c }

pub returns-then-any_early : goal.returns-then-any_early
returns-then-any_early c =
    decides c.before.before true (any_early (inputs_of c.before.before).leap (listed_marks (moon (inputs_of c.before.before)))) (sym c.any_early.ensures ∙ c.if-any_early.true) refl

pub any_early-requires-2 : goal.any_early-requires-2
any_early-requires-2 c = record { leap_value = leap_known (inputs_of c.before.before).leap (leap_told c.before.before); accepted = moon_told c.before.before }

pub returns-then-any_early-2 : goal.returns-then-any_early-2
returns-then-any_early-2 c =
    decides c.before.before.before.before false true (sym c.any_early.ensures ∙ c.if-any_early.false) (sym c.any_early-2.ensures ∙ c.if-any_early-2.true)

pub returns : goal.returns
returns c =
    decides c.before.before.before.before false false (sym c.any_early.ensures ∙ c.if-any_early.false) (sym c.any_early-2.ensures ∙ c.if-any_early-2.false)
