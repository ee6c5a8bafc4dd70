-- `building::refused::of_inputs` meets its contract. Assumes nothing.
use mathlib.Core.Path.{sym, ◌∙◌}
use Rattle.building.specs.Refused.{refused_of}
use Rattle.building.specs.theory.Blamed.{ends, goes_on, blames, clears}
use Rattle.building.proofs.refused.of_inputs.Goals as goal

pub returns-then-is_err : goal.returns-then-is_err
unfolding refused_of
returns-then-is_err c = ends c.judge_leap_table.result _ c.judge_leap_table.ensures (sym c.is_err.ensures.value ∙ c.if-is_err.true)

pub returns-then-is_err-2 : goal.returns-then-is_err-2
unfolding refused_of
returns-then-is_err-2 c =
    blames c.accept.result _ _ c.accept.ensures (sym c.is_err-2.ensures.value ∙ c.if-is_err-2.true)
    ∙ goes_on c.judge_leap_table.result _ c.judge_leap_table.ensures (sym c.is_err.ensures.value ∙ c.if-is_err.false)

pub returns-then-is_err-3 : goal.returns-then-is_err-3
unfolding refused_of
returns-then-is_err-3 c =
    blames c.accept-2.result _ _ c.accept-2.ensures (sym c.is_err-3.ensures.value ∙ c.if-is_err-3.true)
    ∙ clears c.accept.result _ _ c.accept.ensures (sym c.is_err-2.ensures.value ∙ c.if-is_err-2.false)
    ∙ goes_on c.judge_leap_table.result _ c.judge_leap_table.ensures (sym c.is_err.ensures.value ∙ c.if-is_err.false)

pub returns : goal.returns
unfolding refused_of
returns c =
    clears c.accept-2.result _ _ c.accept-2.ensures (sym c.is_err-3.ensures.value ∙ c.if-is_err-3.false)
    ∙ clears c.accept.result _ _ c.accept.ensures (sym c.is_err-2.ensures.value ∙ c.if-is_err-2.false)
    ∙ goes_on c.judge_leap_table.result _ c.judge_leap_table.ensures (sym c.is_err.ensures.value ∙ c.if-is_err.false)
