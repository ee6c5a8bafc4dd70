-- `conversion::judge_leap_table` meets its contract. Assumes nothing.
use mathlib.Core.Path.{sym, ◌∙◌}
use Rattle.clock.specs.Answers.{leap_judged}
use Rattle.conversion.proofs.judge_leap_table.Goals as goal

pub returns-then-leap_lawful : goal.returns-then-leap_lawful
unfolding leap_judged
returns-then-leap_lawful c = rw (sym c.leap_lawful.ensures ∙ c.if-leap_lawful.true)

pub returns : goal.returns
unfolding leap_judged
returns c = rw (sym c.leap_lawful.ensures ∙ c.if-leap_lawful.false)
