-- `month_rule::numbering::number_at` meets its contract. Assumes nothing.
use mathlib.Core.Path.{◌∙◌}
use Rattle.months.proofs.theory.Numbering.{before_leap, from_leap}
use Rattle.month_rule.proofs.numbering.number_at.Goals as goal

pub returns-then-place-leap : goal.returns-then-place-leap
returns-then-place-leap c = let a = c.args in c.ordinal.ensures ∙ before_leap a.leap a.place c.if-place-leap.true

pub returns : goal.returns
returns c = let a = c.args in c.ordinal-2.ensures ∙ from_leap a.leap a.place c.if-place-leap.false
