-- `month_rule::numbering::leap_mark` meets its contract. Assumes nothing.
use Rattle.months.proofs.theory.Numbering.{at_leap, not_at_leap}
use Rattle.month_rule.proofs.numbering.leap_mark.Goals as goal

pub returns-then-place-leap : goal.returns-then-place-leap
returns-then-place-leap c = let a = c.args in at_leap a.leap a.place c.if-place-leap.true

pub returns : goal.returns
returns c = let a = c.args in not_at_leap a.leap a.place c.if-place-leap.false
