-- `month_rule::inner::twelve_or_thirteen` meets its contract. Assumes nothing.
use Rattle.months.proofs.theory.Listed.{is_twelve, not_twelve}
use Rattle.month_rule.proofs.inner.twelve_or_thirteen.Goals as goal

pub returns-then-n-eq12 : goal.returns-then-n-eq12
returns-then-n-eq12 c = is_twelve c.args.n c.if-n-eq12.true

pub returns : goal.returns
returns c = not_twelve c.args.n c.if-n-eq12.false
