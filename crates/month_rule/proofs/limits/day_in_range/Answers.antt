-- `month_rule::limits::day_in_range` meets its contract. Assumes nothing.
use borrow.Author.Rules.{rules}
use Rattle.months.specs.Limits.{day_in_range}
use Rattle.month_rule.proofs.limits.day_in_range.Goals as goal

pub returns : goal.returns
unfolding day_in_range
returns c = search rules
