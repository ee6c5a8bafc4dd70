-- `month_rule::limits::year_in_range` meets its contract. Assumes nothing.
use borrow.Author.Rules.{rules}
use Rattle.months.specs.Limits.{year_in_range}
use Rattle.month_rule.proofs.limits.year_in_range.Goals as goal

pub returns : goal.returns
unfolding year_in_range
returns c = search rules
