-- `month_rule::numbering::bad_length` meets its contract. Assumes nothing.
use borrow.Author.Rules.{rules}
use Rattle.months.specs.Months.{good_length}
use Rattle.month_rule.proofs.numbering.bad_length.Goals as goal

pub returns : goal.returns
unfolding good_length
returns c = search rules
