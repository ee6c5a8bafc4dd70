-- `month_rule::numbering::leap_month` meets its contract. Assumes nothing.
use mathlib.Core.Path.{◌∙◌}
use Rattle.months.proofs.theory.Leap.{leap_of_thirteen, leap_of_others}
use Rattle.month_rule.proofs.numbering.leap_month.Goals as goal

pub first_without-requires : goal.first_without-requires
first_without-requires c = record { sui_days = c.requires; months_value = c.if-months-eq13.true }

pub returns-then-months-eq13 : goal.returns-then-months-eq13
returns-then-months-eq13 c = c.first_without.ensures ∙ leap_of_thirteen c.args.days c.if-months-eq13.true

pub returns : goal.returns
returns c = leap_of_others c.args.days c.if-months-eq13.false
