-- `month_rule::numbering::first_bad_month` meets its contract: what the library finds is the first of the definition. Assumes nothing.
use mathlib.Core.Path.{◌≡◌, ◌∙◌}
use mathlib.Core.Bool.{true, false}
use borrow.Author.Rules.{rules}
use Rattle.std.proofs.lemmas.Iterator.{first_from_Range}
use Rattle.months.specs.Months.{bad_month, first_bad_month}
use Rattle.month_rule.proofs.Firsts.{found}
use Rattle.month_rule.proofs.numbering.first_bad_month.Goals as goal

pub returns : goal.returns
unfolding first_bad_month
returns c =
    let days = c.args.days in
    c.unwrap_or.ensures ∙ found (bad_month days) days.months c.find.result (first_from_Range _ _ _ _ (λ i. bad_month days i ≡ true) (λ i. bad_month days i ≡ false) c.find.ensures.ran (λ i q k. search rules) (λ i q k. search rules))
