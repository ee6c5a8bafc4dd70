-- `month_rule::numbering::first_without` meets its contract: of thirteen months one is without (`thirteen_months_one_without`), so the library finds it. Assumes nothing.
use mathlib.Core.Path.{◌≡◌, ap}
use mathlib.Core.Bool.{true, false}
use borrow.Author.Rules.{rules}
use Rattle.std.proofs.Common.{Some}
use Rattle.std.proofs.lemmas.Iterator.{first_from_Range}
use Rattle.whole.specs.Found.{first_below}
use Rattle.months.specs.Months.{without, first_without}
use Rattle.months.proofs.Theorems.{thirteen_months_one_without}
use Rattle.month_rule.proofs.Firsts.{found_surely}
use Rattle.month_rule.proofs.numbering.first_without.Goals as goal
use Rattle.month_rule.proofs.numbering.first_without.Goals.{After-find}

at_found : (c : After-find) → c.find.result ≡ Some (first_without c.args.days)
unfolding first_without
at_found c =
    let days = c.args.days in
    let among = ap (first_below (without days)) c.requires.months_value in
    let one = thirteen_months_one_without days c.requires.sui_days c.requires.months_value in
    rw among (found_surely (without days) 13 (rw among at one) c.find.result (first_from_Range _ _ _ _ (λ i. without days i ≡ true) (λ i. without days i ≡ false) c.find.ensures.ran (λ i q k. search rules) (λ i q k. search rules)))

pub unwrap-requires : goal.unwrap-requires
unwrap-requires c = rw (at_found (goal.at.unwrap-requires c).After-find) (search rules)

pub returns : goal.returns
returns c = let e = at_found (goal.at.returns c).After-find in let u = c.unwrap.ensures in cc
