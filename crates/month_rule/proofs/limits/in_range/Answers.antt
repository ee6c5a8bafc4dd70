-- `month_rule::limits::in_range` meets its contract. Assumes nothing.
use mathlib.Core.Path.{◌≡◌, refl, ◌∙◌}
use mathlib.Core.Bool.{Bool, ◌&&◌}
use mathlib.Core.List.{List}
use lib.IntN.{ℤ}
use borrow.Author.Rules.{rules}
use Rattle.std.specs.List.{list_all}
use Rattle.std.proofs.lemmas.List.Recursion.{same_from_clauses}
use Rattle.std.proofs.lemmas.Iterator.{YieldsList-from_slice}
use Rattle.std.proofs.lemmas.Iterator.Search.{all_from_yields_List}
use Rattle.months.specs.Limits.{day_in_range, in_range}
use Rattle.month_rule.proofs.limits.in_range.Goals as goal

-- each day is judged, up to the first that is not in range
judged : (days : List ℤ) → list_all day_in_range days ≡ in_range days
unfolding in_range
judged days = same_from_clauses (list_all day_in_range) in_range (λ (d : ℤ) (rest : Bool). day_in_range d && rest) refl (λ d rest. refl) (λ d rest. refl) days

pub returns : goal.returns
returns c = all_from_yields_List day_in_range _ _ c.all.result c.all.ensures.ran (YieldsList-from_slice c.args.days.now cc) (λ x b q k. search rules) ∙ judged c.args.days.now
