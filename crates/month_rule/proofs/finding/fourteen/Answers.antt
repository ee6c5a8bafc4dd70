-- `month_rule::finding::fourteen` meets its contract: behind the days that are copied stand the zeros of the array. Assumes nothing.
use mathlib.Core.Path.{ap₂}
use mathlib.Core.List.{List, ◌++◌}
use borrow.Author.Rules.{rules}
use lib.IntN.{ℤ, pos}
use Rattle.whole.specs.Tabulated.{drop_replicate}
use Rattle.month_rule.proofs.finding.fourteen.Goals as goal

pub returns : goal.returns
returns c = ap₂ (λ (days zeros : List ℤ). days ++ zeros) (search rules) (drop_replicate c.args.n 14 (pos 0))
