-- `month_rule::numbering::without` meets its contract. Assumes nothing.
use mathlib.Core.Path.{ap}
use Prim.Native.Nat.{ℕ, ◌+◌}
use borrow.Author.Rules.{rules}
use lib.Dec.{eqb}
use lib.IntN.{pos}
use lib.ListN.{get_or}
use mir.Syntax.{w64}
use mir.Val.{SFits}
use mir.Facts.{to_z-of_z}
use Rattle.months.specs.Months.{zhongqi_of, without}
use Rattle.month_rule.proofs.numbering.without.Goals as goal

pub returns : goal.returns
unfolding without zhongqi_of
returns c =
    let first : SFits w64 (get_or c.args.days.moons c.args.place (pos 0)) = search rules in
    let next : SFits w64 (get_or c.args.days.moons (c.args.place + 1) (pos 0)) = search rules in
    ap (λ (n : ℕ). eqb n 0) (rw (to_z-of_z first, to_z-of_z next) at c.zhongqi_in.ensures)
