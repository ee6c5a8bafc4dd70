-- `content::month::good_days` meets its contract. Assumes nothing.
use mathlib.Core.Path.{◌≡◌, sym, ◌∙◌}
use mathlib.Core.Bool.{true}
use mathlib.Core.List.{[], ◌∷◌}
use native.Mathlib.Omega.{arith}
use lib.IntN.{pos, ◌+ℤ◌}
use mir.Facts.{to_z-of_z}
use Rattle.whole.specs.Ranges.{Within, fits, bounds, back}
use Rattle.whole.specs.Solver.{⇑, ⇓, ring}
use Rattle.whole.specs.Tests.{in_range, is_exactly, in_range_says, exactly_says}
use Rattle.content.proofs.theory.Judged.{same_bits, other_bits, not_due, length_bad, last_decides}
use Rattle.content.proofs.month.good_days.Goals as goal
use Rattle.content.proofs.month.good_days.Goals.{After-add-behind, After-in_range, Else-first-due, Else-not-in_range}

due_passed : (c : Else-first-due) → (let a = c.args in is_exactly a.due a.first ≡ true)
due_passed c = same_bits c.args.due c.args.first c.ranges.due c.ranges.first c.if-first-due.false

is_long : (c : After-in_range) → (let a = c.args in c.in_range.result ≡ in_range (pos 29) (pos 30) a.size)
is_long c = let fs = c.ranges.size in rw (to_z-of_z fs) at c.in_range.ensures

length_passed : (c : Else-not-in_range) → (let a = c.args in in_range (pos 29) (pos 30) a.size ≡ true)
length_passed c = sym (is_long c.before) ∙ c.if-not-in_range.false

first_small : (c : Else-not-in_range) → Within 1000000 c.args.first
first_small c = rw (exactly_says c.args.due c.args.first (due_passed c.before.before)) c.requires

length_small : (c : Else-not-in_range) → Within 30 c.args.size
length_small c =
    let n = c.args.size in
    let r = in_range_says (pos 29) (pos 30) n (length_passed c) in
    let ρ = n ∷ [] in
    record { within = ⇑ ρ (search ring) (omega (arith, ⇓ ρ r.0 (search ring), ⇓ ρ r.1 (search ring))) }

behind : (c : After-add-behind) → (let a = c.args in c.add-behind.result ≡ a.first +ℤ a.size)
behind c =
    let ff = c.ranges.first in
    let fs = c.ranges.size in
    rw (to_z-of_z ff, to_z-of_z fs) at c.add-behind.ensures

pub returns-then-first-due : goal.returns-then-first-due
returns-then-first-due c =
    let a = c.args in
    not_due a.due a.first a.size (other_bits a.due a.first c.if-first-due.true)

pub returns-then-not-in_range : goal.returns-then-not-in_range
returns-then-not-in_range c =
    let a = c.args in
    length_bad a.due a.first a.size (due_passed (goal.at.returns-then-not-in_range c).Else-first-due) (sym (is_long (goal.at.returns-then-not-in_range c).After-in_range) ∙ c.if-not-in_range.true)

pub add-behind-requires : goal.add-behind-requires
add-behind-requires c =
    let ff = c.ranges.first in
    let fs = c.ranges.size in
    let first = first_small (goal.at.add-behind-requires c).Else-not-in_range in
    let size = length_small (goal.at.add-behind-requires c).Else-not-in_range in
    rw (to_z-of_z ff, to_z-of_z fs) (fits (search bounds) tt)

pub subtract-requires : goal.subtract-requires
subtract-requires c =
    let first = first_small (goal.at.subtract-requires c).Else-not-in_range in
    let size = length_small (goal.at.subtract-requires c).Else-not-in_range in
    rw (back c.add-behind.result c.add-behind.type_inv, behind (goal.at.subtract-requires c).After-add-behind) (fits (search bounds) tt)

pub returns : goal.returns
returns c =
    let a = c.args in
    (rw (back c.subtract.result c.subtract.type_inv, c.subtract.ensures, back c.add-behind.result c.add-behind.type_inv, behind (goal.at.returns c).After-add-behind) at c.has_date.ensures)
    ∙ last_decides a.due a.first a.size (due_passed (goal.at.returns c).Else-first-due) (length_passed (goal.at.returns c).Else-not-in_range)
