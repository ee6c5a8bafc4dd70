-- `content::month::handle_after` meets its contract. Assumes nothing.
use mathlib.Core.Path.{◌≡◌, ◌∙◌}
use mathlib.Core.Bool.{true, false}
use mir.Syntax.{w64}
use mir.Val.{SFits}
use lib.IntN.{pos, ◌+ℤ◌, ◌*ℤ◌}
use mir.Facts.{to_z-of_z}
use Rattle.whole.specs.Ranges.{fits, bounds, bound_back, back}
use Rattle.whole.specs.Tests.{is_exactly}
use Rattle.content.specs.theory.Judged.{after_twelfth}
use Rattle.content.proofs.theory.Judged.{same_bits, other_bits, after_other}
use Rattle.content.proofs.month.handle_after.Goals as goal
use Rattle.content.proofs.month.handle_after.Goals.{Start, Then-h-year, Else-h-year}

pub overflow_mul-year : goal.overflow_mul-year
overflow_mul-year c = let fy = c.ranges.year in fits (search bounds) tt

pub overflow_add-year : goal.overflow_add-year
overflow_add-year c = let fy = c.ranges.year in fits (search (bounds, bound_back (overflow_mul-year c))) tt

-- the twelfth handle as the code makes it
made : (c : Start) → SFits w64 (pos 32 *ℤ c.args.year +ℤ pos 24)
made c = fits (search bounds) tt

is_twelfth : (c : Then-h-year) → (let a = c.args in is_exactly (pos 32 *ℤ a.year +ℤ pos 24) a.h ≡ true)
is_twelfth c =
    let fy = c.ranges.year in
    let fm = overflow_mul-year c.before in
    same_bits (pos 32 *ℤ c.args.year +ℤ pos 24) c.args.h (made c.before) c.ranges.h (rw (to_z-of_z fm, to_z-of_z fy) at c.if-h-year.true)

not_twelfth : (c : Else-h-year) → (let a = c.args in is_exactly (pos 32 *ℤ a.year +ℤ pos 24) a.h ≡ false)
not_twelfth c =
    let fy = c.ranges.year in
    let fm = overflow_mul-year c.before in
    other_bits (pos 32 *ℤ c.args.year +ℤ pos 24) c.args.h (rw (to_z-of_z fm, to_z-of_z fy) at c.if-h-year.false)

pub subtract-requires : goal.subtract-requires
subtract-requires c = let fh = c.ranges.h in rw (to_z-of_z fh) (fits (search bounds) tt)

pub returns-then-h-year : goal.returns-then-h-year
returns-then-h-year c =
    let fh = c.ranges.h in
    back c.subtract.result c.subtract.type_inv ∙ (rw (to_z-of_z fh) at c.subtract.ensures) ∙ after_twelfth c.args.year c.args.h (is_twelfth (goal.at.returns-then-h-year c).Then-h-year)

pub add-requires : goal.add-requires
add-requires c = let fh = c.ranges.h in rw (to_z-of_z fh) (fits (search bounds) tt)

pub returns : goal.returns
returns c =
    let fh = c.ranges.h in
    back c.add.result c.add.type_inv ∙ (rw (to_z-of_z fh) at c.add.ensures) ∙ after_other c.args.year c.args.h (not_twelfth (goal.at.returns c).Else-h-year)
