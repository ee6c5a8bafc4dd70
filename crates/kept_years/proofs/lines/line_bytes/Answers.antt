-- `kept_years::lines::line_bytes` meets its contract. Assumes nothing.
use mathlib.Core.Path.{◌≡◌, ◌∙◌}
use mathlib.Core.Bool.{Bool}
use mathlib.Core.List.{List}
use Prim.Native.Nat.{ℕ}
use lib.IntN.{ℤ, nat_abs}
use mir.Syntax.{w64}
use mir.Val.{SFits}
use mir.Facts.{to_z-of_z}
use Rattle.kept_years.specs.KeptYears.{is_among, row, line}
use borrow.Author.Rules.{rules}
use Rattle.kept_years.proofs.lines.line_bytes.Goals as goal

line_is : (year : ℤ) (years : List ℤ) {size : ℕ} {kept : Bool} → size ≡ nat_abs year → kept ≡ is_among year years → row size kept ≡ line year years
unfolding line
line_is year years e f = rw (e, f)

pub returns : goal.returns
returns c =
    let a = c.args in
    let fy : SFits w64 a.year = search rules in
    c.row_bytes.ensures ∙ line_is a.year a.years.now (rw (to_z-of_z fy) at c.absolute.ensures) (rw (to_z-of_z fy) at c.is_among.ensures)
