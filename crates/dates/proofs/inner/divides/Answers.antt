-- `dates::inner::divides` meets its contract. Assumes nothing.
use Prim.Native.Nat.{ℕ, zero, suc}
use mathlib.Core.Path.{◌≡◌, refl, sym, ◌∙◌}
use native.Mathlib.Omega.{arith}
use borrow.Author.Tests.{ne_eqb, le-ltb}
use lib.IntN.{pos, nat_abs}
use lib.Signed.{lt_z}
use lib.Dec.{eqb}
use mir.Facts.{to_z-of_z}
use Rattle.whole.specs.Ranges.{back}
use Rattle.whole.specs.Floor.{floor_mod}
use Rattle.dates.proofs.inner.divides.Goals as goal

less_than_one : (k : ℕ) → lt_z (pos k) (pos 1) ≡ eqb k 0
less_than_one zero = refl
less_than_one (suc k) = le-ltb (suc k) 1 (omega arith) ∙ sym (ne_eqb (suc k) 0 (λ q. omega arith))

pub returns : goal.returns
returns c =
    let start = c.before in
    let rest = rw (to_z-of_z start.ranges.y, to_z-of_z start.ranges.m) at c.floor_mod.ensures in
    rw (back c.floor_mod.result c.floor_mod.type_inv, rest) (less_than_one (floor_mod start.args.y (nat_abs start.args.m)))
