-- `suis::inner::days_after` meets its contract: the parts of the lists that begin at the sui are what `days_from` asks for. Assumes nothing.
use mathlib.Core.Path.{◌≡◌}
use mathlib.Core.List.{List}
use Prim.Native.Nat.{ℕ, ◌+◌, ◌-◌, ◌*◌}
use native.Mathlib.Omega.{arith}
use lib.IntN.{ℤ}
use lib.ListN.{length, take, drop, length-drop}
use lib.Seq.{take_all}
use mir.Facts.{to_z-of_z}
use Rattle.suis.proofs.inner.days_after.Goals as goal

-- the rest of a list, as a part of it
rest : (l : List ℤ) (k : ℕ) → take (length l - k) (drop k l) ≡ drop k l
rest l k = take_all (length l - k) (drop k l) (omega (arith, length-drop k l))

thirteen : (j : ℕ) → 13 * j + 13 - 13 * j ≡ 13
thirteen j = omega arith

pub days_from-requires : goal.days_from-requires
days_from-requires c =
    let a = c.args in
    rw (to_z-of_z c.ranges.zone, to_z-of_z c.ranges.year, rest a.solstices.now a.j, rest a.newmoons.now a.from, thirteen a.j) c.requires.ahead

pub returns : goal.returns
returns c = rw (to_z-of_z c.ranges.zone, to_z-of_z c.ranges.year) at c.days_from.ensures
