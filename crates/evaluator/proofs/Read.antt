-- A coefficient of a segment in range, read back from the bits that a local holds. Assumes nothing.
use mathlib.Core.Path.{◌≡◌}
use mathlib.Core.List.{List}
use Prim.Native.Nat.{ℕ, ◌≤◌}
use lib.IntN.{ℤ}
use mir.Syntax.{w64}
use mir.Val.{to_z, of_z}
use mir.Facts.{to_z-of_z}
use Rattle.whole.specs.Ranges.{fit_hyp}
use Rattle.chebyshev.specs.Segment.{coefficient, InRange}

pub coefficient_back : {c : List ℤ} → InRange c → (n : ℕ) → 1 ≤ n → to_z w64 (of_z w64 (coefficient c n)) ≡ coefficient c n
coefficient_back r n l = to_z-of_z {w = w64} (fit_hyp (r.others n l) tt)

pub constant_back : {c : List ℤ} → InRange c → to_z w64 (of_z w64 (coefficient c 0)) ≡ coefficient c 0
constant_back r = to_z-of_z {w = w64} (fit_hyp r.constant tt)
