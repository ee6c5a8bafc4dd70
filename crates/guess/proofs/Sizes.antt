-- How large what the leaves answer can be, as rules to list beside `bounds`. Assumes nothing.
use mathlib.Core.List.{[], ◌∷◌}
use Prim.Native.Nat.{ℕ, ◌+◌, ◌*◌, ◌/◌, ◌≤◌, ◌<◌}
use native.Mathlib.Omega.{arith}
use native.Mathlib.Nat.{div-lt_iff_lt-mul, div-le_of_le-mul, mul-le-mul}
use lib.IntN.{ℤ, pos, negsuc, nat_abs, ◌*ℤ◌}
use lib.Signed.{◌≤ℤ◌, ◌<ℤ◌}
use Rattle.whole.specs.Laws.{abs-*}
use Rattle.whole.specs.Solver.{⇑, ⇓, ring}
use Rattle.whole.specs.Floor.{floor_div}
use Rattle.whole.specs.Ranges.{Within, Bound}
use Rattle.guess.specs.Sizes.{Raised, Doubled}

-- ---- a number kept in a range
abbrev pub bound_raised : {least a r : ℤ} → Raised least a r → Bound least → Bound a → Bound r
bound_raised {least} {a} {r} h x y = record { bound = x.bound + y.bound; holds = omega (arith, h.small, x.holds, y.holds) }

pub doubled_positive : {a : ℤ} → pos 1 ≤ℤ a → pos 0 <ℤ (pos 2 *ℤ a)
doubled_positive {a} h = let ρ = a ∷ [] in ⇑ ρ (search ring) (omega (arith, ⇓ ρ h (search ring)))

-- ---- a product by a place
-- a quotient is as much smaller as the divisor is larger
pub floor_small : (z : ℤ) (m n : ℕ) → 0 < m → nat_abs z ≤ n * m → nat_abs (floor_div z m) ≤ n
unfolding floor_div
floor_small (pos a) m n p h = div-le_of_le-mul m (omega arith)
floor_small (negsuc a) m n p h = let l : a / m < n = (div-lt_iff_lt-mul {k = m} {x = a} {y = n} p).1 (omega arith) in omega arith

pub doubled : (a place : ℤ) → Within 2097152 place → Doubled a (floor_div (a *ℤ place) 1048576)
doubled a place h =
    let m = mul-le-mul {n₁ = nat_abs a} {m₁ = nat_abs place} {n₂ = nat_abs a} {m₂ = 2097152} (omega arith) h.within in
    record { small = floor_small (a *ℤ place) 1048576 (2 * nat_abs a) (omega arith) (rw (abs-* a place) (omega arith)) }

abbrev pub bound_doubled : {a r : ℤ} → Doubled a r → Bound a → Bound r
bound_doubled {a} {r} h x = record { bound = 2 * x.bound; holds = omega (arith, h.small, x.holds) }
