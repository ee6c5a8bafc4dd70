-- Rounding down by an unsigned division: a multiple k·m of the divisor m is added first, and k is taken back after. One law for every k and m.
-- Assumes nothing.
use mathlib.Core.Path.{◌≡◌, refl, sym, ap, subst, ◌∙◌}
use mathlib.Core.List.{[], ◌∷◌}
use Prim.Native.Nat.{ℕ, ◌+◌, ◌*◌, ◌/◌, ◌≤◌, ◌<◌}
use native.Mathlib.Omega.{arith}
use native.Mathlib.Nat.{div-le_self}
use lib.IntN.{ℤ, pos, negsuc, nat_abs, ◌+ℤ◌, ◌-ℤ◌, ◌*ℤ◌}
use lib.Signed.{◌≤ℤ◌, non_neg}
use lib.Dec.{T}
use mir.Syntax.{w64}
use mir.Val.{SFits, Fits, to_z, of_z}
use mir.Facts.{to_z-of_z}
use Rattle.whole.specs.Laws.{abs-+}
use Rattle.whole.specs.Floor.{floor_div}
use Rattle.whole.proofs.Floor.{floor_div_add, floor_div_fits}
use Rattle.whole.specs.Ranges.{Within, fits<, bounds, within→, cast_need}
use Rattle.whole.specs.Solver.{⇑, ring}

floor_of_nonneg : (z : ℤ) (m : ℕ) → pos 0 ≤ℤ z → floor_div z m ≡ pos (nat_abs z / m)
unfolding floor_div
floor_of_nonneg (pos a) m h = refl
floor_of_nonneg (negsuc a) m h = absurd h.le

floor_shifted : (t : ℤ) (k m : ℕ) → 0 < m → pos 0 ≤ℤ (t +ℤ pos k *ℤ pos m) → pos (nat_abs (t +ℤ pos k *ℤ pos m) / m) -ℤ pos k ≡ floor_div t m
floor_shifted t k m h l =
    let ρ = floor_div t m ∷ pos k ∷ [] in
    ap (λ (z : ℤ). z -ℤ pos k) (sym (floor_of_nonneg (t +ℤ pos k *ℤ pos m) m l) ∙ floor_div_add t (pos k) m h)
    ∙ ⇑ ρ (search ring depth 9) refl

-- what each operation asks, and what the result is: |t| ≤ n, n ≤ k·m, n + k·m < 2^63
module _ {n : ℕ} {t : ℤ} (w : Within n t) (f : SFits w64 t) (k m : ℕ) (h : 0 < m) (low : n ≤ k * m) (high : n + k * m < 9223372036854775808) where
  abbrev read : ℤ
  read = to_z w64 (of_z w64 t) +ℤ pos (k * m)

  pub sum_fits : SFits w64 read
  sum_fits = rw (to_z-of_z f) (fits< (search bounds) (omega arith))

  not_negative : pos 0 ≤ℤ (t +ℤ pos (k * m))
  not_negative = let ρ = t ∷ pos k ∷ pos m ∷ [] in ⇑ ρ (search ring depth 9) (omega (arith, within→ w))

  lifted : to_z w64 (of_z w64 read) ≡ t +ℤ pos (k * m)
  lifted = to_z-of_z sum_fits ∙ ap (λ (z : ℤ). z +ℤ pos (k * m)) (to_z-of_z f)

  small : nat_abs (t +ℤ pos (k * m)) ≤ n + k * m
  small = omega (arith, abs-+ t (pos (k * m)), w.within)

  pub cast_fits : T (non_neg (to_z w64 (of_z w64 read))) × Fits w64 (nat_abs (to_z w64 (of_z w64 read)))
  cast_fits = cast_need tt sum_fits (rw (to_z-of_z f) not_negative)

  pub quotient_fits : SFits w64 (pos (nat_abs (to_z w64 (of_z w64 read)) / m))
  quotient_fits = rw lifted (record { sfits = omega (arith, small, div-le_self (nat_abs (t +ℤ pos (k * m))) m) })

  pub result_fits : SFits w64 (to_z w64 (of_z w64 (pos (nat_abs (to_z w64 (of_z w64 read)) / m))) -ℤ pos k)
  result_fits = rw (to_z-of_z quotient_fits, lifted) (subst (SFits w64) (sym (floor_shifted t k m h not_negative)) (floor_div_fits m f))

  pub result_is : to_z w64 (of_z w64 (to_z w64 (of_z w64 (pos (nat_abs (to_z w64 (of_z w64 read)) / m))) -ℤ pos k)) ≡ floor_div t m
  result_is = to_z-of_z result_fits ∙ rw (to_z-of_z quotient_fits, lifted) (floor_shifted t k m h not_negative)
