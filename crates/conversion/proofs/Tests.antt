-- What the tests of the code tell of the definitions. Assumes nothing.
use mathlib.Core.Path.{◌≡◌}
use mathlib.Core.Bool.{true, false}
use mathlib.Core.List.{[], ◌∷◌}
use native.Mathlib.Omega.{arith}
use lib.IntN.{ℤ, pos, ◌+ℤ◌, ◌-ℤ◌}
use lib.Signed.{le_z}
use mir.Syntax.{w64}
use mir.Val.{SFits}
use Rattle.whole.specs.Solver.{⇑, ⇓, ring}
use Rattle.whole.specs.Tests.{is_exactly, below_range, above_range, says_exactly}

-- ---- the offset after o, compared without a sum
module _ (o o' : ℤ) where
  pub not_more : le_z o' o ≡ true → is_exactly (o +ℤ pos 1) o' ≡ false
  not_more h = let ρ = o ∷ o' ∷ [] in below_range (o +ℤ pos 1) (o +ℤ pos 1) o' (⇑ ρ (search ring) (omega (arith, ⇓ ρ h (search ring))))

  module _ (h : le_z o' o ≡ false) where
    pub one_less_fits : SFits w64 o → SFits w64 o' → SFits w64 (o' -ℤ pos 1)
    one_less_fits f g = let ρ = o ∷ o' ∷ [] in ⇑ ρ (search ring) (omega (arith, ⇓ ρ h (search ring), ⇓ ρ f (search ring), ⇓ ρ g (search ring)))

    pub one_more : le_z (o' -ℤ pos 1) o ≡ true → is_exactly (o +ℤ pos 1) o' ≡ true
    one_more k = let ρ = o ∷ o' ∷ [] in says_exactly (o +ℤ pos 1) o' (⇑ ρ (search ring) (omega (arith, ⇓ ρ h (search ring), ⇓ ρ k (search ring))))

    pub too_much : le_z (o' -ℤ pos 1) o ≡ false → is_exactly (o +ℤ pos 1) o' ≡ false
    too_much k = let ρ = o ∷ o' ∷ [] in above_range (o +ℤ pos 1) (o +ℤ pos 1) o' (⇑ ρ (search ring) (omega (arith, ⇓ ρ k (search ring))))
