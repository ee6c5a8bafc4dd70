-- Worked goals: one of each kind that the solver and the ranges close in a line or two. `docs/PROVING.md` explains them. Assumes nothing.
use Rattle.std.specs.Prelude.{◌≡◌, refl, List, [], ◌∷◌, ℕ, zero, suc, ◌*◌, ℤ, pos, negsuc, neg_ℤ, ◌+ℤ◌, ◌-ℤ◌, ◌*ℤ◌, get_or}
use Rattle.std.proofs.Common.{arith, SFits}
use Rattle.std.specs.Int.{w64}
use Rattle.whole.specs.Parts.{◌⩽◌, ◌≺◌}
use Rattle.whole.specs.Laws.{sq_nonneg}
use Rattle.whole.specs.Solver.{⇑, ⇓, ring}
use Rattle.whole.specs.Ranges.{Within, All, fits, within≤, bounds}
use Rattle.whole.specs.Floor.{floor_div, floor_mod}

-- a linear goal: 6 variables, 5 hypotheses
linear : (a b c d e f : ℤ) → a +ℤ b ⩽ c -ℤ d → c ⩽ e +ℤ pos 7 → pos 2 *ℤ d ⩽ f -ℤ a → neg_ℤ f ⩽ b -ℤ pos 3 → e ≺ a +ℤ d → pos 2 *ℤ a +ℤ b +ℤ pos 3 *ℤ d ≺ e +ℤ pos 2 *ℤ f +ℤ pos 11
linear a b c d e f h₁ h₂ h₃ h₄ h₅ =
    let ρ = a ∷ b ∷ c ∷ d ∷ e ∷ f ∷ [] in
    ⇑ ρ (search ring depth 12) (omega (arith, ⇓ ρ h₁ (search ring), ⇓ ρ h₂ (search ring), ⇓ ρ h₃ (search ring), ⇓ ρ h₄ (search ring), ⇓ ρ h₅ (search ring)))

-- identities: degree 4 in 4 variables (Brahmagupta), degree 4 in 8 variables (Euler)
sum_of_two_squares : (a b c d : ℤ) → (a *ℤ a +ℤ b *ℤ b) *ℤ (c *ℤ c +ℤ d *ℤ d) ≡ (a *ℤ c -ℤ b *ℤ d) *ℤ (a *ℤ c -ℤ b *ℤ d) +ℤ (a *ℤ d +ℤ b *ℤ c) *ℤ (a *ℤ d +ℤ b *ℤ c)
sum_of_two_squares a b c d = ⇑ (a ∷ b ∷ c ∷ d ∷ []) (search ring depth 12) refl

sum_of_four_squares : (a b c d e f g h : ℤ) → (a *ℤ a +ℤ b *ℤ b +ℤ c *ℤ c +ℤ d *ℤ d) *ℤ (e *ℤ e +ℤ f *ℤ f +ℤ g *ℤ g +ℤ h *ℤ h) ≡ (a *ℤ e +ℤ b *ℤ f +ℤ c *ℤ g +ℤ d *ℤ h) *ℤ (a *ℤ e +ℤ b *ℤ f +ℤ c *ℤ g +ℤ d *ℤ h) +ℤ (a *ℤ f -ℤ b *ℤ e +ℤ c *ℤ h -ℤ d *ℤ g) *ℤ (a *ℤ f -ℤ b *ℤ e +ℤ c *ℤ h -ℤ d *ℤ g) +ℤ (a *ℤ g -ℤ b *ℤ h -ℤ c *ℤ e +ℤ d *ℤ f) *ℤ (a *ℤ g -ℤ b *ℤ h -ℤ c *ℤ e +ℤ d *ℤ f) +ℤ (a *ℤ h +ℤ b *ℤ g -ℤ c *ℤ f -ℤ d *ℤ e) *ℤ (a *ℤ h +ℤ b *ℤ g -ℤ c *ℤ f -ℤ d *ℤ e)
sum_of_four_squares a b c d e f g h = ⇑ (a ∷ b ∷ c ∷ d ∷ e ∷ f ∷ g ∷ h ∷ []) (search ring depth 20) refl

-- a goal that is not linear: hand `omega` the square that is not negative
mean : (a b : ℤ) → pos 2 *ℤ a *ℤ b ⩽ a *ℤ a +ℤ b *ℤ b
mean a b = let ρ = a ∷ b ∷ [] in ⇑ ρ (search ring depth 9) (omega (arith, ⇓ ρ (sq_nonneg (a -ℤ b)) (search ring depth 9)))

-- a product fits
product_fits : (a b : ℤ) → Within 4000000000 a → Within 70000000 b → SFits w64 (a *ℤ b)
product_fits a b h k = fits (search bounds) tt

-- a sum over a list with bounded elements (`worked::total` runs it in a loop)
unfoldable pub sum_to : List ℤ → ℕ → ℤ
sum_to xs zero = pos 0
sum_to xs (suc n) = sum_to xs n +ℤ get_or xs n (pos 0)

pub sum_within : {m : ℕ} {xs : List ℤ} → All m xs → (n : ℕ) → Within (n * m) (sum_to xs n)
unfolding sum_to
sum_within h zero = within≤ (search bounds) (omega arith)
sum_within h (suc n) = let before = sum_within h n in let one = h.each n in within≤ (search bounds) (omega arith)

-- floor division: by a numeral it computes, otherwise by its laws
rounded_down : floor_div (negsuc 6) 4 ≡ negsuc 1
unfolding floor_div
rounded_down = refl

never_negative : floor_mod (negsuc 6) 4 ≡ 1
unfolding floor_mod
never_negative = refl
