-- `evaluator::inner::next` meets its contract. Assumes nothing.
use mathlib.Core.Path.{◌≡◌, refl, ap, ◌∙◌}
use mathlib.Core.List.{[], ◌∷◌}
use native.Mathlib.Omega.{arith}
use lib.IntN.{ℤ, pos, ◌*ℤ◌}
use Rattle.whole.specs.Ranges.{fits, within, bounds, bound_back, bound_eq}
use Rattle.whole.specs.Floor.{floor_div}
use Rattle.whole.proofs.Floor.{bound_floor}
use Rattle.whole.specs.Solver.{⇑, ⇓, ring, value_of}
use Rattle.chebyshev.specs.Polynomials.{S}
use Rattle.evaluator.proofs.inner.next.Goals as goal
use Rattle.evaluator.proofs.inner.next.Goals.{After-floor_of_step}

pub overflow_mul-x : goal.overflow_mul-x
overflow_mul-x c = fits (search bounds) tt

pub overflow_mul-x-2 : goal.overflow_mul-x-2
overflow_mul-x-2 c = fits (search (bounds, bound_back (overflow_mul-x c))) tt

pub floor_of_step-requires : goal.floor_of_step-requires
floor_of_step-requires c = within (search (bounds, bound_back (overflow_mul-x c), bound_back (overflow_mul-x-2 c))) tt

-- what the call gives, in terms of the parameters
is : (c : After-floor_of_step) → c.floor_of_step.result ≡ floor_div (pos 2 *ℤ c.before.args.x *ℤ c.before.args.here) S
is c =
    let ρ = c.before.args.x ∷ c.before.args.here ∷ [] in
    c.floor_of_step.ensures ∙ ap (λ (z : ℤ). floor_div z S) (⇑ ρ (search (ring, value_of ρ (overflow_mul-x c.before), value_of ρ (overflow_mul-x-2 c.before)) depth 12) refl)

pub overflow_sub-result : goal.overflow_sub-result
overflow_sub-result c = fits (search (bounds, bound_floor, bound_eq (is c)) depth 9) tt

pub returns : goal.returns
returns c =
    let ρ = c.floor_of_step.result ∷ c.before.args.before ∷ c.before.args.here ∷ floor_div (pos 2 *ℤ c.before.args.x *ℤ c.before.args.here) S ∷ [] in
    ⇑ ρ (search (ring, value_of ρ (overflow_sub-result c)) depth 9) (omega (arith, ⇓ ρ (is c) (search ring)))
