-- One turn of the evaluator's loop over ℤ: what is held before it, what it makes of that, and that everything fits. Assumes nothing.
use mathlib.Core.Path.{◌≡◌, refl, sym, ap, ◌∙◌}
use mathlib.Core.List.{List, [], ◌∷◌}
use Prim.Native.Nat.{ℕ, zero, suc, ◌+◌, ◌-◌, ◌≤◌, ◌<◌}
use native.Mathlib.Omega.{arith}
use lib.IntN.{ℤ, pos, ◌+ℤ◌, ◌-ℤ◌, ◌*ℤ◌}
use mir.Syntax.{w64}
use mir.Val.{SFits}
use Rattle.whole.specs.Floor.{floor_div}
use Rattle.whole.proofs.Floor.{bound_floor}
use Rattle.whole.specs.Ranges.{Within, fits, fit_hyp, bounds}
use Rattle.whole.specs.Solver.{⇑, ring}
use Rattle.chebyshev.specs.Polynomials.{S, P}
use Rattle.chebyshev.specs.Segment.{coefficient, sum, InRange, value}
use Rattle.analysis.specs.theory.Bounds.{partial, partial_next, partial_small, P_next, P_small}

-- what is held before the turn at n: P(n-2), P(n-1) and the sum up to n - 1
pub record Held (c : List ℤ) (x before here total : ℤ) (n : ℕ) : Type 0 where
  pub low : 2 ≤ n
  pub high : n ≤ 14
  pub is_before : before ≡ P S x (n - 2)
  pub is_here : here ≡ P S x (n - 1)
  pub is_total : total ≡ partial c x (n - 1)

P_at : (x : ℤ) (n : ℕ) → 2 ≤ n → P S x n ≡ floor_div (pos 2 *ℤ x *ℤ P S x (n - 1)) S -ℤ P S x (n - 2)
P_at x zero l = absurd (omega arith)
P_at x (suc zero) l = absurd (omega arith)
P_at x (suc (suc n)) l = P_next x n ∙ rw (e₁, e₂) refl
  where
    e₁ : suc (suc n) - 1 ≡ suc n
    e₁ = omega arith

    e₂ : suc (suc n) - 2 ≡ n
    e₂ = omega arith

partial_at : (c : List ℤ) (x : ℤ) (n : ℕ) → 1 ≤ n → partial c x n ≡ partial c x (n - 1) +ℤ coefficient c n *ℤ P S x n
partial_at c x zero l = absurd (omega arith)
partial_at c x (suc n) l = partial_next c x n ∙ rw e refl
  where
    e : suc n - 1 ≡ n
    e = omega arith

module _ {c : List ℤ} {x : ℤ} (r : InRange c) (w : Within S x) where
  pub held_start : Held c x (pos S) x (coefficient c 1 *ℤ x) 2
  unfolding sum P
  held_start = record { low = omega arith; high = omega arith; is_before = refl; is_here = refl; is_total = ⇑ (coefficient c 1 ∷ x ∷ []) (search ring depth 9) refl }

  module _ {before here total : ℤ} {n : ℕ} (h : Held c x before here total n) where
    pub before_small : Within 66355278 before
    before_small = rw h.is_before (P_small w (n - 2) (omega (arith, h.high)))

    pub here_small : Within 66355278 here
    here_small = rw h.is_here (P_small w (n - 1) (omega (arith, h.high)))

    pub total_small : Within 3450474456000000000 total
    total_small = rw h.is_total (partial_small r w (n - 1) (omega (arith, h.high)))

    pub held_end : 14 ≤ n → coefficient c 0 +ℤ floor_div total S ≡ value c x
    unfolding value
    held_end l = rw (h.is_total, e) refl
      where
        e : n - 1 ≡ 13
        e = omega (arith, h.high)

    module _ (l : n < 14) {after : ℤ} (e : after ≡ floor_div (pos 2 *ℤ x *ℤ here) S -ℤ before) where
      is_after : after ≡ P S x n
      is_after = e ∙ rw (h.is_here, h.is_before) (sym (P_at x n h.low))

      pub after_small : Within 66355278 after
      after_small = rw is_after (P_small w n (omega arith))

      pub product_fits : SFits w64 (coefficient c n *ℤ after)
      product_fits = let a = after_small in let b = r.others n (omega (arith, h.low)) in fits (search bounds) tt

      is_sum : total +ℤ coefficient c n *ℤ after ≡ partial c x n
      is_sum = rw (h.is_total, is_after) (sym (partial_at c x n (omega (arith, h.low))))

      pub sum_fits : SFits w64 (total +ℤ coefficient c n *ℤ after)
      sum_fits = rw is_sum (fit_hyp (partial_small r w n (omega arith)) tt)

      pub held_turn : Held c x here after (total +ℤ coefficient c n *ℤ after) (n + 1)
      held_turn = record { low = omega (arith, h.low); high = omega arith; is_before = h.is_here ∙ ap (P S x) (omega arith); is_here = is_after ∙ ap (P S x) (omega arith); is_total = is_sum ∙ ap (partial c x) (omega arith) }

    pub result_fits : SFits w64 (coefficient c 0 +ℤ floor_div total S)
    result_fits = let a = total_small in let b = r.constant in fits (search (bounds, bound_floor)) tt
