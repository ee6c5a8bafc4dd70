-- One turn of a loop that adds up terms f(n) from n = 1 to below `end`, over ℤ: what the sum is, and that it fits. Assumes nothing.
use mathlib.Core.Path.{◌≡◌, refl, ap, ◌∙◌}
use mathlib.Core.List.{[], ◌∷◌}
use Prim.Native.Nat.{ℕ, suc, ◌+◌, ◌-◌, ◌≤◌, ◌<◌}
use native.Mathlib.Omega.{arith}
use lib.IntN.{ℤ, nat_abs, ◌+ℤ◌}
use mir.Syntax.{w64}
use mir.Val.{SFits}
use Rattle.whole.specs.Laws.{abs-+}
use Rattle.whole.specs.Ranges.{Within, fit_hyp}
use Rattle.whole.specs.Solver.{⇑, ⇓, ring}
use Rattle.chebyshev.specs.Segment.{sum}
use Rattle.analysis.specs.theory.Bounds.{sum_within}

-- what is held before the turn at n: the start and the terms below n
pub record Running (end : ℕ) (start : ℤ) (f : ℕ → ℤ) (total : ℤ) (n : ℕ) : Type 0 where
  pub low : 1 ≤ n
  pub high : n ≤ end
  pub is : total ≡ start +ℤ sum 1 (n - 1) f

sum_at : (f : ℕ → ℤ) (n : ℕ) → 1 ≤ n → sum 1 n f ≡ sum 1 (n - 1) f +ℤ f n
unfolding sum
sum_at f n l = ap (λ (k : ℕ). sum 1 k f) e ∙ ap (λ (k : ℕ). sum 1 (n - 1) f +ℤ f k) k
  where
    e : n ≡ suc (n - 1)
    e = omega arith

    k : 1 + (n - 1) ≡ n
    k = omega arith

module _ {end : ℕ} {start : ℤ} {f : ℕ → ℤ} where
  pub running_start : 1 ≤ end → Running end start f start 1
  unfolding sum
  running_start h = record { low = omega arith; high = omega arith; is = ⇑ (start ∷ []) (search ring depth 9) refl }

  module _ {total : ℤ} {n : ℕ} (h : Running end start f total n) where
    pub running_end : end ≤ n → total ≡ start +ℤ sum 1 (end - 1) f
    running_end l = h.is ∙ ap (λ (k : ℕ). start +ℤ sum 1 k f) (omega (arith, h.high))

    module _ (l : n < end) where
      more : total +ℤ f n ≡ start +ℤ sum 1 n f
      more =
          let ρ = total ∷ start ∷ sum 1 (n - 1) f ∷ sum 1 n f ∷ f n ∷ [] in
          ⇑ ρ (search ring depth 9) (omega (arith, ⇓ ρ h.is (search ring depth 9), ⇓ ρ (sum_at f n h.low) (search ring depth 9)))

      pub running_turn : Running end start f (total +ℤ f n) (n + 1)
      running_turn = record { low = omega arith; high = omega arith; is = more ∙ ap (λ (k : ℕ). start +ℤ sum 1 k f) (omega arith) }

      -- |start| ≤ 10¹⁵ and |f(n)| ≤ 10¹² keep every sum inside 64 bits
      pub running_fits : end ≤ 14 → Within 1000000000000000 start → ((k : ℕ) → 1 ≤ k → k < end → nat_abs (f k) ≤ 1000000000000) → SFits w64 (total +ℤ f n)
      running_fits few s each = rw more (fit_hyp small tt)
        where
          small : Within 1013000000000000 (start +ℤ sum 1 n f)
          small = record { within = omega (arith, abs-+ start (sum 1 n f), s.within, sum_within 1 n 1000000000000 f (λ k i j. each k i (omega arith))) }
