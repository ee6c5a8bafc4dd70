-- Laws of `sum`, which adds up the terms of a segment. Assumes nothing.
use Rattle.std.specs.Prelude.{◌≡◌, refl, [], ◌∷◌, ℕ, zero, suc, ◌+◌, ◌*◌, ◌≤◌, ◌<◌, ℤ, pos, nat_abs, ◌+ℤ◌, ◌*ℤ◌}
use Rattle.std.proofs.Common.{ap, ◌∙◌, arith, mul-le-mul_left}
use Rattle.whole.specs.Laws.{abs-+}
use Rattle.whole.specs.Solver.{⇑, ⇓, ring}
use Rattle.chebyshev.specs.Segment.{sum}

-- the same sum over ℕ
unfoldable pub sumℕ : ℕ → ℕ → (ℕ → ℕ) → ℕ
sumℕ first zero term = 0
sumℕ first (suc count) term = sumℕ first count term + term (first + count)

-- Σ n²·|c(n)| over n = 2..13
abbrev pub weights : (ℕ → ℤ) → ℕ
weights c = sumℕ 2 12 (λ (n : ℕ). n * n * nat_abs (c n))

pub sum_pos : (first count : ℕ) (w : ℕ → ℕ) → sum first count (λ (n : ℕ). pos (w n)) ≡ pos (sumℕ first count w)
unfolding sum sumℕ
sum_pos first zero w = refl
sum_pos first (suc count) w = rw (sum_pos first count w) refl

-- if a·f = b·g + d·h at each term, then so are the sums
pub sum_linear : (a b d : ℤ) (first count : ℕ) (f g h : ℕ → ℤ) → ((n : ℕ) → first ≤ n → n < first + count → a *ℤ f n ≡ b *ℤ g n +ℤ d *ℤ h n) → a *ℤ sum first count f ≡ b *ℤ sum first count g +ℤ d *ℤ sum first count h
unfolding sum
sum_linear a b d first zero f g h e = ⇑ (a ∷ b ∷ d ∷ []) (search ring depth 9) refl
sum_linear a b d first (suc count) f g h e =
    let k = first + count in
    let ρ = a ∷ b ∷ d ∷ f k ∷ g k ∷ h k ∷ sum first count f ∷ sum first count g ∷ sum first count h ∷ [] in
    ⇑ ρ (search ring depth 9)
    (omega (
      arith,
      ⇓ ρ (e k (omega arith) (omega arith)) (search ring depth 9),
      ⇓ ρ (sum_linear a b d first count f g h (λ n l m. e n l (omega arith))) (search ring depth 9),
    ))

-- the first term apart
pub sum_first : (count : ℕ) (f : ℕ → ℤ) → sum 1 (suc count) f ≡ f 1 +ℤ sum 2 count f
unfolding sum
sum_first zero f = ⇑ (f 1 ∷ []) (search ring depth 9) refl
sum_first (suc count) f =
    let e : 1 + suc count ≡ 2 + count = omega arith in
    let ρ = sum 1 (suc count) f ∷ f 1 ∷ sum 2 count f ∷ f (2 + count) ∷ [] in
    ap (λ (n : ℕ). sum 1 (suc count) f +ℤ f n) e
    ∙ ⇑ ρ (search ring depth 9) (omega (arith, ⇓ ρ (sum_first count f) (search ring depth 9)))

-- if k·|f| ≤ p·w at each term, then so are the sums
pub sum_weighed : (k p first count : ℕ) (f : ℕ → ℤ) (w : ℕ → ℕ) → ((n : ℕ) → first ≤ n → n < first + count → k * nat_abs (f n) ≤ p * w n) → k * nat_abs (sum first count f) ≤ p * sumℕ first count w
unfolding sum sumℕ
sum_weighed k p first zero f w h = omega arith
sum_weighed k p first (suc count) f w h =
    let i = first + count in
    grow k p (nat_abs (sum first count f +ℤ f i)) (nat_abs (sum first count f)) (nat_abs (f i)) (sumℕ first count w) (w i) (abs-+ (sum first count f) (f i)) (sum_weighed k p first count f w (λ n l m. h n l (omega arith))) (h i (omega arith) (omega arith))
  where
    grow : (k p t a b u v : ℕ) → t ≤ a + b → k * a ≤ p * u → k * b ≤ p * v → k * t ≤ p * (u + v)
    grow k p t a b u v l m n = omega (arith, mul-le-mul_left k l)
