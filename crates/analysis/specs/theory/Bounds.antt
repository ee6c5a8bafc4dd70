-- How large the rounded polynomials and the sum over them grow inside a segment: what keeps the evaluator in 64 bits. Assumes nothing.
use Rattle.std.specs.Prelude.{◌≡◌, ℕ, zero, suc, ◌+◌, ◌*◌, ◌≤◌, ◌<◌, ℤ, negsuc, ◌+ℤ◌, ◌-ℤ◌, ◌*ℤ◌}
use Rattle.std.proofs.Math.Path.{refl}
use Rattle.std.proofs.Common.{ap, mul-le-mul}
use mathlib.Core.List.{List, [], ◌∷◌}
use native.Mathlib.Omega.{arith}
use Rattle.std.proofs.Math.IntN.{pos, nat_abs}
use Rattle.whole.specs.Parts.{◌⩽◌}
use Rattle.whole.specs.Laws.{abs-+, abs-*_le, abs→}
use Rattle.whole.specs.Solver.{⇓, ring}
use Rattle.whole.specs.Floor.{floor_div}
use Rattle.whole.specs.Ranges.{Within}
use Rattle.chebyshev.specs.Polynomials.{S, P}
use Rattle.chebyshev.specs.Segment.{coefficient, sum, allowance, InRange, slope}
use Rattle.chebyshev.specs.EndValues.{even_sum, odd_sum, square_sum}
use Rattle.analysis.specs.theory.Rounding.{P_within}
use Rattle.analysis.specs.theory.Sums.{weights, sum_pos}

-- |P(n)| ≤ S + 78 for n ≤ 13
pub P_small : {x : ℤ} → Within S x → (n : ℕ) → n ≤ 13 → Within 66355278 (P S x n)
P_small {x} h zero l = record { within = unfold P in omega arith }
P_small {x} h (suc n) l = record { within = omega (arith, P_within S x (omega arith) h.within n, mul-le-mul {n₁ = n} {m₁ = suc n} {n₂ = 12} {m₂ = 13} (omega arith) (omega arith)) }

-- a sum is at most as many times the bound of its terms as it has terms
pub sum_within : (first count b : ℕ) (f : ℕ → ℤ) → ((n : ℕ) → first ≤ n → n < first + count → nat_abs (f n) ≤ b) → nat_abs (sum first count f) ≤ count * b
unfolding sum
sum_within first zero b f h = omega arith
sum_within first (suc count) b f h = omega (arith, abs-+ (sum first count f) (f (first + count)), h (first + count) (omega arith) (omega arith), sum_within first count b f (λ n k l. h n k (omega arith)))

-- the sum of c(n)·P(n) over n = 1..m
abbrev pub partial : List ℤ → ℤ → ℕ → ℤ
partial c x m = sum 1 m (λ (n : ℕ). coefficient c n *ℤ P S x n)

pub partial_small : {c : List ℤ} {x : ℤ} → InRange c → Within S x → (m : ℕ) → m ≤ 13 → Within 3450474456000000000 (partial c x m)
partial_small {c} {x} r h m l =
    record { within = omega (arith, sum_within 1 m 265421112000000000 (λ (n : ℕ). coefficient c n *ℤ P S x n) (λ n k j. abs-*_le (coefficient c n) (P S x n) {m = 4000000000} {n = 66355278} (r.others n k).within (P_small h n (omega arith)).within)) }

pub partial_next : (c : List ℤ) (x : ℤ) (m : ℕ) → partial c x (suc m) ≡ partial c x m +ℤ coefficient c (suc m) *ℤ P S x (suc m)
unfolding sum
partial_next c x m = ap (λ (n : ℕ). partial c x m +ℤ coefficient c n *ℤ P S x n) (omega arith)

pub P_next : (x : ℤ) (n : ℕ) → P S x (suc (suc n)) ≡ floor_div (pos 2 *ℤ x *ℤ P S x (suc n)) S -ℤ P S x n
P_next x n = unfold P in refl

-- the last division's result
pub floor_small : (z : ℤ) → nat_abs z ≤ 3450474456000000000 → nat_abs (floor_div z S) ≤ 100000000000
unfolding floor_div
floor_small (pos a) h = omega arith
floor_small (negsuc a) h = omega arith

-- the sums of the even coefficients and of the odd ones
pub even_sum_small : {c : List ℤ} → InRange c → Within 1000100000000000 (even_sum c)
unfolding even_sum
even_sum_small {c} r =
    let f : ℕ → ℤ = λ (i : ℕ). coefficient c (2 * i) in
    record { within = omega (arith, abs-+ (coefficient c 0) (sum 1 6 f), r.constant.within, sum_within 1 6 4000000000 f (λ i l h. (r.others (2 * i) (omega arith)).within)) }

pub odd_sum_small : {c : List ℤ} → InRange c → Within 100000000000 (odd_sum c)
unfolding odd_sum
odd_sum_small {c} r =
    let f : ℕ → ℤ = λ (i : ℕ). coefficient c (2 * i + 1) in
    record { within = omega (arith, abs-+ (coefficient c 1) (sum 1 6 f), (r.others 1 (omega arith)).within, sum_within 1 6 4000000000 f (λ i l h. (r.others (2 * i + 1) (omega arith)).within)) }

-- n²·c(n), and the sum of them
pub square_small : {c : List ℤ} → InRange c → (n : ℕ) → 1 ≤ n → n < 14 → nat_abs (coefficient c n *ℤ pos (n * n)) ≤ 676000000000
square_small {c} r n l h = abs-*_le (coefficient c n) (pos (n * n)) {m = 4000000000} {n = 169} (r.others n l).within (mul-le-mul {n₁ = n} {m₁ = n} {n₂ = 13} {m₂ = 13} (omega arith) (omega arith))

pub square_sum_small : {c : List ℤ} → InRange c → Within 10000000000000 (square_sum c)
unfolding square_sum
square_sum_small {c} r = record { within = omega (arith, sum_within 1 13 676000000000 (λ (n : ℕ). coefficient c n *ℤ pos (n * n)) (λ n l h. square_small r n l (omega arith))) }

-- a segment that rises fast enough has weights so small that the value keeps its allowance
module _ {c : List ℤ} (r : InRange c) where
  pub weights_small : (H : ℕ) → 172800 ≤ H → pos (100 * H) ⩽ slope c → weights (λ (n : ℕ). coefficient c n) + 2 * S ≤ 2 * allowance * S
  unfolding slope
  weights_small H l f =
      let t = sum 2 12 (λ (n : ℕ). pos (n * n * nat_abs (coefficient c n))) in
      let w = pos (weights (λ (n : ℕ). coefficient c n)) in
      let ρ = coefficient c 1 ∷ t ∷ w ∷ pos H ∷ [] in
      omega (arith, ⇓ ρ f (search ring depth 9), ⇓ ρ (sum_pos 2 12 (λ (n : ℕ). n * n * nat_abs (coefficient c n))) (search ring depth 9), ⇓ ρ (abs→ {z = coefficient c 1} 4000000000 (r.others 1 (omega arith)).within).1 (search ring depth 9))
