-- The polynomials at a segment's first and last place, and the values there: what `first_value_lem` and `last_value_lem` (Theorems) stand on. Assumes nothing.
use Rattle.std.specs.Prelude.{◌≡◌, ℤ, ◌+ℤ◌, ◌-ℤ◌, ◌*ℤ◌}
use Rattle.std.proofs.Math.Path.{refl, ap, ap₂}
use Rattle.std.proofs.Common.{sym, ◌∙◌, arith, le_refl, lit<}
use mathlib.Core.List.{List, [], ◌∷◌}
use Prim.Native.Nat.{ℕ, zero, suc, ◌+◌, ◌*◌, ◌≤◌, ◌<◌}
use Rattle.std.proofs.Math.Nat.{mul-lt-mul_of_pos_left, mul-le-mul}
use Rattle.std.proofs.Math.IntN.{pos, neg_ℤ}
use Rattle.whole.specs.Solver.{⇑, ⇓, ring}
use Rattle.whole.specs.Floor.{floor_div, floor_mod}
use Rattle.whole.proofs.Floor.{floor_div_floor_mod, floor_mod_lt, floor_div_unique, floor_div_add}
use Rattle.chebyshev.specs.Polynomials.{S, P}
use Rattle.chebyshev.specs.Segment.{coefficient, sum, value}
use Rattle.chebyshev.specs.EndValues.{even_sum, odd_sum, square_sum, first_value, last_value}
use Rattle.analysis.specs.theory.Sums.{sum_linear}

-- ---- a sum by pairs: c1, then c2 and c3, ..
pairs : (f : ℕ → ℤ) (m : ℕ) → sum 1 (suc (2 * m)) f ≡ f 1 +ℤ (sum 1 m (λ (i : ℕ). f (2 * i)) +ℤ sum 1 m (λ (i : ℕ). f (2 * i + 1)))
unfolding sum
pairs f zero = ⇑ (f 1 ∷ []) (search ring depth 9) refl
pairs f (suc m) =
    let more : suc (2 * suc m) ≡ suc (suc (suc (2 * m))) = omega arith in
    let even : 1 + suc (2 * m) ≡ 2 * (1 + m) = omega arith in
    let odd : 1 + suc (suc (2 * m)) ≡ 2 * (1 + m) + 1 = omega arith in
    let x = f (2 * (1 + m)) in
    let y = f (2 * (1 + m) + 1) in
    let e = sum 1 m (λ (i : ℕ). f (2 * i)) in
    let o = sum 1 m (λ (i : ℕ). f (2 * i + 1)) in
    let ρ = sum 1 (suc (2 * m)) f ∷ f 1 ∷ e ∷ o ∷ x ∷ y ∷ [] in
    ap (λ (n : ℕ). sum 1 n f) more
    ∙ ap₂ (λ (j k : ℕ). sum 1 (suc (2 * m)) f +ℤ f j +ℤ f k) even odd
    ∙ ⇑ ρ (search ring depth 9) (omega (arith, ⇓ ρ (pairs f m) (search ring depth 9)))

-- ---- the polynomials there

-- 1, -1, 1, -1, ..
unfoldable sign : ℕ → ℤ
sign zero = pos 1
sign (suc n) = neg_ℤ (sign n)

sign_even : (i : ℕ) → sign (2 * i) ≡ pos 1
unfolding sign
sign_even zero = refl
sign_even (suc i) = ap sign two_more ∙ ap (λ (z : ℤ). neg_ℤ (neg_ℤ z)) (sign_even i)
  where
    two_more : 2 * suc i ≡ suc (suc (2 * i))
    two_more = omega arith

sign_odd : (i : ℕ) → sign (2 * i + 1) ≡ neg_ℤ (pos 1)
unfolding sign
sign_odd i = ap sign one_more ∙ ap neg_ℤ (sign_even i)
  where
    one_more : 2 * i + 1 ≡ suc (2 * i)
    one_more = omega arith

module _ (s : ℕ) (some : 0 < s) where
  first_step : (n : ℕ) → P s (neg_ℤ (pos s)) n ≡ sign n *ℤ pos s → P s (neg_ℤ (pos s)) (suc n) ≡ sign (suc n) *ℤ pos s → P s (neg_ℤ (pos s)) (suc (suc n)) ≡ sign (suc (suc n)) *ℤ pos s
  unfolding P sign
  first_step n a b =
      let t = pos 2 *ℤ neg_ℤ (pos s) *ℤ P s (neg_ℤ (pos s)) (suc n) in
      let ρ = pos s ∷ sign n ∷ P s (neg_ℤ (pos s)) n ∷ P s (neg_ℤ (pos s)) (suc n) ∷ [] in
      let is : t ≡ pos 2 *ℤ sign n *ℤ pos s *ℤ pos s +ℤ pos 0 = ap (λ (z : ℤ). pos 2 *ℤ neg_ℤ (pos s) *ℤ z) b ∙ ⇑ ρ (search ring depth 12) refl in
      let q : floor_div t s ≡ pos 2 *ℤ sign n *ℤ pos s = floor_div_unique t (pos 2 *ℤ sign n *ℤ pos s) s 0 some is in
      ap₂ (λ (x y : ℤ). x -ℤ y) q a ∙ ⇑ ρ (search ring depth 12) refl

  first_both : (n : ℕ) → (P s (neg_ℤ (pos s)) n ≡ sign n *ℤ pos s) × (P s (neg_ℤ (pos s)) (suc n) ≡ sign (suc n) *ℤ pos s)
  first_both zero = (unfold P sign in ⇑ (pos s ∷ []) (search ring depth 9) refl, unfold P sign in ⇑ (pos s ∷ []) (search ring depth 9) refl)
  first_both (suc n) = let both = first_both n in (both.1, first_step n both.0 both.1)

  module _ (q : ℕ) (few : 2 * (q * q) * 144 < s) where
    abbrev falling : ℕ → ℤ
    falling n = pos s -ℤ pos q *ℤ pos (n * n)

    abbrev whole_part : ℕ → ℤ
    whole_part m = pos 2 *ℤ pos s -ℤ pos 2 *ℤ pos q -ℤ pos 2 *ℤ pos q *ℤ pos (m * m)

    split : (m : ℕ) → pos 2 *ℤ (pos s -ℤ pos q) *ℤ falling m ≡ whole_part m *ℤ pos s +ℤ pos (2 * (q * q) * (m * m))
    split m = ⇑ (pos s ∷ pos q ∷ pos m ∷ []) (search ring depth 20) refl

    next : (n m k : ℕ) → m ≡ n + 1 → k ≡ n + 2 → whole_part m -ℤ falling n ≡ falling k
    next n m k e f = rw (e, f) (⇑ (pos s ∷ pos q ∷ pos n ∷ []) (search ring depth 20) refl)

    last_step : (n : ℕ) → suc n ≤ 12 → P s (pos s -ℤ pos q) n ≡ falling n → P s (pos s -ℤ pos q) (suc n) ≡ falling (suc n) → P s (pos s -ℤ pos q) (suc (suc n)) ≡ falling (suc (suc n))
    unfolding P
    last_step n h a b =
        let x = pos s -ℤ pos q in
        let t = pos 2 *ℤ x *ℤ P s x (suc n) in
        ap₂ (λ (y z : ℤ). y -ℤ z) (floor_div_unique t (whole_part (suc n)) s (2 * (q * q) * (suc n * suc n)) (less (suc n) h) (ap (λ (z : ℤ). pos 2 *ℤ x *ℤ z) b ∙ split (suc n))) a ∙ next n (suc n) (suc (suc n)) (omega arith) (omega arith)
      where
        less : (m : ℕ) → m ≤ 12 → 2 * (q * q) * (m * m) < s
        less m l = omega (arith, mul-le-mul (le_refl (2 * (q * q))) (mul-le-mul l l))

    last_both : (n : ℕ) → n ≤ 12 → (P s (pos s -ℤ pos q) n ≡ falling n) × (P s (pos s -ℤ pos q) (suc n) ≡ falling (suc n))
    last_both zero h = (unfold P in ⇑ (pos s ∷ pos q ∷ []) (search ring depth 9) refl, unfold P in ⇑ (pos s ∷ pos q ∷ []) (search ring depth 9) refl)
    last_both (suc n) h = let both = last_both n (omega arith) in (both.1, last_step n h both.0 both.1)

-- ---- a quotient keeps its value when both sides are multiplied
floor_div_scaled : (z : ℤ) (m q : ℕ) → 0 < m → 0 < q → floor_div (pos q *ℤ z) (q * m) ≡ floor_div z m
floor_div_scaled z m q h k =
    let ρ = z ∷ pos m ∷ pos q ∷ floor_div z m ∷ pos (floor_mod z m) ∷ [] in
    floor_div_unique (pos q *ℤ z) (floor_div z m) (q * m) (q * floor_mod z m) (mul-lt-mul_of_pos_left (floor_mod_lt z m h) k)
    (⇑ ρ (search ring depth 12) (omega (arith, ⇓ ρ (ap (λ (y : ℤ). pos q *ℤ y) (floor_div_floor_mod z m h)) (search ring depth 12))))

-- ---- the values there
-- c0 - c1 + c2 - .. - c13 by signs, and by the two sums
signed_is : (c : List ℤ) → coefficient c 0 +ℤ sum 1 13 (λ (n : ℕ). coefficient c n *ℤ sign n) ≡ first_value c
unfolding first_value even_sum odd_sum
signed_is c =
    let g : ℕ → ℤ = λ (n : ℕ). coefficient c n *ℤ sign n in
    let e = sum 1 6 (λ (i : ℕ). coefficient c (2 * i)) in
    let o = sum 1 6 (λ (i : ℕ). coefficient c (2 * i + 1)) in
    let e' = sum 1 6 (λ (i : ℕ). g (2 * i)) in
    let o' = sum 1 6 (λ (i : ℕ). g (2 * i + 1)) in
    let evens : pos 1 *ℤ e' ≡ pos 1 *ℤ e +ℤ pos 0 *ℤ e = sum_linear (pos 1) (pos 1) (pos 0) 1 6 (λ (i : ℕ). g (2 * i)) (λ (i : ℕ). coefficient c (2 * i)) (λ (i : ℕ). coefficient c (2 * i)) (λ i l u. times_one (coefficient c (2 * i)) (sign (2 * i)) (sign_even i)) in
    let odds : pos 1 *ℤ o' ≡ neg_ℤ (pos 1) *ℤ o +ℤ pos 0 *ℤ o = sum_linear (pos 1) (neg_ℤ (pos 1)) (pos 0) 1 6 (λ (i : ℕ). g (2 * i + 1)) (λ (i : ℕ). coefficient c (2 * i + 1)) (λ (i : ℕ). coefficient c (2 * i + 1)) (λ i l u. times_minus_one (coefficient c (2 * i + 1)) (sign (2 * i + 1)) (sign_odd i)) in
    let one : g 1 ≡ neg_ℤ (coefficient c 1) = minus (coefficient c 1) (sign 1) (sign_odd 0) in
    let ρ = coefficient c 0 ∷ coefficient c 1 ∷ e ∷ o ∷ e' ∷ o' ∷ g 1 ∷ sum 1 13 g ∷ [] in
    ⇑ ρ (search ring depth 9)
    (omega (
      arith,
      ⇓ ρ (pairs g 6) (search ring depth 9),
      ⇓ ρ evens (search ring depth 9),
      ⇓ ρ odds (search ring depth 9),
      ⇓ ρ one (search ring depth 9),
    ))
  where
    times_one : (z t : ℤ) → t ≡ pos 1 → pos 1 *ℤ (z *ℤ t) ≡ pos 1 *ℤ z +ℤ pos 0 *ℤ z
    times_one z t e = rw e (⇑ (z ∷ []) (search ring depth 12) refl)

    times_minus_one : (z t : ℤ) → t ≡ neg_ℤ (pos 1) → pos 1 *ℤ (z *ℤ t) ≡ neg_ℤ (pos 1) *ℤ z +ℤ pos 0 *ℤ z
    times_minus_one z t e = rw e (⇑ (z ∷ []) (search ring depth 12) refl)

    minus : (z t : ℤ) → t ≡ neg_ℤ (pos 1) → z *ℤ t ≡ neg_ℤ z
    minus z t e = rw e (⇑ (z ∷ []) (search ring depth 12) refl)

pub first_is : (c : List ℤ) → value c (neg_ℤ (pos S)) ≡ first_value c
unfolding value
first_is c =
    let v = neg_ℤ (pos S) in
    let f : ℕ → ℤ = λ (n : ℕ). coefficient c n *ℤ P S v n in
    let g : ℕ → ℤ = λ (n : ℕ). coefficient c n *ℤ sign n in
    let a = sum 1 13 f in
    let b = sum 1 13 g in
    let each : (n : ℕ) → 1 ≤ n → n < 14 → pos 1 *ℤ f n ≡ pos S *ℤ g n +ℤ pos 0 *ℤ g n =
    λ n l u.
    let ρ = coefficient c n ∷ sign n ∷ [] in
    ap (λ (z : ℤ). pos 1 *ℤ (coefficient c n *ℤ z)) (first_both S (lit< tt) n).0 ∙ ⇑ ρ (search ring depth 12) refl
    in
    let ρ = a ∷ b ∷ [] in
    let is : a ≡ b *ℤ pos S +ℤ pos 0 = ⇑ ρ (search ring depth 9) (omega (arith, ⇓ ρ (sum_linear (pos 1) (pos S) (pos 0) 1 13 f g g each) (search ring depth 9))) in
    ap (λ (z : ℤ). coefficient c 0 +ℤ z) (floor_div_unique a b S 0 (lit< tt) is) ∙ signed_is c

pub last_is : (c : List ℤ) (q H : ℕ) → q * H ≡ S → 2 * (q * q) * 144 < S → value c (pos S -ℤ pos q) ≡ last_value H c
unfolding value even_sum odd_sum square_sum last_value
last_is c q H step few =
    let x = pos S -ℤ pos q in
    let f : ℕ → ℤ = λ (n : ℕ). coefficient c n *ℤ P S x n in
    let h : ℕ → ℤ = λ (n : ℕ). coefficient c n *ℤ pos (n * n) in
    let a = sum 1 13 f in
    let b = sum 1 13 (coefficient c) in
    let d = sum 1 13 h in
    let each : (n : ℕ) → 1 ≤ n → n < 14 → pos 1 *ℤ f n ≡ pos S *ℤ coefficient c n +ℤ neg_ℤ (pos q) *ℤ h n =
    λ n l u.
    let ρ = coefficient c n ∷ pos q ∷ pos n ∷ [] in
    ap (λ (z : ℤ). pos 1 *ℤ (coefficient c n *ℤ z)) (at n u) ∙ ⇑ ρ (search ring depth 12) refl
    in
    let ρ = a ∷ b ∷ d ∷ pos q ∷ [] in
    let is : a ≡ pos q *ℤ neg_ℤ d +ℤ b *ℤ pos S = ⇑ ρ (search ring depth 9) (omega (arith, ⇓ ρ (sum_linear (pos 1) (pos S) (neg_ℤ (pos q)) 1 13 f (coefficient c) h each) (search ring depth 9))) in
    let quotient : floor_div a S ≡ floor_div (neg_ℤ d) H +ℤ b =
    ap (λ (z : ℤ). floor_div z S) is ∙ floor_div_add (pos q *ℤ neg_ℤ d) b S (lit< tt) ∙ ap (λ (z : ℤ). z +ℤ b) (ap (floor_div (pos q *ℤ neg_ℤ d)) (sym step) ∙ floor_div_scaled (neg_ℤ d) H q (some_right q H step) (some_left q H step))
    in
    let e = sum 1 6 (λ (i : ℕ). coefficient c (2 * i)) in
    let o = sum 1 6 (λ (i : ℕ). coefficient c (2 * i + 1)) in
    let σ = coefficient c 0 ∷ coefficient c 1 ∷ e ∷ o ∷ b ∷ floor_div (neg_ℤ d) H ∷ [] in
    ap (λ (z : ℤ). coefficient c 0 +ℤ z) quotient
    ∙ ⇑ σ (search ring depth 9) (omega (arith, ⇓ σ (pairs (coefficient c) 6) (search ring depth 9)))
  where
    at : (n : ℕ) → n < 14 → P S (pos S -ℤ pos q) n ≡ pos S -ℤ pos q *ℤ pos (n * n)
    at zero u = (last_both S (lit< tt) q few 0 (omega arith)).0
    at (suc n) u = (last_both S (lit< tt) q few n (omega arith)).1

    some_left : (q H : ℕ) → q * H ≡ S → 0 < q
    some_left zero H e = absurd (omega arith)
    some_left (suc q) H e = omega arith

    some_right : (q H : ℕ) → q * H ≡ S → 0 < H
    some_right q zero e = absurd (omega arith)
    some_right q (suc H) e = omega arith
