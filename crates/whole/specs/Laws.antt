-- The laws of ℤ as an ordered commutative ring, and of `nat_abs`. Assumes nothing.
use Rattle.std.specs.Prelude.{◌≡◌, ◌⊎◌, ◌↔◌, ℕ, ◌+◌, ◌*◌, ◌≤◌, ℤ, pos, negsuc, neg_ℤ, nat_abs, ◌+ℤ◌, ◌-ℤ◌, ◌*ℤ◌, ◌≤ℤ◌, ◌<ℤ◌}
use Rattle.std.proofs.Common.{ap, inl, inr, ⊎_elim, arith, mul-le-mul}
use Rattle.std.proofs.Math.Decide.{dec_le}
use Rattle.whole.specs.Parts.{pos_part, neg_part, ℤ_rules, →≤, →<, parts_add, parts_abs, pos_part_mul, neg_part_mul, pos_part_neg, neg_part_neg, one_part_zero}
use Rattle.whole.specs.Small.{⇑, ⇓, small, #1, #2, #3, #4}

pub +_comm : (a b : ℤ) → a +ℤ b ≡ b +ℤ a
+_comm a b = let ρ = #2 a b in ⇑ (search small) (omega arith)

pub +_assoc : (a b c : ℤ) → a +ℤ b +ℤ c ≡ a +ℤ (b +ℤ c)
+_assoc a b c = let ρ = #3 a b c in ⇑ (search small) (omega arith)

pub *_comm : (a b : ℤ) → a *ℤ b ≡ b *ℤ a
*_comm a b = let ρ = #2 a b in ⇑ (search small) (omega arith)

pub *_assoc : (a b c : ℤ) → a *ℤ b *ℤ c ≡ a *ℤ (b *ℤ c)
*_assoc a b c = let ρ = #3 a b c in ⇑ (search small) (omega arith)

pub *-+ : (a b c : ℤ) → a *ℤ (b +ℤ c) ≡ a *ℤ b +ℤ a *ℤ c
*-+ a b c = let ρ = #3 a b c in ⇑ (search small) (omega arith)

pub +-* : (a b c : ℤ) → (a +ℤ b) *ℤ c ≡ a *ℤ c +ℤ b *ℤ c
+-* a b c = let ρ = #3 a b c in ⇑ (search small) (omega arith)

pub one-* : (a : ℤ) → pos 1 *ℤ a ≡ a
one-* a = let ρ = #1 a in ⇑ (search small) (omega arith)

-- ---- order
pub ≤_trans : {a b c : ℤ} → a ≤ℤ b → b ≤ℤ c → a ≤ℤ c
≤_trans {a} {b} {c} h k = omega ℤ_rules

pub <-≤_trans : {a b c : ℤ} → a <ℤ b → b ≤ℤ c → a <ℤ c
<-≤_trans {a} {b} {c} h k = omega ℤ_rules

pub ≤-<_trans : {a b c : ℤ} → a ≤ℤ b → b <ℤ c → a <ℤ c
≤-<_trans {a} {b} {c} h k = omega ℤ_rules

pub <→≤ : {a b : ℤ} → a <ℤ b → a ≤ℤ b
<→≤ {a} {b} h = omega ℤ_rules

pub ≤_antisymm : {a b : ℤ} → a ≤ℤ b → b ≤ℤ a → a ≡ b
≤_antisymm {a} {b} h k = omega ℤ_rules

pub ≤_of-≡ : {a b : ℤ} → a ≡ b → a ≤ℤ b
≤_of-≡ {a} {b} e = omega ℤ_rules

pub ≤_total : (a b : ℤ) → (a ≤ℤ b) ⊎ (b <ℤ a)
≤_total a b = go (dec_le (pos_part a + neg_part b) (pos_part b + neg_part a))
  where
    go : Dec (pos_part a + neg_part b ≤ pos_part b + neg_part a) → (a ≤ℤ b) ⊎ (b <ℤ a)
    go (yes h) = inl (→≤ h)
    go (no h) = inr (→< (omega arith))

pub +_mono : {a b c d : ℤ} → a ≤ℤ b → c ≤ℤ d → (a +ℤ c) ≤ℤ (b +ℤ d)
+_mono {a} {b} {c} {d} h k = let ρ = #4 a b c d in ⇑ (search small) (omega ℤ_rules)

pub neg_anti : {a b : ℤ} → a ≤ℤ b → neg_ℤ b ≤ℤ neg_ℤ a
neg_anti {a} {b} h = let ρ = #2 a b in ⇑ (search small) (omega ℤ_rules)

pub neg_anti-< : {a b : ℤ} → a <ℤ b → neg_ℤ b <ℤ neg_ℤ a
neg_anti-< {a} {b} h = let ρ = #2 a b in ⇑ (search small) (omega ℤ_rules)

-- a number that is not negative is a natural one
pub neg_part_of_nonneg : {a : ℤ} → pos 0 ≤ℤ a → neg_part a ≡ 0
neg_part_of_nonneg {a} h = ⊎_elim (λ (e : pos_part a ≡ 0). omega ℤ_rules) (λ (e : neg_part a ≡ 0). e) (one_part_zero a)

pub *_nonneg : {a b : ℤ} → pos 0 ≤ℤ a → pos 0 ≤ℤ b → pos 0 ≤ℤ (a *ℤ b)
*_nonneg {a} {b} h k =
    →≤ (omega (arith, neg_part_mul a b, ap (λ (x : ℕ). pos_part a * x) (neg_part_of_nonneg k), ap (λ (x : ℕ). x * pos_part b) (neg_part_of_nonneg h)))

pub sq_nonneg : (a : ℤ) → pos 0 ≤ℤ (a *ℤ a)
sq_nonneg (pos n) = →≤ (omega arith)
sq_nonneg (negsuc n) = →≤ (omega arith)

pub *_mono : {a b : ℤ} (c : ℤ) → pos 0 ≤ℤ c → a ≤ℤ b → (a *ℤ c) ≤ℤ (b *ℤ c)
*_mono {a} {b} c h k = let ρ = #3 a b c in ⇑ (search small) (omega (arith, ⇓ (*_nonneg h d) (search small)))
  where
    d : pos 0 ≤ℤ (b -ℤ a)
    d = let ρ = #2 a b in ⇑ (search small) (omega ℤ_rules)

-- ---- nat_abs
pub abs-+ : (a b : ℤ) → nat_abs (a +ℤ b) ≤ nat_abs a + nat_abs b
abs-+ a b = ⊎_elim (λ (e : pos_part (a +ℤ b) ≡ 0). omega (arith, parts_add a b, parts_abs a, parts_abs b, parts_abs (a +ℤ b))) (λ (e : neg_part (a +ℤ b) ≡ 0). omega (arith, parts_add a b, parts_abs a, parts_abs b, parts_abs (a +ℤ b))) (one_part_zero (a +ℤ b))

pub abs_neg : (a : ℤ) → nat_abs (neg_ℤ a) ≡ nat_abs a
abs_neg a = omega (arith, parts_abs a, parts_abs (neg_ℤ a), pos_part_neg a, neg_part_neg a)

pub abs-- : (a b : ℤ) → nat_abs (a -ℤ b) ≤ nat_abs a + nat_abs b
abs-- a b = omega (arith, abs-+ a (neg_ℤ b), abs_neg b)

abs-*' : (p n q m x y z : ℕ) → x ≡ p + n → y ≡ q + m → z ≡ (p * q + n * m) + (p * m + n * q) → z ≡ x * y
abs-*' p n q m x y z e f g = omega (arith, ap (λ (t : ℕ). t * y) e, ap (λ (t : ℕ). (p + n) * t) f)

pub abs-* : (a b : ℤ) → nat_abs (a *ℤ b) ≡ nat_abs a * nat_abs b
abs-* a b = abs-*' (pos_part a) (neg_part a) (pos_part b) (neg_part b) (nat_abs a) (nat_abs b) (nat_abs (a *ℤ b)) (parts_abs a) (parts_abs b) (omega (arith, parts_abs (a *ℤ b), pos_part_mul a b, neg_part_mul a b))

-- |z| ≤ n and -n ≤ z ≤ n say the same
pub abs→ : {z : ℤ} (n : ℕ) → nat_abs z ≤ n → (neg_ℤ (pos n) ≤ℤ z) × (z ≤ℤ pos n)
abs→ {z} n h = (→≤ (omega (arith, parts_abs z, pos_part_neg (pos n), neg_part_neg (pos n))), →≤ (omega (arith, parts_abs z)))

pub →abs : {z : ℤ} (n : ℕ) → neg_ℤ (pos n) ≤ℤ z → z ≤ℤ pos n → nat_abs z ≤ n
→abs {z} n h k = ⊎_elim (λ (e : pos_part z ≡ 0). omega (ℤ_rules, parts_abs z, pos_part_neg (pos n), neg_part_neg (pos n))) (λ (e : neg_part z ≡ 0). omega (ℤ_rules, parts_abs z)) (one_part_zero z)

pub abs_le_iff : (z : ℤ) (n : ℕ) → nat_abs z ≤ n ↔ (neg_ℤ (pos n) ≤ℤ z) × (z ≤ℤ pos n)
abs_le_iff z n = (abs→ n, λ h. →abs n h.0 h.1)

-- a product's bound is the product of the bounds
pub abs-*_le : (a b : ℤ) {m n : ℕ} → nat_abs a ≤ m → nat_abs b ≤ n → nat_abs (a *ℤ b) ≤ m * n
abs-*_le a b {m} {n} h k = omega (arith, abs-* a b, mul-le-mul h k)

pub abs-+_le : (a b : ℤ) {m n : ℕ} → nat_abs a ≤ m → nat_abs b ≤ n → nat_abs (a +ℤ b) ≤ m + n
abs-+_le a b {m} {n} h k = omega (arith, abs-+ a b)

pub abs_of_nonneg : {a : ℤ} → pos 0 ≤ℤ a → pos (nat_abs a) ≡ a
abs_of_nonneg {a} h = omega (ℤ_rules, parts_abs a, neg_part_of_nonneg h)

pub abs_of_neg : {a : ℤ} → a <ℤ pos 0 → pos (nat_abs a) ≡ neg_ℤ a
abs_of_neg {a} h = ⊎_elim (λ (e : pos_part a ≡ 0). omega (ℤ_rules, parts_abs a, pos_part_neg a, neg_part_neg a)) (λ (e : neg_part a ≡ 0). absurd (omega ℤ_rules)) (one_part_zero a)

pub pos_part_of_neg : {a : ℤ} → a <ℤ pos 0 → pos_part a ≡ 0
pos_part_of_neg {a} h = ⊎_elim (λ (e : pos_part a ≡ 0). e) (λ (e : neg_part a ≡ 0). absurd (omega ℤ_rules)) (one_part_zero a)
