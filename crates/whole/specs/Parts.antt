-- A whole number as the difference of two natural ones, its positive and its negative part: what sum, product, absolute value, orders and
-- equality are in terms of them, so that `omega` can read them (`ℤ_rules`). Assumes nothing.
use Rattle.std.specs.Prelude.{◌≡◌, refl, Bool, true, false, not, cond, ◌⊎◌, ℕ, zero, suc, ◌+◌, ◌*◌, ◌-◌, ◌≤◌, ◌<◌, ℤ, pos, negsuc, neg_ℤ, nat_abs, ◌+ℤ◌, ◌*ℤ◌, ◌≤ℤ◌, ◌<ℤ◌, T, ltb}
use Rattle.std.proofs.Common.{ap, subst, inl, inr, arith, leb→le, le→leb, ltb→lt, lt→ltb, nltb→le}
use Rattle.std.proofs.Math.IntN.{sub_ℕ}
use Rattle.std.specs.Int.Signed.{le_z, lt_z}

-- ---- the orders at the level of `◌≡◌`, so that `a +ℤ b ⩽ c` needs no brackets: the library's `◌≤ℤ◌` and `◌<ℤ◌` bind tighter than `◌+ℤ◌`
infix 4 ◌⩽◌ ◌≺◌
abbrev pub ◌⩽◌ : ℤ → ℤ → Type 0
a ⩽ b = a ≤ℤ b

abbrev pub ◌≺◌ : ℤ → ℤ → Type 0
a ≺ b = a <ℤ b

-- ---- the positive and the negative part
abbrev pub pos_part : ℤ → ℕ
pos_part (pos n) = n
pos_part (negsuc n) = 0

abbrev pub neg_part : ℤ → ℕ
neg_part (pos n) = 0
neg_part (negsuc n) = suc n

cond_ind : (c : Bool) (x y : ℤ) (IsPolynomial : ℤ → Type 0) → (T c → IsPolynomial x) → (T (not c) → IsPolynomial y) → IsPolynomial (cond c x y)
cond_ind true x y IsPolynomial f g = f tt
cond_ind false x y IsPolynomial f g = g tt

pub parts_sub : (a b : ℕ) → pos_part (sub_ℕ a b) + b ≡ a + neg_part (sub_ℕ a b)
parts_sub a b =
    cond_ind (ltb a b) (negsuc (b - suc a)) (pos (a - b)) (λ z. pos_part z + b ≡ a + neg_part z) (λ t. less a b (ltb→lt a b t)) (λ t. more a b (nltb→le a b t))
  where
    less : (a b : ℕ) → a < b → 0 + b ≡ a + suc (b - suc a)
    less a b h = omega arith

    more : (a b : ℕ) → b ≤ a → a - b + b ≡ a + 0
    more a b h = omega arith

pub parts_add : (x y : ℤ) → pos_part (x +ℤ y) + (neg_part x + neg_part y) ≡ (pos_part x + pos_part y) + neg_part (x +ℤ y)
parts_add (pos a) (pos b) = omega arith
parts_add (pos a) (negsuc b) = omega (arith, parts_sub a (suc b))
parts_add (negsuc a) (pos b) = omega (arith, parts_sub b (suc a))
parts_add (negsuc a) (negsuc b) = omega arith

pub pos_part_neg : (x : ℤ) → pos_part (neg_ℤ x) ≡ neg_part x
pos_part_neg (pos zero) = refl
pos_part_neg (pos (suc n)) = refl
pos_part_neg (negsuc n) = refl

pub neg_part_neg : (x : ℤ) → neg_part (neg_ℤ x) ≡ pos_part x
neg_part_neg (pos zero) = refl
neg_part_neg (pos (suc n)) = refl
neg_part_neg (negsuc n) = refl

pub pos_part_mul : (x y : ℤ) → pos_part (x *ℤ y) ≡ pos_part x * pos_part y + neg_part x * neg_part y
pos_part_mul (pos a) (pos b) = omega arith
pos_part_mul (pos a) (negsuc b) = omega (arith, pos_part_neg (pos (a * suc b)))
pos_part_mul (negsuc a) (pos b) = omega (arith, pos_part_neg (pos (suc a * b)))
pos_part_mul (negsuc a) (negsuc b) = omega arith

pub neg_part_mul : (x y : ℤ) → neg_part (x *ℤ y) ≡ pos_part x * neg_part y + neg_part x * pos_part y
neg_part_mul (pos a) (pos b) = omega arith
neg_part_mul (pos a) (negsuc b) = omega (arith, neg_part_neg (pos (a * suc b)))
neg_part_mul (negsuc a) (pos b) = omega (arith, neg_part_neg (pos (suc a * b)))
neg_part_mul (negsuc a) (negsuc b) = omega arith

pub parts_abs : (z : ℤ) → nat_abs z ≡ pos_part z + neg_part z
parts_abs (pos n) = omega arith
parts_abs (negsuc n) = omega arith

-- one of the two is zero
pub one_part_zero : (z : ℤ) → (pos_part z ≡ 0) ⊎ (neg_part z ≡ 0)
one_part_zero (pos n) = inr refl
one_part_zero (negsuc n) = inl refl

-- ---- the orders and equality
le→' : (a b : ℤ) → T (le_z a b) → pos_part a + neg_part b ≤ pos_part b + neg_part a
le→' (pos a) (pos b) h = omega (arith, leb→le a b h)
le→' (pos a) (negsuc b) h = absurd h
le→' (negsuc a) (pos b) h = omega arith
le→' (negsuc a) (negsuc b) h = omega (arith, leb→le b a h)

→le' : (a b : ℤ) → pos_part a + neg_part b ≤ pos_part b + neg_part a → T (le_z a b)
→le' (pos a) (pos b) h = le→leb a b (omega arith)
→le' (pos a) (negsuc b) h = absurd (no a b h)
  where
    no : (a b : ℕ) → a + suc b ≤ 0 + 0 → ⊥
    no a b h = omega arith
→le' (negsuc a) (pos b) h = tt
→le' (negsuc a) (negsuc b) h = le→leb b a (omega arith)

lt→' : (a b : ℤ) → T (lt_z a b) → pos_part a + neg_part b < pos_part b + neg_part a
lt→' (pos a) (pos b) h = omega (arith, ltb→lt a b h)
lt→' (pos a) (negsuc b) h = absurd h
lt→' (negsuc a) (pos b) h = omega arith
lt→' (negsuc a) (negsuc b) h = omega (arith, ltb→lt b a h)

→lt' : (a b : ℤ) → pos_part a + neg_part b < pos_part b + neg_part a → T (lt_z a b)
→lt' (pos a) (pos b) h = lt→ltb a b (omega arith)
→lt' (pos a) (negsuc b) h = absurd (no a b h)
  where
    no : (a b : ℕ) → a + suc b < 0 + 0 → ⊥
    no a b h = omega arith
→lt' (negsuc a) (pos b) h = tt
→lt' (negsuc a) (negsuc b) h = lt→ltb b a (omega arith)

pub ≤→ : {a b : ℤ} → a ≤ℤ b → pos_part a + neg_part b ≤ pos_part b + neg_part a
≤→ {a} {b} h = le→' a b h.le

pub →≤ : {a b : ℤ} → pos_part a + neg_part b ≤ pos_part b + neg_part a → a ≤ℤ b
→≤ {a} {b} h = record { le = →le' a b h }

pub <→ : {a b : ℤ} → a <ℤ b → pos_part a + neg_part b < pos_part b + neg_part a
<→ {a} {b} h = lt→' a b h.lt

pub →< : {a b : ℤ} → pos_part a + neg_part b < pos_part b + neg_part a → a <ℤ b
→< {a} {b} h = record { lt = →lt' a b h }

pub ≡→ : {a b : ℤ} → a ≡ b → pos_part a + neg_part b ≡ pos_part b + neg_part a
≡→ {a} {b} e = subst (λ (z : ℤ). pos_part a + neg_part z ≡ pos_part z + neg_part a) e refl

→≡' : (a b : ℤ) → pos_part a + neg_part b ≡ pos_part b + neg_part a → a ≡ b
→≡' (pos a) (pos b) h = ap pos (omega arith)
→≡' (pos a) (negsuc b) h = absurd (no a b h)
  where
    no : (a b : ℕ) → a + suc b ≡ 0 + 0 → ⊥
    no a b h = omega arith
→≡' (negsuc a) (pos b) h = absurd (no a b h)
  where
    no : (a b : ℕ) → 0 + 0 ≡ b + suc a → ⊥
    no a b h = omega arith
→≡' (negsuc a) (negsuc b) h = ap negsuc (omega arith)

pub →≡ : {a b : ℤ} → pos_part a + neg_part b ≡ pos_part b + neg_part a → a ≡ b
→≡ {a} {b} h = →≡' a b h

-- what `omega` is handed so that it reads the orders and the equations of ℤ among the hypotheses, and proves them
pub ruleset ℤ_rules = (arith, ≤→, →≤, <→, →<, ≡→, →≡)
