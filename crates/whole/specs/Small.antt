-- The small solver, on which the laws and the large one (Solver) are built: a statement over at most four whole numbers, read as one over their
-- positive and negative parts. Elsewhere use Solver. Assumes nothing.
use Rattle.std.specs.Prelude.{◌≡◌, refl, ℕ, suc, ◌+◌, ◌*◌, ◌≤◌, ◌<◌, ℤ, pos, negsuc, neg_ℤ, ◌+ℤ◌, ◌-ℤ◌, ◌*ℤ◌, ◌≤ℤ◌, ◌<ℤ◌}
use Rattle.std.proofs.Common.{ap, arith}
use Rattle.whole.specs.Parts.{pos_part, neg_part, ≤→, →≤, <→, →<, ≡→, →≡, parts_add, pos_part_mul, neg_part_mul, pos_part_neg, neg_part_neg}

-- z as the difference of two natural numbers, read off how it is made up
pub record Quoted (z : ℤ) : Type 0 where
  pub p : ℕ
  pub n : ℕ
  pub ok : pos_part z + n ≡ p + neg_part z

abbrev pub atom : (z : ℤ) → Quoted z
atom z = record { p = pos_part z; n = neg_part z; ok = refl }

abbrev pub nat : (n : ℕ) → Quoted (pos n)
nat n = record { p = n; n = 0; ok = refl }

abbrev pub ngs : (n : ℕ) → Quoted (negsuc n)
ngs n = record { p = 0; n = suc n; ok = refl }

pub neg_ok : (z : ℤ) (p n : ℕ) → pos_part z + n ≡ p + neg_part z → pos_part (neg_ℤ z) + p ≡ n + neg_part (neg_ℤ z)
neg_ok z p n h = omega (arith, pos_part_neg z, neg_part_neg z)

abbrev pub neg : {a : ℤ} → Quoted a → Quoted (neg_ℤ a)
neg {a} e = record { p = e.n; n = e.p; ok = neg_ok a e.p e.n e.ok }

pub add_ok : (x y : ℤ) (p n q m : ℕ) → pos_part x + n ≡ p + neg_part x → pos_part y + m ≡ q + neg_part y → pos_part (x +ℤ y) + (n + m) ≡ (p + q) + neg_part (x +ℤ y)
add_ok x y p n q m h k = omega (arith, parts_add x y)

abbrev pub add : {a b : ℤ} → Quoted a → Quoted b → Quoted (a +ℤ b)
add {a} {b} e f = record { p = e.p + f.p; n = e.n + f.n; ok = add_ok a b e.p e.n f.p f.n e.ok f.ok }

abbrev pub sub : {a b : ℤ} → Quoted a → Quoted b → Quoted (a -ℤ b)
sub {a} {b} e f = add e (neg f)

-- (p - n)(q - m), where a - b = p - n and c - d = q - m
mul_ok' : (p n q m a b c d : ℕ) → a + n ≡ p + b → c + m ≡ q + d → (a * c + b * d) + (p * m + n * q) ≡ (p * q + n * m) + (a * d + b * c)
mul_ok' p n q m a b c d e f = omega (arith, l₁, l₂, l₃, l₄)
  where
    l₁ : (a + n) * c ≡ (p + b) * c
    l₁ = ap (λ (x : ℕ). x * c) e

    l₂ : (a + n) * d ≡ (p + b) * d
    l₂ = ap (λ (x : ℕ). x * d) e

    l₃ : p * (c + m) ≡ p * (q + d)
    l₃ = ap (λ (x : ℕ). p * x) f

    l₄ : n * (c + m) ≡ n * (q + d)
    l₄ = ap (λ (x : ℕ). n * x) f

pub mul_ok : (x y : ℤ) (p n q m : ℕ) → pos_part x + n ≡ p + neg_part x → pos_part y + m ≡ q + neg_part y → pos_part (x *ℤ y) + (p * m + n * q) ≡ (p * q + n * m) + neg_part (x *ℤ y)
mul_ok x y p n q m h k = omega (arith, pos_part_mul x y, neg_part_mul x y, mul_ok' p n q m (pos_part x) (neg_part x) (pos_part y) (neg_part y) h k)

abbrev pub mul : {a b : ℤ} → Quoted a → Quoted b → Quoted (a *ℤ b)
mul {a} {b} e f = record { p = e.p * f.p + e.n * f.n; n = e.p * f.n + e.n * f.p; ok = mul_ok a b e.p e.n f.p f.n e.ok f.ok }

-- a statement of ℤ, and what it is of ℕ
pub record Stated (A : Type 0) : Type 1 where
  pub Reading : Type 0
  pub up : Reading → A
  pub down : A → Reading

pub le_up : (x y : ℤ) (p n q m : ℕ) → pos_part x + n ≡ p + neg_part x → pos_part y + m ≡ q + neg_part y → p + m ≤ q + n → pos_part x + neg_part y ≤ pos_part y + neg_part x
le_up x y p n q m h k l = omega arith

pub le_down : (x y : ℤ) (p n q m : ℕ) → pos_part x + n ≡ p + neg_part x → pos_part y + m ≡ q + neg_part y → pos_part x + neg_part y ≤ pos_part y + neg_part x → p + m ≤ q + n
le_down x y p n q m h k l = omega arith

pub lt_up : (x y : ℤ) (p n q m : ℕ) → pos_part x + n ≡ p + neg_part x → pos_part y + m ≡ q + neg_part y → p + m < q + n → pos_part x + neg_part y < pos_part y + neg_part x
lt_up x y p n q m h k l = omega arith

pub lt_down : (x y : ℤ) (p n q m : ℕ) → pos_part x + n ≡ p + neg_part x → pos_part y + m ≡ q + neg_part y → pos_part x + neg_part y < pos_part y + neg_part x → p + m < q + n
lt_down x y p n q m h k l = omega arith

pub eq_up : (x y : ℤ) (p n q m : ℕ) → pos_part x + n ≡ p + neg_part x → pos_part y + m ≡ q + neg_part y → p + m ≡ q + n → pos_part x + neg_part y ≡ pos_part y + neg_part x
eq_up x y p n q m h k l = omega arith

pub eq_down : (x y : ℤ) (p n q m : ℕ) → pos_part x + n ≡ p + neg_part x → pos_part y + m ≡ q + neg_part y → pos_part x + neg_part y ≡ pos_part y + neg_part x → p + m ≡ q + n
eq_down x y p n q m h k l = omega arith

abbrev pub le : {a b : ℤ} → Quoted a → Quoted b → Stated (a ≤ℤ b)
le {a} {b} e f = record { Reading = e.p + f.n ≤ f.p + e.n; up = λ h. →≤ (le_up a b e.p e.n f.p f.n e.ok f.ok h); down = λ h. le_down a b e.p e.n f.p f.n e.ok f.ok (≤→ h) }

abbrev pub lt : {a b : ℤ} → Quoted a → Quoted b → Stated (a <ℤ b)
lt {a} {b} e f = record { Reading = e.p + f.n < f.p + e.n; up = λ h. →< (lt_up a b e.p e.n f.p f.n e.ok f.ok h); down = λ h. lt_down a b e.p e.n f.p f.n e.ok f.ok (<→ h) }

abbrev pub eq : {a b : ℤ} → Quoted a → Quoted b → Stated (a ≡ b)
eq {a} {b} e f = record { Reading = e.p + f.n ≡ f.p + e.n; up = λ h. →≡ (eq_up a b e.p e.n f.p f.n e.ok f.ok h); down = λ h. eq_down a b e.p e.n f.p f.n e.ok f.ok (≡→ h) }

pub ⇑ : {A : Type 0} (s : Stated A) → s.Reading → A
⇑ s h = s.up h

pub ⇓ : {A : Type 0} → A → (s : Stated A) → s.Reading
⇓ h s = s.down h

pub ruleset small = (le, lt, eq, add, mul, neg, nat, ngs)

-- the atoms of a small statement, for `search small` to find: `let ρ = #3 a b c in ⇑ (search small) (omega arith)`
abbrev pub #1 : (a : ℤ) → Quoted a × Unit {0}
#1 a = (atom a, tt)

abbrev pub #2 : (a b : ℤ) → Quoted a × Quoted b
#2 a b = (atom a, atom b)

abbrev pub #3 : (a b c : ℤ) → Quoted a × Quoted b × Quoted c
#3 a b c = (atom a, atom b, atom c)

abbrev pub #4 : (a b c d : ℤ) → Quoted a × Quoted b × Quoted c × Quoted d
#4 a b c d = (atom a, atom b, atom c, atom d)
