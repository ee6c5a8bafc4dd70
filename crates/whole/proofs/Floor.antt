-- Division by a positive number, rounded down. `floor_div z m` is the quotient and `floor_mod z m` the remainder, a natural number below m. Assumes nothing.
use Rattle.std.specs.Prelude.{◌-ℤ◌, ◌≡◌, List, [], ◌∷◌, ℕ, suc, ◌+◌, ◌*◌, ◌-◌, ◌/◌, ◌%◌, ◌≤◌, ◌<◌, ℤ, pos, negsuc, ◌+ℤ◌, ◌*ℤ◌, ◌≤ℤ◌, ◌<ℤ◌, nat_abs}
use Rattle.std.proofs.Common.{sym, ap, ⊎_elim, arith, div-add-mod', mod-lt, div-le_self, SFits}
use Rattle.whole.specs.Parts.{◌≺◌, ℤ_rules, →≤, →≡, →<, pos_part_mul, neg_part_mul, parts_add, ≡→}
use Rattle.whole.specs.Laws.{≤_total, ≤_antisymm, ≤_trans, *_mono}
use Rattle.std.specs.Int.Signed.{mag}
use Rattle.whole.specs.Ranges.{Bound}
use Rattle.std.specs.Int.{Width}
use Rattle.whole.specs.Solver.{⇑, ⇓, ring}
use Rattle.whole.specs.Floor.{floor_mod, floor_div}

pub floor_mod_lt : (z : ℤ) (m : ℕ) → 0 < m → floor_mod z m < m
unfolding floor_mod
floor_mod_lt (pos a) m h = mod-lt a h
floor_mod_lt (negsuc a) m h = omega (arith, mod-lt a h)

pub floor_div_floor_mod : (z : ℤ) (m : ℕ) → 0 < m → z ≡ floor_div z m *ℤ pos m +ℤ pos (floor_mod z m)
unfolding floor_div floor_mod
floor_div_floor_mod (pos a) m h = ap pos (sym (div-add-mod' a m))
floor_div_floor_mod (negsuc a) m h = →≡ (omega (arith, parts_add (negsuc (a / m) *ℤ pos m) (pos (m - suc (a % m))), pos_part_mul (negsuc (a / m)) (pos m), neg_part_mul (negsuc (a / m)) (pos m), div-add-mod' a m, mod-lt a h))

-- q < q' gives q * m + m ≤ q' * m
step : {q q' : ℤ} (m : ℕ) → q <ℤ q' → (q *ℤ pos m +ℤ pos m) ≤ℤ (q' *ℤ pos m)
step {q} {q'} m h = let ρ = q ∷ q' ∷ pos m ∷ [] in ⇑ ρ (search ring) (omega (arith, ⇓ ρ (*_mono {a = q +ℤ pos 1} {b = q'} (pos m) (→≤ (omega arith)) (⇑ ρ (search ring) (omega ℤ_rules))) (search ring)))

-- q ≤ ⌊z / m⌋ and q * m ≤ z say the same, and so do ⌊z / m⌋ ≤ q and z < (q + 1) * m
pub floor_div_ge : {z q : ℤ} (m : ℕ) → 0 < m → (q *ℤ pos m) ≤ℤ z → q ≤ℤ floor_div z m
floor_div_ge {z} {q} m h k =
    ⊎_elim (λ l. l) (λ (l : floor_div z m <ℤ q). absurd (omega (arith, ⇓ ρ k (search ring), ⇓ ρ (floor_div_floor_mod z m h) (search ring), ⇓ ρ (step m l) (search ring), floor_mod_lt z m h))) (≤_total q (floor_div z m))
  where
    ρ : List ℤ
    ρ = z ∷ q ∷ floor_div z m ∷ pos m ∷ pos (floor_mod z m) ∷ []

pub floor_div_le : {z q : ℤ} (m : ℕ) → 0 < m → z <ℤ (q *ℤ pos m +ℤ pos m) → floor_div z m ≤ℤ q
floor_div_le {z} {q} m h k =
    ⊎_elim (λ l. l) (λ (l : q <ℤ floor_div z m). absurd (omega (arith, ⇓ ρ k (search ring), ⇓ ρ (floor_div_floor_mod z m h) (search ring), ⇓ ρ (step m l) (search ring), floor_mod_lt z m h))) (≤_total (floor_div z m) q)
  where
    ρ : List ℤ
    ρ = z ∷ q ∷ floor_div z m ∷ pos m ∷ pos (floor_mod z m) ∷ []

-- ⌊z / m⌋ * m ≤ z < ⌊z / m⌋ * m + m
pub floor_div_low : (z : ℤ) (m : ℕ) → 0 < m → (floor_div z m *ℤ pos m) ≤ℤ z
floor_div_low z m h = let ρ = z ∷ floor_div z m ∷ pos m ∷ pos (floor_mod z m) ∷ [] in ⇑ ρ (search ring) (omega (arith, ⇓ ρ (floor_div_floor_mod z m h) (search ring)))

pub floor_div_high : (z : ℤ) (m : ℕ) → 0 < m → z <ℤ (floor_div z m *ℤ pos m +ℤ pos m)
floor_div_high z m h = let ρ = z ∷ floor_div z m ∷ pos m ∷ pos (floor_mod z m) ∷ [] in ⇑ ρ (search ring) (omega (arith, ⇓ ρ (floor_div_floor_mod z m h) (search ring), floor_mod_lt z m h))

-- no other quotient, and no other remainder
pub floor_div_is : (z q r : ℤ) (m : ℕ) → pos 0 ≤ℤ r → r <ℤ pos m → z ≡ q *ℤ pos m +ℤ r → floor_div z m ≡ q
floor_div_is z q r m h k e = ≤_antisymm (floor_div_le m m>0 (⇑ ρ (search ring) (omega (arith, ⇓ ρ e (search ring), ⇓ ρ k (search ring))))) (floor_div_ge m m>0 (⇑ ρ (search ring) (omega (arith, ⇓ ρ e (search ring), ⇓ ρ h (search ring)))))
  where
    ρ : List ℤ
    ρ = z ∷ q ∷ pos m ∷ r ∷ []

    m>0 : 0 < m
    m>0 = omega ℤ_rules

pub floor_div_unique : (z q : ℤ) (m r : ℕ) → r < m → z ≡ q *ℤ pos m +ℤ pos r → floor_div z m ≡ q
floor_div_unique z q m r h e = floor_div_is z q (pos r) m (→≤ (omega arith)) (→< (omega arith)) e

pub floor_mod_unique : (z q : ℤ) (m r : ℕ) → r < m → z ≡ q *ℤ pos m +ℤ pos r → floor_mod z m ≡ r
floor_mod_unique z q m r h e = omega (arith, ⇓ ρ e (search ring), ⇓ ρ (floor_div_floor_mod z m (omega arith)) (search ring), ⇓ ρ (ap (λ (x : ℤ). x *ℤ pos m) (floor_div_unique z q m r h e)) (search ring))
  where
    ρ : List ℤ
    ρ = z ∷ q ∷ floor_div z m ∷ pos m ∷ pos r ∷ pos (floor_mod z m) ∷ []

pub floor_mod_is : (z q r : ℤ) (m : ℕ) → pos 0 ≤ℤ r → r <ℤ pos m → z ≡ q *ℤ pos m +ℤ r → pos (floor_mod z m) ≡ r
floor_mod_is z q r m h k e = ⇑ ρ (search ring) (omega (arith, ⇓ ρ e (search ring), ⇓ ρ (floor_div_floor_mod z m m>0) (search ring), ⇓ ρ (ap (λ (x : ℤ). x *ℤ pos m) (floor_div_is z q r m h k e)) (search ring)))
  where
    ρ : List ℤ
    ρ = z ∷ q ∷ floor_div z m ∷ pos m ∷ r ∷ pos (floor_mod z m) ∷ []

    m>0 : 0 < m
    m>0 = omega ℤ_rules

pub floor_div_mono : {y z : ℤ} (m : ℕ) → 0 < m → y ≤ℤ z → floor_div y m ≤ℤ floor_div z m
floor_div_mono {y} {z} m h k = floor_div_ge m h (≤_trans (floor_div_low y m h) k)

pub floor_div_add : (z k : ℤ) (m : ℕ) → 0 < m → floor_div (z +ℤ k *ℤ pos m) m ≡ floor_div z m +ℤ k
floor_div_add z k m h = floor_div_unique (z +ℤ k *ℤ pos m) (floor_div z m +ℤ k) m (floor_mod z m) (floor_mod_lt z m h) (⇑ ρ (search ring) (omega (arith, ⇓ ρ (floor_div_floor_mod z m h) (search ring))))
  where
    ρ : List ℤ
    ρ = z ∷ k ∷ floor_div z m ∷ pos m ∷ pos (floor_mod z m) ∷ []

floor_div_mag : (a : ℤ) (m : ℕ) → mag (floor_div a m) ≤ mag a
unfolding floor_div
floor_div_mag (pos a) m = div-le_self a m
floor_div_mag (negsuc a) m = div-le_self a m

pub floor_div_fits : {w : Width} {a : ℤ} (m : ℕ) → SFits w a → SFits w (floor_div a m)
floor_div_fits {w} {a} m f = record { sfits = omega (arith, f.sfits, floor_div_mag a m) }

floor_div_abs : (a : ℤ) (m : ℕ) → nat_abs (floor_div a m) ≤ nat_abs a
unfolding floor_div
floor_div_abs (pos a) m = div-le_self a m
floor_div_abs (negsuc a) m = omega (arith, div-le_self a m)

pub floor_div_holds : (a : ℤ) (m n : ℕ) → nat_abs a ≤ n → nat_abs (floor_div a m) ≤ n
floor_div_holds a m n h = omega (arith, floor_div_abs a m)

-- a rule to list beside `bounds`: the quotient is no larger
abbrev pub bound_floor : {a : ℤ} (m : ℕ) → Bound a → Bound (floor_div a m)
bound_floor {a} m x = record { bound = x.bound; holds = floor_div_holds a m x.bound x.holds }

-- ---- counting on by one: the remainder grows by one, or is full and the quotient grows
nat_unique : (n q m r : ℕ) → r < m → n ≡ q * m + r → (n / m ≡ q) × (n % m ≡ r)
unfolding floor_div floor_mod
nat_unique n q m r h e = (omega (arith, ≡→ (floor_div_unique (pos n) (pos q) m r h (ap pos e))), floor_mod_unique (pos n) (pos q) m r h (ap pos e))

pub div_step : (m n : ℕ) → n % m + 1 < m → ((n + 1) / m ≡ n / m) × ((n + 1) % m ≡ n % m + 1)
div_step m n h = nat_unique (n + 1) (n / m) m (n % m + 1) h (omega (arith, div-add-mod' n m))

pub div_wrap : (m n : ℕ) → n % m + 1 ≡ m → 0 < m → ((n + 1) / m ≡ n / m + 1) × ((n + 1) % m ≡ 0)
div_wrap m n h p = nat_unique (n + 1) (n / m + 1) m 0 p (omega (arith, div-add-mod' n m))

-- worked: by a numeral it computes, otherwise by these laws
a_week_later : (z : ℤ) → floor_div (z +ℤ pos 1 *ℤ pos 7) 7 ≡ floor_div z 7 +ℤ pos 1
a_week_later z = floor_div_add z (pos 1) 7 (omega arith)

near : (z : ℤ) → z -ℤ pos 7 ≺ floor_div z 7 *ℤ pos 7
near z = let ρ = z ∷ floor_div z 7 ∷ [] in ⇑ ρ (search ring depth 9) (omega (arith, ⇓ ρ (floor_div_high z 7 (omega arith)) (search ring)))
