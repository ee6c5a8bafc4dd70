-- The machine's division, remainder and shift of signed numbers, and how to get a quotient that is rounded down from them. Assumes nothing.
use Rattle.std.specs.Prelude.{◌≡◌, refl, List, [], ◌∷◌, ℕ, zero, suc, ◌/◌, ◌%◌, ◌≤◌, ◌<◌, ℤ, pos, negsuc, neg_ℤ, ◌+ℤ◌, ◌-ℤ◌, ◌*ℤ◌, ◌≤ℤ◌, ◌<ℤ◌, nat_abs}
use Rattle.std.proofs.Common.{sym, ap, ◌∙◌, arith, div-add-mod', mod-lt, div-le_self, SFits, to_z, of_z, to_z-of_z}
use Rattle.whole.specs.Parts.{→<, <→}
use Rattle.std.specs.Int.Signed.{quot_z, rem_z, shr_z, mag, mag_rem}
use Rattle.std.specs.Int.{Width}
use Rattle.whole.specs.Parts.{pos_part_neg, neg_part_neg}
use Rattle.whole.specs.Solver.{⇑, ⇓, ring}
use Rattle.whole.specs.Floor.{floor_div, floor_mod}
use Rattle.whole.proofs.Floor.{floor_div_is, floor_div_fits, floor_mod_is, floor_mod_lt}

-- ---- the machine's division, which rounds toward zero
quot_mag : (a m : ℤ) → pos 0 <ℤ m → mag (quot_z a m) ≤ mag a
quot_mag (pos a) (pos m) h = div-le_self a m
quot_mag (pos a) (negsuc m) h = absurd h.lt
quot_mag (negsuc a) (pos m) h = go (suc a / m) (div-le_self (suc a) m)
  where
    go : (q : ℕ) → q ≤ suc a → mag (neg_ℤ (pos q)) ≤ a
    go zero k = omega arith
    go (suc q) k = omega arith
quot_mag (negsuc a) (negsuc m) h = absurd h.lt

of_z_pos : (w : Width) (m : ℤ) → pos 0 <ℤ m → 0 < of_z w m
of_z_pos w (pos m) h = omega (arith, <→ h)
of_z_pos w (negsuc m) h = absurd h.lt

pub quot_fits : {w : Width} {a m : ℤ} → SFits w a → pos 0 <ℤ m → SFits w (quot_z a m)
quot_fits {w} {a} {m} f h = record { sfits = omega (arith, f.sfits, quot_mag a m h) }

-- what `a / m` and `a % m` ask, at a positive m
pub div_need : {w : Width} {a m : ℤ} → SFits w a → SFits w m → pos 0 <ℤ m → (0 < of_z w m) × SFits w (quot_z (to_z w (of_z w a)) (to_z w (of_z w m)))
div_need {w} {a} {m} f g h = (of_z_pos w m h, rw (to_z-of_z f, to_z-of_z g) (quot_fits f h))

module _ (A q Reading r : ℤ) (e : A ≡ q *ℤ Reading +ℤ r) where
  nn : A ≡ neg_ℤ q *ℤ neg_ℤ Reading +ℤ r
  nn = let ρ = A ∷ q ∷ Reading ∷ r ∷ [] in ⇑ ρ (search ring depth 9) (omega (arith, ⇓ ρ e (search ring)))

  np : neg_ℤ A ≡ neg_ℤ q *ℤ Reading +ℤ neg_ℤ r
  np = let ρ = A ∷ q ∷ Reading ∷ r ∷ [] in ⇑ ρ (search ring depth 9) (omega (arith, ⇓ ρ e (search ring)))

  pn : neg_ℤ A ≡ q *ℤ neg_ℤ Reading +ℤ neg_ℤ r
  pn = let ρ = A ∷ q ∷ Reading ∷ r ∷ [] in ⇑ ρ (search ring depth 9) (omega (arith, ⇓ ρ e (search ring)))

nat_div : (a m : ℕ) → pos a ≡ pos (a / m) *ℤ pos m +ℤ pos (a % m)
nat_div a m = ap pos (sym (div-add-mod' a m))

pub quot_rem : (a m : ℤ) → a ≡ quot_z a m *ℤ m +ℤ rem_z a m
quot_rem (pos a) (pos m) = nat_div a m
quot_rem (pos a) (negsuc m) = nn (pos a) (pos (a / suc m)) (pos (suc m)) (pos (a % suc m)) (nat_div a (suc m))
quot_rem (negsuc a) (pos m) = np (pos (suc a)) (pos (suc a / m)) (pos m) (pos (suc a % m)) (nat_div (suc a) m)
quot_rem (negsuc a) (negsuc m) = pn (pos (suc a)) (pos (suc a / suc m)) (pos (suc m)) (pos (suc a % suc m)) (nat_div (suc a) (suc m))

-- the remainder is nearer to zero than m
pub rem_lt : (a m : ℤ) → pos 0 <ℤ m → (neg_ℤ m <ℤ rem_z a m) × (rem_z a m <ℤ m)
rem_lt a (negsuc m) h = absurd h.lt
rem_lt (pos a) (pos m) h = (→< (omega (arith, pos_part_neg (pos m), neg_part_neg (pos m), <→ h)), →< (omega (arith, <→ h, mod-lt a {m = m} (omega (arith, <→ h)))))
rem_lt (negsuc a) (pos m) h = (→< (omega (arith, <→ h, pos_part_neg (pos m), neg_part_neg (pos m), pos_part_neg (pos (suc a % m)), neg_part_neg (pos (suc a % m)), mod-lt (suc a) {m = m} (omega (arith, <→ h)))), →< (omega (arith, <→ h, pos_part_neg (pos (suc a % m)), neg_part_neg (pos (suc a % m)))))

-- the quotient that rounds down, from the two of the machine
pub floor_neg : (a m : ℤ) → pos 0 <ℤ m → rem_z a m <ℤ pos 0 → quot_z a m -ℤ pos 1 ≡ floor_div a (nat_abs m)
floor_neg a (negsuc m) h k = absurd h.lt
floor_neg a (pos m) h k = sym (floor_div_is a (quot_z a (pos m) -ℤ pos 1) (rem_z a (pos m) +ℤ pos m) m (⇑ ρ (search ring depth 9) (omega (arith, ⇓ ρ (rem_lt a (pos m) h).0 (search ring)))) (⇑ ρ (search ring depth 9) (omega (arith, ⇓ ρ k (search ring)))) (⇑ ρ (search ring depth 9) (omega (arith, ⇓ ρ (quot_rem a (pos m)) (search ring)))))
  where
    ρ : List ℤ
    ρ = a ∷ quot_z a (pos m) ∷ rem_z a (pos m) ∷ pos m ∷ []

pub floor_pos : (a m : ℤ) → pos 0 <ℤ m → pos 0 ≤ℤ rem_z a m → quot_z a m ≡ floor_div a (nat_abs m)
floor_pos a (negsuc m) h k = absurd h.lt
floor_pos a (pos m) h k = sym (floor_div_is a (quot_z a (pos m)) (rem_z a (pos m)) m k (rem_lt a (pos m) h).1 (quot_rem a (pos m)))

pub rem_fits : {w : Width} {a : ℤ} (m : ℤ) → SFits w a → SFits w (rem_z a m)
rem_fits {w} {a} m f = record { sfits = omega (arith, f.sfits, mag_rem a m) }

-- the machine's shift to the right of a signed number rounds down: what `a >> k` is, at m = 2 ^ k
shr_is : (a : ℤ) (m : ℕ) → shr_z a m ≡ floor_div a m
unfolding floor_div
shr_is (pos a) m = refl
shr_is (negsuc a) m = refl

pub shr_back : {w : Width} {a : ℤ} (m : ℕ) → SFits w a → to_z w (of_z w (shr_z (to_z w (of_z w a)) m)) ≡ floor_div a m
shr_back {w} {a} m f = ap (λ (z : ℤ). to_z w (of_z w (shr_z z m))) (to_z-of_z f) ∙ ap (λ (z : ℤ). to_z w (of_z w z)) (shr_is a m) ∙ to_z-of_z (floor_div_fits m f)

-- the remainder that is never negative, from that of the machine
pub mod_neg : (a m : ℤ) → pos 0 <ℤ m → rem_z a m <ℤ pos 0 → rem_z a m +ℤ m ≡ pos (floor_mod a (nat_abs m))
mod_neg a (negsuc m) h k = absurd h.lt
mod_neg a (pos m) h k = sym (floor_mod_is a (quot_z a (pos m) -ℤ pos 1) (rem_z a (pos m) +ℤ pos m) m (⇑ ρ (search ring depth 9) (omega (arith, ⇓ ρ (rem_lt a (pos m) h).0 (search ring)))) (⇑ ρ (search ring depth 9) (omega (arith, ⇓ ρ k (search ring)))) (⇑ ρ (search ring depth 9) (omega (arith, ⇓ ρ (quot_rem a (pos m)) (search ring)))))
  where
    ρ : List ℤ
    ρ = a ∷ quot_z a (pos m) ∷ rem_z a (pos m) ∷ pos m ∷ []

pub mod_pos : (a m : ℤ) → pos 0 <ℤ m → pos 0 ≤ℤ rem_z a m → rem_z a m ≡ pos (floor_mod a (nat_abs m))
mod_pos a (negsuc m) h k = absurd h.lt
mod_pos a (pos m) h k = sym (floor_mod_is a (quot_z a (pos m)) (rem_z a (pos m)) m k (rem_lt a (pos m) h).1 (quot_rem a (pos m)))

pub mod_fits : {w : Width} (a m : ℤ) → SFits w m → pos 0 <ℤ m → rem_z a m <ℤ pos 0 → SFits w (rem_z a m +ℤ m)
mod_fits a (negsuc m) f h k = absurd h.lt
mod_fits a (pos m) f h k = rw (mod_neg a (pos m) h k) (record { sfits = omega (arith, f.sfits, floor_mod_lt a m (omega (arith, <→ h))) })
