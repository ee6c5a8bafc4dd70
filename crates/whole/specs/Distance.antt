-- How far one whole number lies after another, the number half way between them, and the numbers next to one. Assumes nothing.
use Rattle.std.specs.Prelude.{◌≡◌, [], ◌∷◌, ℕ, suc, ◌+◌, ◌/◌, ◌^◌, ◌≤◌, ◌<◌, ℤ, pos, negsuc, neg_ℤ, nat_abs, ◌+ℤ◌, ◌-ℤ◌, ◌≤ℤ◌, ◌<ℤ◌, T}
use Rattle.std.proofs.Common.{ap, arith, div-le_self, Fits, SFits}
use Rattle.std.specs.Int.Signed.{non_neg, yes_non_neg, mag}
use Rattle.std.specs.Int.{w64}
use Rattle.whole.specs.Parts.{pos_part, neg_part, ≤→, →≡, ℤ_rules, parts_add}
use Rattle.whole.specs.Laws.{abs_of_nonneg, ≤_trans, <→≤}
use Rattle.whole.specs.Solver.{⇑, ⇓, ring}

abbrev pub distance_from : ℤ → ℤ → ℕ
distance_from a b = nat_abs (b -ℤ a)

module _ {a b : ℤ} (h : a ≤ℤ b) where
  pub difference_nonneg : pos 0 ≤ℤ (b -ℤ a)
  difference_nonneg = let ρ = a ∷ b ∷ [] in ⇑ ρ (search ring) (omega (arith, ⇓ ρ h (search ring)))

  -- b is a and the distance
  pub distance_is : pos (distance_from a b) ≡ b -ℤ a
  distance_is = abs_of_nonneg difference_nonneg

  module _ (l : distance_from a b < 2 ^ 63) where
    pub difference_fits : SFits w64 (b -ℤ a)
    difference_fits = small (b -ℤ a) difference_nonneg l
      where
        small : (z : ℤ) → pos 0 ≤ℤ z → nat_abs z < 2 ^ 63 → SFits w64 z
        small (pos n) k m = record { sfits = m }
        small (negsuc n) k m = absurd k.le

    pub difference_casts : T (non_neg (b -ℤ a)) × Fits w64 (nat_abs (b -ℤ a))
    difference_casts = (yes_non_neg difference_nonneg, record { fits = omega arith })

-- the number half way from a to b, rounded toward a
abbrev pub half_way : ℤ → ℤ → ℤ
half_way a b = a +ℤ pos (distance_from a b / 2)

module _ {a b : ℤ} (h : a ≤ℤ b) where
  pub half_way_low : a ≤ℤ half_way a b
  half_way_low = let ρ = a ∷ pos (distance_from a b / 2) ∷ [] in ⇑ ρ (search ring) (omega arith)

  pub half_way_high : half_way a b ≤ℤ b
  half_way_high = let ρ = a ∷ b ∷ pos (distance_from a b) ∷ pos (distance_from a b / 2) ∷ [] in ⇑ ρ (search ring) (omega (arith, ⇓ ρ (distance_is h) (search ring), div-le_self (distance_from a b) 2))

-- what lies between two numbers that fit, fits
pub between_fits : {a b c : ℤ} → SFits w64 a → SFits w64 c → a ≤ℤ b → b ≤ℤ c → SFits w64 b
between_fits {a} {b} {c} f g h k = go a b c f.sfits g.sfits (≤→ h) (≤→ k)
  where
    go : (a b c : ℤ) → mag a < 2 ^ 63 → mag c < 2 ^ 63 → pos_part a + neg_part b ≤ pos_part b + neg_part a → pos_part b + neg_part c ≤ pos_part c + neg_part b → SFits w64 b
    go (pos x) (pos y) (pos z) l m p q = record { sfits = omega arith }
    go (pos x) (pos y) (negsuc z) l m p q = absurd (omega arith)
    go (pos x) (negsuc y) z l m p q = absurd (omega arith)
    go (negsuc x) (pos y) (pos z) l m p q = record { sfits = omega arith }
    go (negsuc x) (pos y) (negsuc z) l m p q = absurd (omega arith)
    go (negsuc x) (negsuc y) z l m p q = record { sfits = omega arith }

-- one further on is one further away
pub distance_next : {a b : ℤ} → a ≤ℤ b → distance_from a (b +ℤ pos 1) ≡ distance_from a b + 1
distance_next {a} {b} h =
    let ρ = a ∷ b ∷ pos (distance_from a b) ∷ pos (distance_from a (b +ℤ pos 1)) ∷ [] in
    let k : a ≤ℤ (b +ℤ pos 1) = ⇑ ρ (search ring) (omega (arith, ⇓ ρ h (search ring))) in
    omega (arith, ⇓ ρ (distance_is h) (search ring), ⇓ ρ (distance_is k) (search ring))

-- ---- by how far a number lies after another

pub lies_after : {a b : ℤ} → a ≤ℤ b → b ≡ a +ℤ pos (distance_from a b)
lies_after {a} {b} h =
    let ρ = a ∷ b ∷ pos (distance_from a b) ∷ [] in
    ⇑ ρ (search ring depth 9) (omega (arith, ⇓ ρ (distance_is h) (search ring depth 9)))

pub distance_of : (a b : ℤ) (n : ℕ) → b ≡ a +ℤ pos n → distance_from a b ≡ n
distance_of a b n e = let ρ = a ∷ b ∷ pos n ∷ [] in
    let d : b -ℤ a ≡ pos n = ⇑ ρ (search ring depth 9) (omega (arith, ⇓ ρ e (search ring depth 9))) in
    ap nat_abs d

pub distances_add : {a b c : ℤ} → a ≤ℤ b → b ≤ℤ c → distance_from a c ≡ distance_from a b + distance_from b c
distances_add {a} {b} {c} h k =
    omega (ℤ_rules, lies_after h, lies_after k, lies_after (≤_trans h k), parts_add a (pos (distance_from a b)), parts_add b (pos (distance_from b c)), parts_add a (pos (distance_from a c)))

-- from one further on it is one less far
pub one_nearer : {a b : ℤ} → a <ℤ b → distance_from a b ≡ suc (distance_from (a +ℤ pos 1) b)
one_nearer {a} {b} h =
    let left = distance_from (a +ℤ pos 1) b in
    let next : (a +ℤ pos 1) ≤ℤ b = omega (ℤ_rules, parts_add a (pos 1)) in
    distance_of a b (suc left) (omega (ℤ_rules, lies_after next, parts_add a (pos 1), parts_add (a +ℤ pos 1) (pos left), parts_add a (pos (suc left))))

pub distance_positive : {a b : ℤ} → a <ℤ b → 0 < distance_from a b
distance_positive {a} {b} h = omega (ℤ_rules, lies_after (<→≤ h), parts_add a (pos (distance_from a b)))

-- ---- a number and its neighbours

pub clash : {a b : ℤ} → a <ℤ b → b ≤ℤ a → ⊥
clash {a} {b} h k = omega ℤ_rules

-- n + 1 after a is n after the next
pub next : (a : ℤ) (n : ℕ) → a +ℤ pos (suc n) ≡ (a +ℤ pos 1) +ℤ pos n
next a n = →≡ (omega (arith, parts_add a (pos (suc n)), parts_add a (pos 1), parts_add (a +ℤ pos 1) (pos n)))

pub back_one : (a : ℤ) → (a +ℤ pos 1) -ℤ pos 1 ≡ a
back_one a = →≡ (omega (arith, parts_add a (pos 1), parts_add (a +ℤ pos 1) (neg_ℤ (pos 1))))

-- the numbers one and two before s, as `omega` reads them
pub one_before : (s : ℤ) → pos_part (s -ℤ pos 1) + (neg_part s + 1) ≡ pos_part s + neg_part (s -ℤ pos 1)
one_before s = omega (arith, parts_add s (neg_ℤ (pos 1)))

pub two_before : (s : ℤ) → pos_part (s -ℤ pos 2) + (neg_part s + 2) ≡ pos_part s + neg_part (s -ℤ pos 2)
two_before s = omega (arith, parts_add s (neg_ℤ (pos 2)))
