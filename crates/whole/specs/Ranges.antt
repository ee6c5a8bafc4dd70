-- Ranges of whole numbers. `Within n z` says |z| ≤ n, `All n xs` says it of each element of a list, and `fits (search bounds) tt` shows from such
-- facts that an operation's result fits the machine. Then what `==`, casts and branches on signed numbers tell. Assumes nothing.
use Rattle.std.specs.Prelude.{◌≡◌, ℕ, suc, ◌+◌, ◌*◌, ◌^◌, ◌≤◌, ◌<◌, ℤ, pos, negsuc, neg_ℤ, nat_abs, ◌+ℤ◌, ◌-ℤ◌, ◌*ℤ◌, ◌≤ℤ◌, ◌<ℤ◌, List, get_or, T, leb, ltb}
use Rattle.std.proofs.Common.{sym, ap, ◌∙◌, arith, le_refl, leb→le, ltb→lt, to_z-of_z}
use Rattle.std.specs.Int.Signed.{mag, non_neg, yes_non_neg, pos-nat_abs}
use Rattle.std.specs.Int.{Width, w64}
use mir.Val.{SFits, Fits, hbits, bits, to_z, of_z}
use Rattle.std.proofs.Math.Facts.{Fits-nat_abs}
use Rattle.whole.specs.Parts.{pos_part, neg_part, parts_abs, parts_add, →≡, <→}
use Rattle.whole.specs.Laws.{abs-*_le, abs-+_le, abs_neg}

pub record Within (n : ℕ) (z : ℤ) : Type 0 where
  pub within : nat_abs z ≤ n

-- each element is within n. Past the end stands 0, so no index is left out
pub record All (n : ℕ) (xs : List ℤ) : Type 0 where
  pub each : (k : ℕ) → Within n (get_or xs k (pos 0))

-- a bound with its proof, which `search bounds` makes of the bounds in reach
pub record Bound (z : ℤ) : Type 0 where
  pub bound : ℕ
  pub holds : nat_abs z ≤ bound

abbrev pub bound_hyp : {n : ℕ} {z : ℤ} → Within n z → Bound z
bound_hyp {n} h = record { bound = n; holds = h.within }

abbrev pub bound_pos : (n : ℕ) → Bound (pos n)
bound_pos n = record { bound = n; holds = le_refl n }

abbrev pub bound_negsuc : (n : ℕ) → Bound (negsuc n)
bound_negsuc n = record { bound = suc n; holds = le_refl (suc n) }

pub neg_holds : (z : ℤ) (n : ℕ) → nat_abs z ≤ n → nat_abs (neg_ℤ z) ≤ n
neg_holds z n h = omega (arith, abs_neg z)

abbrev pub bound_neg : {a : ℤ} → Bound a → Bound (neg_ℤ a)
bound_neg {a} x = record { bound = x.bound; holds = neg_holds a x.bound x.holds }

abbrev pub bound_add : {a b : ℤ} → Bound a → Bound b → Bound (a +ℤ b)
bound_add {a} {b} x y = record { bound = x.bound + y.bound; holds = abs-+_le a b x.holds y.holds }

abbrev pub bound_mul : {a b : ℤ} → Bound a → Bound b → Bound (a *ℤ b)
bound_mul {a} {b} x y = record { bound = x.bound * y.bound; holds = abs-*_le a b x.holds y.holds }

pub back_holds : {w : Width} {z : ℤ} (n : ℕ) → SFits w z → nat_abs z ≤ n → nat_abs (to_z w (of_z w z)) ≤ n
back_holds {w} {z} n f h = rw (to_z-of_z f) h

abbrev pub bound_back : {w : Width} {z : ℤ} → SFits w z → Bound z → Bound (to_z w (of_z w z))
bound_back {w} {z} f x = record { bound = x.bound; holds = back_holds x.bound f x.holds }

pub eq_holds : {a b : ℤ} (n : ℕ) → a ≡ b → nat_abs b ≤ n → nat_abs a ≤ n
eq_holds n e h = rw e h

-- to list beside `bounds`, for a call's result that is known by an equation: `search (bounds, bound_eq c.f.ensures)`
abbrev pub bound_eq : {a b : ℤ} → a ≡ b → Bound b → Bound a
bound_eq e x = record { bound = x.bound; holds = eq_holds x.bound e x.holds }

mag_le : (z : ℤ) → mag z ≤ nat_abs z
mag_le (pos n) = omega arith
mag_le (negsuc n) = omega arith

-- what is within a bound that fits, fits
pub fit_hyp : {w : Width} {n : ℕ} {z : ℤ} → Within n z → T (ltb n (2 ^ hbits w)) → SFits w z
fit_hyp {w} {n} {z} h t = record { sfits = omega (arith, h.within, ltb→lt n (2 ^ hbits w) t, mag_le z) }

pub ruleset bounds = (bound_add, bound_mul, bound_neg, bound_pos, bound_negsuc, bound_back, bound_hyp, fit_hyp, tt)

-- z fits, where its bound is below half the width's power: `fits (search bounds) tt` where the bound is a numeral
pub fits : {w : Width} {z : ℤ} (b : Bound z) → T (ltb b.bound (2 ^ hbits w)) → SFits w z
fits {w} {z} b t = record { sfits = omega (arith, b.holds, ltb→lt b.bound (2 ^ hbits w) t, mag_le z) }

-- the same where the bound has variables: `fits< (search bounds) (omega arith)`
pub fits< : {w : Width} {z : ℤ} (b : Bound z) → b.bound < 2 ^ hbits w → SFits w z
fits< {w} {z} b t = record { sfits = omega (arith, b.holds, mag_le z) }

pub within : {n : ℕ} {z : ℤ} (b : Bound z) → T (leb b.bound n) → Within n z
within {n} {z} b t = record { within = omega (arith, b.holds, leb→le b.bound n t) }

pub within≤ : {n : ℕ} {z : ℤ} (b : Bound z) → b.bound ≤ n → Within n z
within≤ {n} {z} b t = record { within = omega (arith, b.holds) }

-- a bound as what `omega` reads: `omega (ℤ_rules, within→)` reads each `Within n z` in reach
pub within→ : {n : ℕ} {z : ℤ} → Within n z → pos_part z + neg_part z ≤ n
within→ {n} {z} h = omega (arith, h.within, parts_abs z)

-- an `==` of two signed numbers compares their bits
pub of_z_inj : {w : Width} {a b : ℤ} → SFits w a → SFits w b → of_z w a ≡ of_z w b → a ≡ b
of_z_inj {w} f g e = sym (to_z-of_z f) ∙ ap (to_z w) e ∙ to_z-of_z g

-- what `a as usize` asks, and what it gives, of a signed number that is not negative: `pos (nat_abs ..)` is the number
pub cast_need : {w : Width} {a : ℤ} → T (ltb (hbits w) (bits w)) → SFits w a → pos 0 ≤ℤ a → T (non_neg (to_z w (of_z w a))) × Fits w (nat_abs (to_z w (of_z w a)))
cast_need {w} {a} t f h = rw (to_z-of_z f) (yes_non_neg h, Fits-nat_abs t f)

pub cast_is : {w : Width} {a : ℤ} → SFits w a → pos 0 ≤ℤ a → pos (nat_abs (to_z w (of_z w a))) ≡ a
cast_is {w} {a} f h = rw (to_z-of_z f) (pos-nat_abs a (yes_non_neg h))

-- the absolute value of a negative number by way of `-1 - a`, which always fits
pub below_zero : {a : ℤ} → SFits w64 a → a <ℤ pos 0 → SFits w64 (negsuc 0 -ℤ a) × (T (non_neg (negsuc 0 -ℤ a)) × (Fits w64 (nat_abs (negsuc 0 -ℤ a)) × (nat_abs (negsuc 0 -ℤ a) + 1 ≡ nat_abs a)))
below_zero {a} f h = go a f.sfits h
  where
    back_up : (n : ℕ) → negsuc 0 -ℤ negsuc n ≡ pos n
    back_up n = →≡ (omega (arith, parts_add (negsuc 0) (pos (suc n))))

    go : (a : ℤ) → mag a < 2 ^ 63 → a <ℤ pos 0 → SFits w64 (negsuc 0 -ℤ a) × (T (non_neg (negsuc 0 -ℤ a)) × (Fits w64 (nat_abs (negsuc 0 -ℤ a)) × (nat_abs (negsuc 0 -ℤ a) + 1 ≡ nat_abs a)))
    go (pos n) f h = absurd (omega (arith, <→ h))
    go (negsuc n) f h = rw (back_up n) (record { sfits = f }, (tt, (record { fits = omega arith }, omega arith)))

-- a signed local holds bits: the range that a call's `.ok` tells of its result, and the result read back from its bits
pub fits_of : (z : ℤ) → mag z < 2 ^ 63 → SFits w64 z
fits_of z h = record { sfits = h }

pub back : (z : ℤ) → mag z < 2 ^ 63 → to_z w64 (of_z w64 z) ≡ z
back z h = to_z-of_z (fits_of z h)
