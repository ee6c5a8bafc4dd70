-- Bounds on each element of a list (`All`) pass to its parts and to lists put together. Assumes nothing.
use Rattle.std.specs.Prelude.{List, [], ◌∷◌, ◌++◌, ℕ, zero, suc, ◌+◌, ◌≤◌, ℤ, pos, get_or, take, drop, replicate}
use Rattle.std.proofs.Common.{arith, get_or-drop}
use Rattle.whole.specs.Ranges.{Within, All}

module _ {n : ℕ} where
  pub zero_within : Within n (pos 0)
  zero_within = record { within = omega arith }

  pub all_wider : {m : ℕ} {xs : List ℤ} → All n xs → n ≤ m → All m xs
  all_wider h l = record { each = λ k. record { within = omega (arith, (h.each k).within) } }

  pub all_drop : (i : ℕ) {xs : List ℤ} → All n xs → All n (drop i xs)
  all_drop i {xs} h = record { each = λ k. rw (get_or-drop i xs k (pos 0)) (h.each (i + k)) }

  pub all_take : (i : ℕ) {xs : List ℤ} → All n xs → All n (take i xs)
  all_take i {xs} h = record { each = part i xs h.each }
    where
      part : (i : ℕ) (xs : List ℤ) → ((k : ℕ) → Within n (get_or xs k (pos 0))) → (k : ℕ) → Within n (get_or (take i xs) k (pos 0))
      part zero xs e k = zero_within
      part (suc i) [] e k = zero_within
      part (suc i) (x ∷ xs) e zero = e 0
      part (suc i) (x ∷ xs) e (suc k) = part i xs (λ j. e (suc j)) k

  pub all_append : {xs ys : List ℤ} → All n xs → All n ys → All n (xs ++ ys)
  all_append {xs} {ys} h l = record { each = joined xs h.each }
    where
      joined : (xs : List ℤ) → ((k : ℕ) → Within n (get_or xs k (pos 0))) → (k : ℕ) → Within n (get_or (xs ++ ys) k (pos 0))
      joined [] e k = l.each k
      joined (x ∷ xs) e zero = e 0
      joined (x ∷ xs) e (suc k) = joined xs (λ j. e (suc j)) k

  pub all_zeros : (i : ℕ) → All n (replicate i (pos 0))
  all_zeros i = record { each = zeros i }
    where
      zeros : (i k : ℕ) → Within n (get_or (replicate i (pos 0)) k (pos 0))
      zeros zero k = zero_within
      zeros (suc i) zero = zero_within
      zeros (suc i) (suc k) = zeros i k
