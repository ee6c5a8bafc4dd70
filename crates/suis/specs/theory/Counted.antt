-- Days that rise, given as the first values of a function: how many are not after a day, from where they pass it; and the same counted in a part of them.
-- Assumes nothing.
use Rattle.std.specs.Prelude.{◌≡◌, ℕ, zero, suc, ◌+◌, ◌-◌, ◌≤◌, ◌<◌, ℤ, ◌≤ℤ◌, ◌<ℤ◌}
use Rattle.std.proofs.Common.{arith}
use Rattle.std.proofs.Math.Decide.{dec_lt}
use Rattle.turns.specs.theory.Counting.{Rises, by, by_small, split, is_by, is_after}

-- the days from a place on
abbrev pub from_place : (ℕ → ℤ) → ℕ → ℕ → ℤ
from_place f m k = f (m + k)

-- the count is c where the first c are not after the day and the next one is
pub by_is : (f : ℕ → ℤ) (n : ℕ) → Rises f n → (day : ℤ) (c : ℕ) → c ≤ n → ((k : ℕ) → k < c → f k ≤ℤ day) → ((k : ℕ) → c ≤ k → k < n → day <ℤ f k) → by f day n ≡ c
by_is f n r day zero h first later = go (dec_lt 0 n)
  where
    go : Dec (0 < n) → by f day n ≡ 0
    go (yes l) = omega (arith, is_after f n r day 0 l (later 0 (omega arith) l))
    go (no l) = omega (arith, by_small f day n)
by_is f n r day (suc c) h first later = go (dec_lt (suc c) n)
  where
    least : c < by f day n
    least = is_by f n r day c (omega arith) (first c (omega arith))

    go : Dec (suc c < n) → by f day n ≡ suc c
    go (yes l) = omega (arith, least, is_after f n r day (suc c) l (later (suc c) (omega arith) l))
    go (no l) = omega (arith, least, by_small f day n)

module _ (f : ℕ → ℤ) (n : ℕ) (r : Rises f n) (m w : ℕ) (inside : m + w ≤ n) where
  pub part_rises : Rises (from_place f m) w
  part_rises i k h l = r (m + i) (m + k) (omega arith) (omega arith)

  -- a count that ends in the part is counted by it
  pub by_part : (day : ℤ) → m ≤ by f day n → by f day n ≤ m + w → by (from_place f m) day w ≡ by f day n - m
  by_part day low high =
      by_is (from_place f m) w part_rises day (by f day n - m) (omega arith)
      (λ k h. (split f day n r).first (m + k) (omega arith))
      (λ k h l. (split f day n r).later (m + k) (omega arith) (omega arith))
