-- What the library's `find` over the numbers below an end tells of the first that passes a test. Assumes nothing.
use mathlib.Core.Path.{◌≡◌, sym, ap}
use mathlib.Core.Bool.{Bool, true, false}
use Prim.Native.Nat.{ℕ, ◌≤◌, ◌<◌}
use native.Mathlib.Omega.{arith}
use Rattle.std.proofs.Math.Decide.{dec_lt}
use Rattle.std.specs.Option.{unwrap_or, MatchOption}
use Rattle.std.proofs.Common.{Option, Some, None}
use Rattle.whole.specs.Booleans.{not_both}
use Rattle.whole.specs.Found.{first_below, first_below_small, first_below_before, first_below_passes}

module _ (test : ℕ → Bool) (n : ℕ) where
  -- a place before which none passes, and which passes unless it is the end
  first_is : (i : ℕ) → i ≤ n → ((k : ℕ) → k < i → test k ≡ false) → (i < n → test i ≡ true) → first_below test n ≡ i
  first_is i few before here = go (dec_lt (first_below test n) i) (dec_lt i (first_below test n))
    where
      go : Dec (first_below test n < i) → Dec (i < first_below test n) → first_below test n ≡ i
      go (yes l) b = not_both (first_below_passes test n (omega arith)) (before (first_below test n) l)
      go (no l) (yes m) = not_both (here (omega (arith, first_below_small test n))) (first_below_before test n i m)
      go (no l) (no m) = omega arith

  -- what `find` answers of the test
  abbrev pub Sought : Option ℕ → Type 0
  Sought r = MatchOption r ((k : ℕ) → 0 ≤ k → k < n → test k ≡ false) (λ i. (0 ≤ i) × (i < n) × (test i ≡ true) × ((k : ℕ) → 0 ≤ k → k < i → test k ≡ false))

  pub found : (r : Option ℕ) → Sought r → unwrap_or r n ≡ first_below test n
  found None none = sym (first_is n (omega arith) (λ k h. none k (omega arith) h) (λ h. absurd (omega arith)))
  found (Some i) (low, high, here, none) = sym (first_is i (omega arith) (λ k h. none k (omega arith) h) (λ h. here))

  -- where one passes, it is found
  pub found_surely : first_below test n < n → (r : Option ℕ) → Sought r → r ≡ Some (first_below test n)
  found_surely one None none = not_both (first_below_passes test n one) (none (first_below test n) (omega arith) one)
  found_surely one (Some i) (low, high, here, none) = ap Some (sym (first_is i (omega arith) (λ k h. none k (omega arith) h) (λ h. here)))
