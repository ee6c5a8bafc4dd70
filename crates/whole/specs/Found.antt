-- The first number from k on, among m, that passes a test; k + m where none does. A loop looks at them one by one. Assumes nothing.
use Rattle.std.specs.Prelude.{◌≡◌, Bool}
use Rattle.std.proofs.Math.Path.{refl, ap}
use Rattle.std.proofs.Common.{◌∙◌}
use Rattle.std.proofs.Math.Bool.{true, false, cond}
use Prim.Native.Nat.{ℕ, zero, suc, ◌+◌, ◌-◌, ◌≤◌, ◌<◌}
use native.Mathlib.Omega.{arith}

unfoldable pub first_from : (ℕ → Bool) → ℕ → ℕ → ℕ
first_from test k zero = k
first_from test k (suc m) = cond (test k) k (first_from test (suc k) m)

-- the first below n; n where there is none
unfoldable pub first_below : (ℕ → Bool) → ℕ → ℕ
first_below test n = first_from test 0 n

module _ (test : ℕ → Bool) where
  pub first_turn_lem : (k n : ℕ) → k < n → test k ≡ false → first_from test k (n - k) ≡ first_from test (k + 1) (n - (k + 1))
  first_turn_lem k n h e = ap (first_from test k) more ∙ (unfold first_from in rw e (ap (λ (i : ℕ). first_from test i (n - (k + 1))) (omega arith)))
    where
      more : n - k ≡ suc (n - (k + 1))
      more = omega arith

  pub first_here : (k n : ℕ) → k < n → test k ≡ true → first_from test k (n - k) ≡ k
  first_here k n h e = ap (first_from test k) more ∙ (unfold first_from in rw e)
    where
      more : n - k ≡ suc (n - (k + 1))
      more = omega arith

  pub first_none : (k n : ℕ) → n ≤ k → first_from test k (n - k) ≡ k
  first_none k n h = ap (first_from test k) none ∙ (unfold first_from in refl)
    where
      none : n - k ≡ 0
      none = omega arith

  pub first_begins : (n : ℕ) → first_below test n ≡ first_from test 0 (n - 0)
  unfolding first_below
  first_begins n = ap (first_from test 0) (omega arith)

  -- what is found lies among them, and those before it do not pass
  pub first_small : (k m : ℕ) → (k ≤ first_from test k m) × (first_from test k m ≤ k + m)
  unfolding first_from
  first_small k zero = omega arith
  first_small k (suc m) = go (test k) (first_small (suc k) m)
    where
      go : (b : Bool) → (suc k ≤ first_from test (suc k) m) × (first_from test (suc k) m ≤ suc k + m) → (k ≤ cond b k (first_from test (suc k) m)) × (cond b k (first_from test (suc k) m) ≤ k + suc m)
      go true h = omega arith
      go false h = omega arith

  pub first_below_small : (n : ℕ) → first_below test n ≤ n
  unfolding first_below
  first_below_small n = omega (arith, (first_small 0 n).1)

  pub none_before : (k m i : ℕ) → k ≤ i → i < first_from test k m → test i ≡ false
  unfolding first_from
  none_before k zero i l h = absurd (omega arith)
  none_before k (suc m) i l h = go (test k) refl h (λ a b. none_before (suc k) m i a b)
    where
      go : (b : Bool) → test k ≡ b → i < cond b k (first_from test (suc k) m) → (suc k ≤ i → i < first_from test (suc k) m → test i ≡ false) → test i ≡ false
      go true e u behind = absurd (omega arith)
      go false e u behind = here_or_behind (i - k) refl
        where
          here_or_behind : (j : ℕ) → i - k ≡ j → test i ≡ false
          here_or_behind zero f = ap test (omega arith) ∙ e
          here_or_behind (suc j) f = behind (omega arith) u

  pub first_below_before : (n i : ℕ) → i < first_below test n → test i ≡ false
  unfolding first_below
  first_below_before n i h = none_before 0 n i (omega arith) h

  pub passes : (k m : ℕ) → first_from test k m < k + m → test (first_from test k m) ≡ true
  unfolding first_from
  passes k zero h = absurd (omega arith)
  passes k (suc m) h = go (test k) refl h (λ a. passes (suc k) m a)
    where
      go : (b : Bool) → test k ≡ b → cond b k (first_from test (suc k) m) < k + suc m → (first_from test (suc k) m < suc k + m → test (first_from test (suc k) m) ≡ true) → test (cond b k (first_from test (suc k) m)) ≡ true
      go true e u behind = e
      go false e u behind = behind (omega arith)

  pub first_below_passes : (n : ℕ) → first_below test n < n → test (first_below test n) ≡ true
  unfolding first_below
  first_below_passes n h = passes 0 n (omega arith)
