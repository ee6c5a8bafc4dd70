-- The numbers below a bound: that each of them passes a test (`every`), that one does (`any`), and the last that does (`last_below`). Assumes nothing.
use Prim.Native.Nat.{ℕ, zero, suc, ◌+◌, ◌<◌, ◌≤◌}
use Rattle.std.specs.Prelude.{◌≡◌, Bool, cond, ◌&&◌, ◌||◌}
use Rattle.std.proofs.Math.Path.{refl, ap}
use Rattle.std.proofs.Common.{sym, ◌∙◌, add-one, arith}
use Rattle.std.proofs.Math.Bool.{true, false}
use Rattle.std.proofs.Math.Decide.{dec_lt}
use Rattle.whole.specs.Booleans.{both, second_fails, second_holds, none_of, not_both}

-- f holds of each number below n
unfoldable pub every : (ℕ → Bool) → ℕ → Bool
every f zero = true
every f (suc n) = f n && every f n

-- f holds of some number below n
unfoldable pub any : (ℕ → Bool) → ℕ → Bool
any f zero = false
any f (suc n) = f n || any f n

-- the last number below n of which f holds; 0 where it holds of none
unfoldable pub last_below : (ℕ → Bool) → ℕ → ℕ
last_below f zero = 0
last_below f (suc n) = cond (f n) n (last_below f n)

-- below n + 1 is below n, or n
pub below : {X : Type 0} (i n : ℕ) → i < suc n → (i < n → X) → (i ≡ n → X) → X
below {X} i n h f g = go (dec_lt i n)
  where
    go : Dec (i < n) → X
    go (yes l) = f l
    go (no l) = g (omega arith)

module _ (f : ℕ → Bool) where
  pub every_true : (n : ℕ) → ((i : ℕ) → i < n → f i ≡ true) → every f n ≡ true
  unfolding every
  every_true zero h = refl
  every_true (suc n) h = rw (h n (omega arith), every_true n (λ i l. h i (omega arith)))

  pub every_false : (n i : ℕ) → i < n → f i ≡ false → every f n ≡ false
  unfolding every
  every_false zero i h e = absurd (omega arith)
  every_false (suc n) i h e = below i n h (λ l. second_fails (f n) (every f n) (every_false n i l e)) (λ q. rw (ap f (sym q) ∙ e))

  pub every_at : (n : ℕ) → every f n ≡ true → (i : ℕ) → i < n → f i ≡ true
  unfolding every
  every_at zero e i h = absurd (omega arith)
  every_at (suc n) e i h = let b = both (f n) (every f n) e in below i n h (λ l. every_at n b.1 i l) (λ q. ap f q ∙ b.0)

  pub any_true : (n i : ℕ) → i < n → f i ≡ true → any f n ≡ true
  unfolding any
  any_true zero i h e = absurd (omega arith)
  any_true (suc n) i h e = below i n h (λ l. second_holds (f n) (any f n) (any_true n i l e)) (λ q. rw (ap f (sym q) ∙ e))

  pub any_false : (n : ℕ) → ((i : ℕ) → i < n → f i ≡ false) → any f n ≡ false
  unfolding any
  any_false zero h = refl
  any_false (suc n) h = none_of (f n) (any f n) (h n (omega arith)) (any_false n (λ i l. h i (omega arith)))

  -- for a loop: none of the first are left out at 0, and one more passes at each turn
  pub every_none : every f 0 ≡ true
  unfolding every
  every_none = refl

  pub every_next : (n : ℕ) → every f n ≡ true → f n ≡ true → every f (n + 1) ≡ true
  every_next n e h = ap (every f) (add-one n) ∙ (unfold every in rw (h, e))

  -- i is the last below n of which f holds, or 0 where it holds of none
  pub record Last (n i : ℕ) : Type 0 where
    pub below : i < n
    pub here : 0 < i → f i ≡ true
    pub none_after : (k : ℕ) → i < k → k < n → f k ≡ false

  pub last_found : (n : ℕ) → 0 < n → Last n (last_below f n)
  unfolding last_below
  last_found zero h = absurd (omega arith)
  last_found (suc zero) h = go (f 0)
    where
      go : (b : Bool) → Last 1 (cond b 0 0)
      go true = record { below = omega arith; here = λ l. absurd (omega arith); none_after = λ k l m. absurd (omega arith) }
      go false = record { below = omega arith; here = λ l. absurd (omega arith); none_after = λ k l m. absurd (omega arith) }
  last_found (suc (suc n)) h = go (last_found (suc n) (omega arith)) (f (suc n)) refl
    where
      go : Last (suc n) (last_below f (suc n)) → (b : Bool) → f (suc n) ≡ b → Last (suc (suc n)) (cond b (suc n) (last_below f (suc n)))
      go behind true p = record { below = omega arith; here = λ l. p; none_after = λ k l m. absurd (omega arith) }
      go behind false p =
          record { below = omega (arith, behind.below); here = behind.here; none_after = λ k l m. below k (suc n) m (λ q. behind.none_after k l q) (λ q. ap f q ∙ p) }

  -- and there is no other
  one_last : (n i j : ℕ) → Last n i → Last n j → i ≤ j
  one_last n i j a b = go (dec_lt j i)
    where
      go : Dec (j < i) → i ≤ j
      go (yes l) = not_both (a.here (omega arith)) (b.none_after i l a.below)
      go (no l) = omega arith

  pub last_is : (n i : ℕ) → Last n i → last_below f n ≡ i
  last_is n i l =
      let found = last_found n (omega (arith, l.below)) in
      let up = one_last n i (last_below f n) l found in
      let down = one_last n (last_below f n) i found l in
      omega arith
