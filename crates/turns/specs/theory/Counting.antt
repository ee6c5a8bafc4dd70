-- Days that rise, given as the first values of a function: those not after a day are the first ones, as many as `not_after` counts. Days may be equal here: that
-- two marks of a series have different days is not known. Assumes nothing.
use Rattle.std.specs.Prelude.{◌≡◌, Bool, true, false, ℕ, zero, suc, ◌+◌, ◌≤◌, ◌<◌, ℤ, ◌≤ℤ◌, ◌<ℤ◌}
use Rattle.std.proofs.Math.Path.{refl}
use Rattle.std.proofs.Common.{ap, ◌∙◌}
use mathlib.Core.List.{List, [], ◌∷◌, ◌++◌}
use native.Mathlib.Omega.{arith}
use Rattle.std.proofs.Math.Decide.{dec_lt}
use Rattle.std.specs.Int.Signed.{le_z}
use Rattle.whole.specs.Counted.{one, count_of}
use Rattle.whole.specs.Laws.{≤_trans}
use Rattle.whole.specs.Distance.{clash}
use Rattle.whole.specs.Solver.{le_yes, le_no}
use Rattle.whole.specs.Tabulated.{tabulate, length_tabulate}
use Rattle.months.specs.Months.{not_after}
use Rattle.months.proofs.theory.Listed.{not_after_small}

-- each is not after those behind it
abbrev pub Rises : (ℕ → ℤ) → ℕ → Type 0
Rises f n = (i k : ℕ) → i ≤ k → k < n → f i ≤ℤ f k

module _ (day : ℤ) where
  count_append : (xs ys : List ℤ) → not_after day (xs ++ ys) ≡ not_after day xs + not_after day ys
  unfolding not_after count_of
  count_append [] ys = omega arith
  count_append (x ∷ xs) ys = omega (arith, count_append xs ys)

  count_one : (d : ℤ) → not_after day (d ∷ []) ≡ one (le_z d day)
  unfolding not_after count_of
  count_one d = omega arith

  count_none : not_after day [] ≡ 0
  unfolding not_after count_of
  count_none = refl

module _ (f : ℕ → ℤ) (day : ℤ) where
  -- how many of the first n are not after the day
  abbrev pub by : ℕ → ℕ
  by n = not_after day (tabulate f n)

  by_next : (n : ℕ) → by (suc n) ≡ by n + one (le_z (f n) day)
  by_next n = count_append day (tabulate f n) (f n ∷ []) ∙ ap (λ (k : ℕ). by n + k) (count_one day (f n))

  pub by_small : (n : ℕ) → by n ≤ n
  by_small n = omega (arith, not_after_small day (tabulate f n), length_tabulate f n)

  -- the first `by n` are not after the day, the others are
  pub record Split (n : ℕ) : Type 0 where
    pub first : (k : ℕ) → k < by n → f k ≤ℤ day
    pub later : (k : ℕ) → by n ≤ k → k < n → day <ℤ f k

  pub split : (n : ℕ) → Rises f n → Split n
  split zero r = record { first = λ k h. absurd (omega (arith, count_none day)); later = λ k h l. absurd (omega arith) }
  split (suc n) r = go (le_z (f n) day) refl (split n (λ i k h l. r i k h (omega arith)))
    where
      go : (b : Bool) → le_z (f n) day ≡ b → Split n → Split (suc n)
      go true e s =
          let more : by (suc n) ≡ by n + 1 = by_next n ∙ rw e in
          let all : by n ≡ n = full (dec_lt (by n) n) in
          record { first = λ k h. ≤_trans (r k n (omega arith) (omega arith)) (le_yes {a = f n} {b = day} e); later = λ k h l. absurd (omega arith) }
        where
          full : Dec (by n < n) → by n ≡ n
          full (yes l) = absurd (clash (s.later (by n) (omega arith) l) (≤_trans (r (by n) n (omega arith) (omega arith)) (le_yes {a = f n} {b = day} e)))
          full (no l) = omega (arith, by_small n)
      go false e s =
          let same : by (suc n) ≡ by n + 0 = by_next n ∙ rw e in
          record { first = λ k h. s.first k (omega arith); later = λ k h l. at k (omega arith) l (dec_lt k n) }
        where
          at : (k : ℕ) → by n ≤ k → k < suc n → Dec (k < n) → day <ℤ f k
          at k h l (yes m) = s.later k h m
          at k h l (no m) = let last : n ≡ k = omega arith in rw (← last) (le_no {a = f n} {b = day} e)

module _ (f : ℕ → ℤ) (n : ℕ) (r : Rises f n) (day : ℤ) where
  -- so a day tells on which side of the count its place is
  pub is_by : (k : ℕ) → k < n → f k ≤ℤ day → k < by f day n
  is_by k h e = go (dec_lt k (by f day n))
    where
      go : Dec (k < by f day n) → k < by f day n
      go (yes l) = l
      go (no l) = absurd (clash ((split f day n r).later k (omega arith) h) e)

  pub is_after : (k : ℕ) → k < n → day <ℤ f k → by f day n ≤ k
  is_after k h e = go (dec_lt k (by f day n))
    where
      go : Dec (k < by f day n) → by f day n ≤ k
      go (yes l) = absurd (clash e ((split f day n r).first k l))
      go (no l) = omega arith

-- a later day counts no fewer
pub by_later : (f : ℕ → ℤ) (n : ℕ) → Rises f n → (a b : ℤ) → a ≤ℤ b → by f a n ≤ by f b n
by_later f n r a b h = go (dec_lt (by f b n) (by f a n))
  where
    go : Dec (by f b n < by f a n) → by f a n ≤ by f b n
    go (yes l) = absurd (clash ((split f b n r).later (by f b n) (omega arith) (omega (arith, by_small f a n))) (≤_trans ((split f a n r).first (by f b n) l) h))
    go (no l) = omega arith
