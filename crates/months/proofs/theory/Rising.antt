-- Days that rise: those not after a day are the first ones, as many as `not_after` counts, and the last of them is `last_not_after`.
-- Assumes nothing.
use Rattle.std.specs.Prelude.{◌≡◌, Bool, true, false, ℤ, pos, ◌≤ℤ◌, ◌<ℤ◌}
use Rattle.std.proofs.Math.Path.{refl}
use mathlib.Core.List.{List, [], ◌∷◌}
use Prim.Native.Nat.{ℕ, zero, suc, ◌+◌, ◌-◌, ◌≤◌, ◌<◌}
use Rattle.std.proofs.Common.{arith}
use Rattle.std.proofs.Math.Decide.{dec_lt}
use Rattle.std.proofs.Math.ListN.{length, get_or}
use Rattle.std.specs.Int.Signed.{le_z, lt_z}
use Rattle.whole.specs.Booleans.{both}
use Rattle.whole.specs.Counted.{one, count_of}
use Rattle.whole.specs.Laws.{≤-<_trans, <→≤, ≤_trans, ≤_of-≡}
use Rattle.whole.specs.Solver.{lt_yes, le_yes, le_no, no_le}
use Rattle.whole.specs.Parts.{ℤ_rules}
use Rattle.months.specs.Months.{not_after, last_not_after}
use Rattle.months.specs.Limits.{rising}
use Rattle.months.proofs.theory.Listed.{not_after_small}

module _ (day : ℤ) where
  not_after_cons : (d : ℤ) (days : List ℤ) → not_after day (d ∷ days) ≡ one (le_z d day) + not_after day days
  unfolding not_after count_of
  not_after_cons d days = refl

  not_after_nil : not_after day [] ≡ 0
  unfolding not_after count_of
  not_after_nil = refl

  -- where the first lies after the day, all do
  none_by : (d : ℤ) (days : List ℤ) → rising (d ∷ days) ≡ true → day <ℤ d → (not_after day (d ∷ days) ≡ 0) × ((k : ℕ) → k < length (d ∷ days) → day <ℤ get_or (d ∷ days) k (pos 0))
  unfolding not_after count_of rising
  none_by d [] r h = (rw (no_le {a = d} {b = day} h), only)
    where
      only : (k : ℕ) → k < 1 → day <ℤ get_or (d ∷ []) k (pos 0)
      only zero l = h
      only (suc k) l = absurd (omega arith)
  none_by d (e ∷ days) r h = let rises = both (lt_z d e) (rising (e ∷ days)) r in go (none_by e days rises.1 (≤-<_trans (<→≤ h) (lt_yes {a = d} {b = e} rises.0)))
    where
      go : (not_after day (e ∷ days) ≡ 0) × ((k : ℕ) → k < length (e ∷ days) → day <ℤ get_or (e ∷ days) k (pos 0)) → (not_after day (d ∷ e ∷ days) ≡ 0) × ((k : ℕ) → k < length (d ∷ e ∷ days) → day <ℤ get_or (d ∷ e ∷ days) k (pos 0))
      go later = (rw (no_le {a = d} {b = day} h) (omega (arith, later.0)), all)
        where
          all : (k : ℕ) → k < length (d ∷ e ∷ days) → day <ℤ get_or (d ∷ e ∷ days) k (pos 0)
          all zero l = h
          all (suc k) l = later.1 k (omega arith)

  rest_rises : (d : ℤ) (days : List ℤ) → rising (d ∷ days) ≡ true → rising days ≡ true
  unfolding rising
  rest_rises d [] r = refl
  rest_rises d (e ∷ days) r = (both (lt_z d e) (rising (e ∷ days)) r).1

  -- the first so many are not after the day ..
  pub first_are_by : (days : List ℤ) → rising days ≡ true → (k : ℕ) → k < not_after day days → get_or days k (pos 0) ≤ℤ day
  first_are_by [] r k h = absurd (omega (arith, not_after_nil))
  first_are_by (d ∷ days) r k h = go (le_z d day) refl k h (first_are_by days (rest_rises d days r))
    where
      go : (b : Bool) → le_z d day ≡ b → (k : ℕ) → k < not_after day (d ∷ days) → ((k : ℕ) → k < not_after day days → get_or days k (pos 0) ≤ℤ day) → get_or (d ∷ days) k (pos 0) ≤ℤ day
      go true e zero h later = le_yes e
      go true e (suc k) h later = later k (omega (arith, rw e at (not_after_cons d days)))
      go false e k h later = absurd (omega (arith, (none_by d days r (le_no e)).0))

  -- .. and those behind them are after it
  pub later_are_after : (days : List ℤ) → rising days ≡ true → (k : ℕ) → not_after day days ≤ k → k < length days → day <ℤ get_or days k (pos 0)
  later_are_after [] r k h l = absurd (omega arith)
  later_are_after (d ∷ days) r k h l = go (le_z d day) refl k h l (later_are_after days (rest_rises d days r))
    where
      go : (b : Bool) → le_z d day ≡ b → (k : ℕ) → not_after day (d ∷ days) ≤ k → k < length (d ∷ days) → ((k : ℕ) → not_after day days ≤ k → k < length days → day <ℤ get_or days k (pos 0)) → day <ℤ get_or (d ∷ days) k (pos 0)
      go true e zero h l later = absurd (omega (arith, rw e at (not_after_cons d days)))
      go true e (suc k) h l later = later k (omega (arith, rw e at (not_after_cons d days))) (omega arith)
      go false e k h l later = (none_by d days r (le_no e)).1 k l

-- what `last_not_after` is: a day of the list, not after the day, and no later one of them is
module _ (day : ℤ) (days : List ℤ) (r : rising days ≡ true) (some : 0 < not_after day days) where
  pub last_is_by : last_not_after day days ≤ℤ day
  unfolding last_not_after
  last_is_by = first_are_by day days r (not_after day days - 1) (omega arith)

  pub next_is_after : not_after day days < length days → day <ℤ get_or days (not_after day days) (pos 0)
  next_is_after h = later_are_after day days r (not_after day days) (omega arith) h

-- ---- days in order
step : (days : List ℤ) → rising days ≡ true → (k : ℕ) → suc k < length days → get_or days k (pos 0) <ℤ get_or days (suc k) (pos 0)
unfolding rising
step [] r k h = absurd (omega arith)
step (d ∷ []) r k h = absurd (omega arith)
step (d ∷ e ∷ days) r zero h = lt_yes (both (lt_z d e) (rising (e ∷ days)) r).0
step (d ∷ e ∷ days) r (suc k) h = step (e ∷ days) (both (lt_z d e) (rising (e ∷ days)) r).1 k (omega arith)

pub in_order : (days : List ℤ) → rising days ≡ true → (i k : ℕ) → i + k < length days → get_or days i (pos 0) ≤ℤ get_or days (i + k) (pos 0)
in_order days r i zero h = let e : i + 0 ≡ i = omega arith in rw e (≤_of-≡ refl)
in_order days r i (suc k) h =
    let e : i + suc k ≡ suc (i + k) = omega arith in
    rw e (≤_trans (in_order days r i k (omega arith)) (<→≤ (step days r (i + k) (omega arith))))

-- of the days that are not after the day none is later than `last_not_after`
pub none_later : (day : ℤ) (days : List ℤ) → rising days ≡ true → (k : ℕ) → k < length days → get_or days k (pos 0) ≤ℤ day → get_or days k (pos 0) ≤ℤ last_not_after day days
unfolding last_not_after
none_later day days r k h l = go (dec_lt k (not_after day days))
  where
    go : Dec (k < not_after day days) → get_or days k (pos 0) ≤ℤ get_or days (not_after day days - 1) (pos 0)
    go (yes b) =
        let e : k + (not_after day days - 1 - k) ≡ not_after day days - 1 = omega arith in
        rw e at (in_order days r k (not_after day days - 1 - k) (omega (arith, not_after_small day days)))
    go (no b) = let after = later_are_after day days r k (omega arith) h in absurd (omega ℤ_rules)

-- what a search by halves shows: the count is known from the two days beside it
pub not_after_is : (day : ℤ) (days : List ℤ) → rising days ≡ true → (k : ℕ) → k ≤ length days → (0 < k → get_or days (k - 1) (pos 0) ≤ℤ day) → (k < length days → day <ℤ get_or days k (pos 0)) → not_after day days ≡ k
not_after_is day days r k h before behind = go (dec_lt k (not_after day days)) (dec_lt (not_after day days) k)
  where
    go : Dec (k < not_after day days) → Dec (not_after day days < k) → not_after day days ≡ k
    go (yes l) d = let here = first_are_by day days r k l in let there = behind (omega (arith, not_after_small day days)) in absurd (omega ℤ_rules)
    go (no l) (yes m) = let here = before (omega arith) in let there = later_are_after day days r (k - 1) (omega arith) (omega arith) in absurd (omega ℤ_rules)
    go (no l) (no m) = omega arith
