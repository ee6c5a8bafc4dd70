-- Of thirteen months one has no zhongqi: the thirteenth zhongqi, the second solstice, lies on or after the sui's end, so at most twelve lie in the sui's months;
-- and each day lies in one month at most. Assumes nothing.
use Rattle.std.specs.Prelude.{◌≡◌, Bool, ◌&&◌, ℤ, pos, length, get_or, ◌≤ℤ◌, ◌<ℤ◌}
use Rattle.std.proofs.Math.Path.{refl}
use Rattle.std.proofs.Math.Bool.{true, false}
use mathlib.Core.List.{List, [], ◌∷◌}
use Prim.Native.Nat.{ℕ, zero, suc, ◌+◌, ◌≤◌, ◌<◌}
use native.Mathlib.Omega.{arith}
use Rattle.std.proofs.Math.Decide.{dec_lt}
use Rattle.std.proofs.lemmas.Bool.{eqb-false}
use Rattle.std.specs.Int.Signed.{le_z, lt_z}
use Rattle.whole.specs.Counted.{one, one_small, count_of, count_small}
use Rattle.whole.specs.Found.{first_below_small, first_below_before}
use Rattle.whole.specs.Laws.{<-≤_trans, ≤_trans, ≤_of-≡}
use Rattle.whole.specs.Parts.{ℤ_rules}
use Rattle.whole.specs.Solver.{lt_yes, lt_no, le_no, yes_lt, no_lt, yes_le, no_le}
use Rattle.months.specs.declared.SuiDays.{SuiDays}
use Rattle.months.specs.Months.{IsSuiDays, is_within, zhongqi_in, zhongqi_of, without, first_without, month_first, second_solstice}

-- ---- two stretches that meet
module _ {a b c : ℤ} (h : a ≤ℤ b) (k : b ≤ℤ c) where
  within_both : (z : ℤ) → one (is_within a c z) ≡ one (is_within a b z) + one (is_within b c z)
  unfolding is_within
  within_both z = go (le_z a z) (lt_z z b) refl refl
    where
      go : (s t : Bool) → le_z a z ≡ s → lt_z z b ≡ t → one (s && lt_z z c) ≡ one (s && t) + one (le_z b z && lt_z z c)
      go true true p q = let l : z <ℤ b = lt_yes q in rw (yes_lt {a = z} {b = c} (<-≤_trans l k), no_le {a = b} {b = z} l)
      go true false p q = let l : b ≤ℤ z = lt_no q in rw (yes_le {a = b} {b = z} l) (omega arith)
      go false true p q = let l : z <ℤ b = lt_yes q in rw (no_le {a = b} {b = z} l)
      go false false p q = let l : z <ℤ a = le_no p in let m : b ≤ℤ z = lt_no q in absurd (omega ℤ_rules)

  pub zhongqi_in_both : (days : List ℤ) → zhongqi_in a c days ≡ zhongqi_in a b days + zhongqi_in b c days
  unfolding zhongqi_in count_of
  zhongqi_in_both [] = refl
  zhongqi_in_both (z ∷ days) = omega (arith, within_both z, zhongqi_in_both days)

-- one that lies outside does not count
outside : (a b : ℤ) (days : List ℤ) (k : ℕ) → k < length days → is_within a b (get_or days k (pos 0)) ≡ false → zhongqi_in a b days < length days
unfolding zhongqi_in count_of
outside a b [] k h e = absurd (omega arith)
outside a b (z ∷ days) zero h e = rw e (omega (arith, count_small (is_within a b) days))
outside a b (z ∷ days) (suc k) h e = omega (arith, one_small (is_within a b z), outside a b days k (omega arith) e)

-- where the search for a month without one ends behind the last, each has one
every_has : (days : SuiDays) → first_without days ≡ days.months → (i : ℕ) → i < days.months → 0 < zhongqi_of days i
unfolding first_without without
every_has days e i h = let some = eqb-false (zhongqi_of days i) 0 (first_below_before (without days) days.months i (omega arith)) in omega arith

module _ (days : SuiDays) (d : IsSuiDays days) where
  -- the months begin one after the other
  from_first : (k : ℕ) → k ≤ days.months → month_first days 0 ≤ℤ month_first days k
  from_first zero h = ≤_of-≡ refl
  from_first (suc k) h = let e : suc k ≡ k + 1 = omega arith in rw e (≤_trans (from_first k (omega arith)) (d.in_order k (omega arith)))

  -- as many zhongqi as months, where each month has one
  at_least : ((i : ℕ) → i < days.months → 0 < zhongqi_of days i) → (k : ℕ) → k ≤ days.months → k ≤ zhongqi_in (month_first days 0) (month_first days k) days.zhongqi
  unfolding zhongqi_of
  at_least each zero h = omega arith
  at_least each (suc k) h =
      let e : suc k ≡ k + 1 = omega arith in
      let sum = zhongqi_in_both {a = month_first days 0} {b = month_first days k} {c = month_first days (k + 1)} (from_first k (omega arith)) (d.in_order k (omega arith)) days.zhongqi in
      rw e (omega (arith, sum, each k (omega arith), at_least each k (omega arith)))

  -- at most twelve zhongqi, where the second solstice lies on or after the sui's end
  at_most_twelve : zhongqi_in (month_first days 0) (month_first days days.months) days.zhongqi < 13
  unfolding is_within
  at_most_twelve =
      let end = month_first days days.months in
      let second = second_solstice days.zhongqi in
      let late : is_within (month_first days 0) end second ≡ false = rw (no_lt {a = second} {b = end} d.end_by_second) (second_no (le_z (month_first days 0) second)) in
      let long = d.thirteen in
      omega (arith, outside (month_first days 0) end days.zhongqi 12 (omega arith) late)
    where
      second_no : (b : Bool) → (b && false) ≡ false
      second_no true = refl
      second_no false = refl

  pub one_without : days.months ≡ 13 → first_without days < 13
  unfolding first_without
  one_without thirteen = go (dec_lt (first_without days) 13)
    where
      go : Dec (first_without days < 13) → first_without days < 13
      go (yes h) = h
      go (no h) =
          let all : first_without days ≡ days.months = omega (arith, first_below_small (without days) days.months) in
          absurd (omega (arith, at_most_twelve, at_least (every_has days all) days.months (omega arith)))
