-- What a loop over days has counted and judged, turn by turn. Assumes nothing.
use Rattle.std.proofs.Math.Path.{◌≡◌, refl}
use Rattle.std.specs.Prelude.{Bool, ◌||◌, List, ℕ, ◌+◌, ◌≤◌, ◌<◌, ℤ, length, get_or, drop}
use Rattle.std.proofs.Math.Bool.{true, false}
use native.Mathlib.Omega.{arith}
use borrow.Author.Tests.{eq-eqb, ne_eqb, eqb-true, eqb-false, leb-false}
use Rattle.std.proofs.Math.Dec.{eqb, leb}
use Rattle.std.proofs.Math.IntN.{pos}
use Rattle.std.specs.Int.Signed.{le_z, lt_z}
use Rattle.whole.specs.Solver.{lt_yes, lt_no, yes_le, no_le}
use Rattle.whole.specs.Counted.{one, count_turn, count_end, count_small}
use Rattle.months.specs.Months.{not_after, is_within, zhongqi_in, is_missing, twelve_or_thirteen}

-- ---- days not after a day
module _ (day : ℤ) (days : List ℤ) where
  pub not_after_turn : (i : ℕ) → i < length days → not_after day (drop i days) ≡ one (le_z (get_or days i (pos 0)) day) + not_after day (drop (i + 1) days)
  unfolding not_after
  not_after_turn i h = count_turn (λ (d : ℤ). le_z d day) days i (pos 0) h

  pub not_after_end : (i : ℕ) → length days ≤ i → not_after day (drop i days) ≡ 0
  unfolding not_after
  not_after_end i h = count_end (λ (d : ℤ). le_z d day) days i h

  pub not_after_small : not_after day days ≤ length days
  unfolding not_after
  not_after_small = count_small (λ (d : ℤ). le_z d day) days

-- ---- zhongqi of a month
module _ (first next : ℤ) (days : List ℤ) where
  pub zhongqi_in_turn : (i : ℕ) → i < length days → zhongqi_in first next (drop i days) ≡ one (is_within first next (get_or days i (pos 0))) + zhongqi_in first next (drop (i + 1) days)
  unfolding zhongqi_in
  zhongqi_in_turn i h = count_turn (is_within first next) days i (pos 0) h

  pub zhongqi_in_end : (i : ℕ) → length days ≤ i → zhongqi_in first next (drop i days) ≡ 0
  unfolding zhongqi_in
  zhongqi_in_end i h = count_end (is_within first next) days i h

-- ---- 12 or 13
pub is_twelve : (n : ℕ) → n ≡ 12 → true ≡ twelve_or_thirteen n
unfolding twelve_or_thirteen
is_twelve n e = rw (eq-eqb n 12 e)

pub not_twelve : (n : ℕ) → (n ≡ 12 → ⊥) → eqb n 13 ≡ twelve_or_thirteen n
unfolding twelve_or_thirteen
not_twelve n e = rw (ne_eqb n 12 e)

pub at_most_thirteen : (n : ℕ) → twelve_or_thirteen n ≡ true → (12 ≤ n) × (n ≤ 13)
unfolding twelve_or_thirteen
at_most_thirteen n e = go (eqb n 12) refl e
  where
    go : (b : Bool) → eqb n 12 ≡ b → (b || eqb n 13) ≡ true → (12 ≤ n) × (n ≤ 13)
    go true p q = omega (arith, eqb-true n 12 p)
    go false p q = omega (arith, eqb-true n 13 q)

-- ---- a new moon that is missing
module _ (first second listed : ℕ) where
  pub none_first : first ≡ 0 → true ≡ is_missing first second listed
  unfolding is_missing
  none_first e = rw (eq-eqb first 0 e)

  pub some_first : (first ≡ 0 → ⊥) → leb listed second ≡ is_missing first second listed
  unfolding is_missing
  some_first e = rw (ne_eqb first 0 e)

  pub none_missing : is_missing first second listed ≡ false → (0 < first) × (second < listed)
  unfolding is_missing
  none_missing e = go (eqb first 0) refl e
    where
      go : (b : Bool) → eqb first 0 ≡ b → (b || leb listed second) ≡ false → (0 < first) × (second < listed)
      go true p q = let z : ◌≡◌ {A = ℕ} 0 1 = cc in absurd (omega arith)
      go false p q = let nonzero = eqb-false first 0 p in (omega arith, leb-false listed second q)

-- ---- a day of a month
module _ (first next day : ℤ) where
  pub within_early : lt_z day first ≡ true → 0 ≡ one (is_within first next day)
  unfolding is_within
  within_early e = rw (no_le {a = first} {b = day} (lt_yes {a = day} {b = first} e))

  pub within_here : lt_z day first ≡ false → lt_z day next ≡ true → 1 ≡ one (is_within first next day)
  unfolding is_within
  within_here e f = rw (yes_le {a = first} {b = day} (lt_no {a = day} {b = first} e), f)

  pub within_late : lt_z day first ≡ false → lt_z day next ≡ false → 0 ≡ one (is_within first next day)
  unfolding is_within
  within_late e f = rw (yes_le {a = first} {b = day} (lt_no {a = day} {b = first} e), f)
