-- Numbers, marks and handles: what a place before the leap month and one from it on is called, and how large they are. Assumes nothing.
use Rattle.std.specs.Prelude.{◌≡◌, Bool, true, false, cond, ℕ, ◌+◌, ◌%◌, ◌≤◌, ◌<◌, ltb, eqb}
use Rattle.std.proofs.Common.{arith, mod-lt, lt-ltb, le-ltb, eq-eqb, ne_eqb}
use Rattle.std.proofs.Math.Decide.{dec_lt}
use Rattle.months.specs.Handles.{ordinal, number_at, leap_mark}

module _ (leap place : ℕ) where
  pub before_leap : place < leap → ordinal place ≡ number_at leap place
  unfolding number_at
  before_leap h = rw (lt-ltb place leap h)

  pub from_leap : leap ≤ place → ordinal (place + 11) ≡ number_at leap place
  unfolding number_at
  from_leap h = rw (le-ltb place leap h)

  pub at_leap : place ≡ leap → 1 ≡ leap_mark leap place
  unfolding leap_mark
  at_leap e = rw (eq-eqb place leap e)

  pub not_at_leap : (place ≡ leap → ⊥) → 0 ≡ leap_mark leap place
  unfolding leap_mark
  not_at_leap e = rw (ne_eqb place leap e)

ordinal_small : (place : ℕ) → ordinal place ≤ 12
ordinal_small place = omega (arith, mod-lt (place + 10) {m = 12} (omega arith))

pub number_small : (leap place : ℕ) → number_at leap place ≤ 12
unfolding number_at
number_small leap place = go (ltb place leap)
  where
    go : (b : Bool) → cond b (ordinal place) (ordinal (place + 11)) ≤ 12
    go true = ordinal_small place
    go false = ordinal_small (place + 11)

pub mark_small : (leap place : ℕ) → leap_mark leap place ≤ 1
unfolding leap_mark
mark_small leap place = go (eqb place leap)
  where
    go : (b : Bool) → cond b 1 0 ≤ 1
    go true = omega arith
    go false = omega arith

-- ---- where a place stands to the leap month, and what it is called there
data Side (leap place : ℕ) : Type 0 where
  before : place < leap → (place + 10) % 12 + 1 ≡ number_at leap place → 0 ≡ leap_mark leap place → Side leap place
  there : place ≡ leap → 1 ≡ leap_mark leap place → Side leap place
  behind : leap < place → (place + 11 + 10) % 12 + 1 ≡ number_at leap place → 0 ≡ leap_mark leap place → Side leap place

side : (leap place : ℕ) → Side leap place
side leap place = go (dec_lt place leap) (dec_lt leap place)
  where
    go : Dec (place < leap) → Dec (leap < place) → Side leap place
    go (yes h) d = before h (before_leap leap place h) (not_at_leap leap place (λ e. omega arith))
    go (no h) (yes k) = behind k (from_leap leap place (omega arith)) (not_at_leap leap place (λ e. omega arith))
    go (no h) (no k) = there (omega arith) (at_leap leap place (omega arith))

-- no two places of a sui have one number and one mark
pub places_differ : (leap place other : ℕ) → leap ≤ 12 → place ≤ 12 → other ≤ 12 → number_at leap place ≡ number_at leap other → leap_mark leap place ≡ leap_mark leap other → place ≡ other
places_differ leap place other l h k n m = go (side leap place) (side leap other)
  where
    go : Side leap place → Side leap other → place ≡ other
    go (before a b c) (before d e f) = omega arith
    go (before a b c) (there d e) = absurd (omega arith)
    go (before a b c) (behind d e f) = absurd (omega arith)
    go (there a b) (before d e f) = absurd (omega arith)
    go (there a b) (there d e) = omega arith
    go (there a b) (behind d e f) = absurd (omega arith)
    go (behind a b c) (before d e f) = absurd (omega arith)
    go (behind a b c) (there d e) = absurd (omega arith)
    go (behind a b c) (behind d e f) = omega arith
