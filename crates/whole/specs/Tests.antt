-- Tests of whole numbers: in a range, and exactly a number; and what a comparison in the code tells of them. Assumes nothing.
use Rattle.std.specs.Prelude.{◌≡◌, Bool, true, false, ◌&&◌, ◌⊎◌, ℤ}
use Rattle.std.proofs.Common.{sym, inl, inr, ⊎_elim}
use Rattle.std.specs.Int.Signed.{le_z, lt_z}
use Rattle.whole.specs.Parts.{◌⩽◌, ◌≺◌}
use Rattle.whole.specs.Laws.{≤_antisymm, ≤_of-≡, ≤_total}
use Rattle.whole.specs.Solver.{lt_yes, lt_no, yes_lt, no_lt, le_yes, le_no, yes_le, no_le}
use Rattle.whole.specs.Booleans.{both, first_fails, second_fails, both_hold, not_both}

-- low ≤ z ≤ high
abbrev pub in_range : ℤ → ℤ → ℤ → Bool
in_range low high z = le_z low z && le_z z high

abbrev pub is_exactly : ℤ → ℤ → Bool
is_exactly wanted z = in_range wanted wanted z

-- a test for `<` decides one for `≤` the other way round, and a test for `≤` one for `<`
pub at_most : (a b : ℤ) → lt_z b a ≡ false → le_z a b ≡ true
at_most a b h = yes_le {a = a} {b = b} (lt_no {a = b} {b = a} h)

pub above : (a b : ℤ) → lt_z b a ≡ true → le_z a b ≡ false
above a b h = no_le {a = a} {b = b} (lt_yes {a = b} {b = a} h)

pub less : (a b : ℤ) → le_z b a ≡ false → lt_z a b ≡ true
less a b h = yes_lt {a = a} {b = b} (le_no {a = b} {b = a} h)

pub not_less : (a b : ℤ) → le_z b a ≡ true → lt_z a b ≡ false
not_less a b h = no_lt {a = a} {b = b} (le_yes {a = b} {b = a} h)

module _ (low high z : ℤ) where
  pub in_range_says : in_range low high z ≡ true → (low ⩽ z) × (z ⩽ high)
  in_range_says e = let b = both (le_z low z) (le_z z high) e in (le_yes {a = low} {b = z} b.0, le_yes {a = z} {b = high} b.1)

  pub says_in_range : low ⩽ z → z ⩽ high → in_range low high z ≡ true
  says_in_range h k = both_hold (le_z low z) (le_z z high) (yes_le {a = low} {b = z} h) (yes_le {a = z} {b = high} k)

  pub below_range : z ≺ low → in_range low high z ≡ false
  below_range h = first_fails (le_z low z) (le_z z high) (no_le {a = low} {b = z} h)

  pub above_range : high ≺ z → in_range low high z ≡ false
  above_range h = second_fails (le_z low z) (le_z z high) (no_le {a = z} {b = high} h)

  pub out_of_range : in_range low high z ≡ false → (z ≺ low) ⊎ (high ≺ z)
  out_of_range e = ⊎_elim (λ (h : low ⩽ z). ⊎_elim (λ (k : z ⩽ high). not_both (says_in_range h k) e) inr (≤_total z high)) inl (≤_total low z)

pub exactly_says : (wanted z : ℤ) → is_exactly wanted z ≡ true → z ≡ wanted
exactly_says wanted z e = let r = in_range_says wanted wanted z e in ≤_antisymm r.1 r.0

pub says_exactly : (wanted z : ℤ) → z ≡ wanted → is_exactly wanted z ≡ true
says_exactly wanted z e = says_in_range wanted wanted z (≤_of-≡ (sym e)) (≤_of-≡ e)
