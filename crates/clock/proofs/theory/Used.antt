-- The entry used: an entry that does not hold has none after it that does, so that the last is found by bisection, and the entry used does not go back. Assumes
-- nothing.
use Rattle.std.specs.Prelude.{ℕ, suc, ◌+◌, ◌<◌, ◌≤◌, ◌≡◌, true, false, List, ℤ}
use Rattle.std.proofs.Common.{sym, arith}
use Rattle.std.proofs.Math.Decide.{dec_lt}
use Rattle.whole.specs.Parts.{◌⩽◌, ◌≺◌}
use Rattle.whole.specs.Laws.{≤_trans, <-≤_trans}
use Rattle.whole.specs.Booleans.{not_both}
use Rattle.whole.specs.Solver.{le_yes, le_no, yes_le, no_le}
use Rattle.whole.specs.Below.{Last, last_is, last_found}
use Rattle.clock.specs.Leap.{leap_lawful, entries, holds_from, holds, entry_used}
use Rattle.clock.proofs.theory.Table.{some, moments_in_order}

-- i is the entry used at t
abbrev pub Used : List ℤ → ℤ → ℕ → Type 0
Used w t i = Last (holds w t) (entries w) i

pub used : (w : List ℤ) (t : ℤ) → leap_lawful w ≡ true → Used w t (entry_used w t)
unfolding entry_used
used w t l = last_found (holds w t) (entries w) (some w l)

pub used_is : (w : List ℤ) (t : ℤ) (i : ℕ) → Used w t i → entry_used w t ≡ i
unfolding entry_used
used_is w t i u = last_is (holds w t) (entries w) i u

-- what does not hold by then, does not hold later in the table either
pub not_later : (w : List ℤ) (t : ℤ) → leap_lawful w ≡ true → (i k : ℕ) → i ≤ k → k < entries w → holds w t i ≡ false → holds w t k ≡ false
unfolding holds
not_later w t l i k h m e =
    let o = moments_in_order w l i k h m in
    let a : t ≺ holds_from w i = le_no {a = holds_from w i} {b = t} e in
    no_le {a = holds_from w k} {b = t} (<-≤_trans a o)

-- what holds by then, holds later
pub holds_on : (w : List ℤ) (t t' : ℤ) (i : ℕ) → t ⩽ t' → holds w t i ≡ true → holds w t' i ≡ true
unfolding holds
holds_on w t t' i h e = yes_le {a = holds_from w i} {b = t'} (≤_trans (le_yes {a = holds_from w i} {b = t} e) h)

pub entry_goes_on : (w : List ℤ) (t t' : ℤ) (i i' : ℕ) → t ⩽ t' → Used w t i → Used w t' i' → i ≤ i'
entry_goes_on w t t' i i' h u u' = go (dec_lt i' i)
  where
    go : Dec (i' < i) → i ≤ i'
    go (no n) = omega arith
    go (yes n) = not_both (holds_on w t t' i h (u.here (omega arith))) (u'.none_after i n u.below)

-- from the moment of entry i on, and before that of entry i + 1, entry i is used
pub entry_between : (w : List ℤ) (t : ℤ) (i : ℕ) → leap_lawful w ≡ true → i < entries w → holds_from w i ⩽ t → (suc i < entries w → t ≺ holds_from w (suc i)) → Used w t i
unfolding holds
entry_between w t i l m h k =
    record {
      below = m;
      here = λ z. yes_le {a = holds_from w i} {b = t} h;
      none_after = λ j p q. no_le {a = holds_from w j} {b = t} (<-≤_trans (k (omega arith)) (moments_in_order w l (suc i) j (omega arith) q));
    }

-- `low` holds by then, nothing from `high` on does
pub record Bracket (w : List ℤ) (t : ℤ) (low high : ℕ) : Type 0 where
  pub ordered : low < high
  pub inside : high ≤ entries w
  pub here : holds w t low ≡ true
  pub none_after : (k : ℕ) → high ≤ k → k < entries w → holds w t k ≡ false

pub bracket : (w : List ℤ) (t : ℤ) → leap_lawful w ≡ true → holds w t 0 ≡ true → Bracket w t 0 (entries w)
bracket w t l h = record { ordered = some w l; inside = omega arith; here = h; none_after = λ k p q. absurd (omega arith) }

module _ {w : List ℤ} {t : ℤ} {low high : ℕ} where
  pub raise : {middle : ℕ} → Bracket w t low high → low < middle → middle < high → holds w t middle ≡ true → Bracket w t middle high
  raise b p q e = record { ordered = q; inside = b.inside; here = e; none_after = b.none_after }

  pub lower : {middle : ℕ} → leap_lawful w ≡ true → Bracket w t low high → low < middle → middle < high → holds w t middle ≡ false → Bracket w t low middle
  lower {middle} l b p q e = record { ordered = p; inside = omega (arith, b.inside); here = b.here; none_after = λ k m n. not_later w t l middle k m n e }

  pub found : Bracket w t low high → high ≤ low + 1 → low ≡ entry_used w t
  found b h = sym (used_is w t low (record { below = omega (arith, b.ordered, b.inside); here = λ l. b.here; none_after = λ k p q. b.none_after k (omega (arith, b.ordered)) q }))
