-- Comparing segments: one of a number, those before a number, those from a number on, those between; and by the parts that hold them. Assumes nothing.
use Rattle.std.specs.Prelude.{◌≡◌, List, ℕ, ◌+◌, ◌-◌, ◌≤◌, ◌<◌, ℤ}
use Rattle.std.proofs.Common.{sym, ap, subst, ◌∙◌, arith}
use Rattle.std.proofs.Math.Decide.{dec_lt}
use Rattle.series.specs.Series.{segment, segments}
use Rattle.corrected.specs.theory.Parts.{part_of, part_segment}

module _ (old new : List ℤ) where
  -- segment k of the new ones is the same words as that of the old ones
  abbrev pub SameAt : ℕ → Type 0
  SameAt k = (k < segments old) × (segment new k ≡ segment old k)

  abbrev pub SameBefore : ℕ → Type 0
  SameBefore n = (k : ℕ) → k < n → SameAt k

  abbrev pub SameFrom : ℕ → Type 0
  SameFrom n = (k : ℕ) → n ≤ k → k < segments new → SameAt k

  abbrev pub SameBetween : ℕ → ℕ → Type 0
  SameBetween n m = (k : ℕ) → n ≤ k → k < m → SameAt k

  -- as many more from the first on, and from the last back
  pub none_before : SameBefore 0
  none_before k h = absurd (omega arith)

  pub more_before : (n m : ℕ) → SameBefore n → SameBetween n m → SameBefore m
  more_before n m before between k h = go (dec_lt k n)
    where
      go : Dec (k < n) → SameAt k
      go (yes l) = before k l
      go (no l) = between k (omega arith) h

  pub one_before : (n : ℕ) → SameBefore n → SameAt n → SameBefore (n + 1)
  one_before n before here = more_before n (n + 1) before (λ k h l. let e : n ≡ k = omega arith in subst SameAt e here)

  pub none_behind : SameFrom (segments new)
  none_behind k h l = absurd (omega arith)

  pub more_behind : (m n : ℕ) → SameBetween m n → SameFrom n → SameFrom m
  more_behind m n between behind k h l = go (dec_lt k n)
    where
      go : Dec (k < n) → SameAt k
      go (yes s) = between k h s
      go (no s) = behind k (omega arith) l

  pub one_behind : (n : ℕ) → 0 < n → SameFrom n → SameAt (n - 1) → SameFrom (n - 1)
  one_behind n some behind here = more_behind (n - 1) n (λ k h l. let e : n - 1 ≡ k = omega arith in subst SameAt e here) behind

  -- the parts that hold them are the same words
  pub same_parts : (n m : ℕ) → n ≤ m → m ≤ segments old → m ≤ segments new → part_of new n m ≡ part_of old n m → SameBetween n m
  same_parts n m ordered in-old in-new e k h l =
      let here : n + (k - n) ≡ k = omega arith in
      let word : segment new (n + (k - n)) ≡ segment old (n + (k - n)) =
      part_segment new n m ordered in-new (k - n) (omega arith) ∙ ap (λ (part : List ℤ). segment part (k - n)) e ∙ sym (part_segment old n m ordered in-old (k - n) (omega arith)) in
      (omega arith, subst (λ (i : ℕ). segment new i ≡ segment old i) here word)
