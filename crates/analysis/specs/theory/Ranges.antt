-- What refusal 3 tells of a segment, and how a loop finds it. Assumes nothing.
use Rattle.std.specs.Prelude.{◌≡◌, refl, true, false, List, [], ◌∷◌, ℕ, zero, suc, ◌+◌, ◌-◌, ◌≤◌, ◌<◌, ltb, ℤ, pos, nat_abs, length, get_or}
use Rattle.std.proofs.Common.{ap, ◌∙◌, arith, ltb-false, le-ltb}
use Rattle.std.proofs.Math.Decide.{dec_lt}
use Rattle.whole.specs.Booleans.{neither, none_of}
use Rattle.whole.specs.Ranges.{Within}
use Rattle.chebyshev.specs.Segment.{coefficient, limit, larger, out_of_range, InRange}

-- ---- for a loop from n on to 14: past a coefficient in range the search goes on, at a larger one it ends, and past the last there is none
pub larger_passes : (c : List ℤ) (n : ℕ) → n < 14 → ltb (limit n) (nat_abs (coefficient c n)) ≡ false → larger c n (14 - n) ≡ larger c (n + 1) (14 - (n + 1))
larger_passes c n h good = ap (larger c n) more ∙ rw good (ap (λ (i : ℕ). larger c i (14 - (n + 1))) (omega arith))
  where
    more : 14 - n ≡ suc (14 - (n + 1))
    more = omega arith

pub larger_found : (c : List ℤ) (n : ℕ) → n < 14 → ltb (limit n) (nat_abs (coefficient c n)) ≡ true → larger c n (14 - n) ≡ true
larger_found c n h bad = ap (larger c n) more ∙ rw bad
  where
    more : 14 - n ≡ suc (14 - (n + 1))
    more = omega arith

pub larger_end : (c : List ℤ) (n : ℕ) → 14 ≤ n → larger c n (14 - n) ≡ false
larger_end c n h = ap (larger c n) none
  where
    none : 14 - n ≡ 0
    none = omega arith

-- ---- where none is larger, each is in range
each_in : (c : List ℤ) (n count : ℕ) → larger c n count ≡ false → (i : ℕ) → i < count → nat_abs (coefficient c (n + i)) ≤ limit (n + i)
each_in c n zero e i h = absurd (omega arith)
each_in c n (suc count) e zero h = let here : n + 0 ≡ n = omega arith in rw here (ltb-false _ _ (neither (ltb (limit n) (nat_abs (coefficient c n))) (larger c (suc n) count) e).0)
each_in c n (suc count) e (suc i) h = let there : n + suc i ≡ suc n + i = omega arith in rw there (each_in c (suc n) count (neither (ltb (limit n) (nat_abs (coefficient c n))) (larger c (suc n) count) e).1 i (omega arith))

-- a list that ends before an index has nothing there
past_end : (l : List ℤ) (n : ℕ) → length l ≤ n → get_or l n (pos 0) ≡ pos 0
past_end [] n h = refl
past_end (x ∷ l) zero h = absurd (omega arith)
past_end (x ∷ l) (suc n) h = past_end l n (omega arith)

each : (c : List ℤ) → out_of_range c ≡ false → (n : ℕ) → n < 14 → nat_abs (coefficient c n) ≤ limit n
each c e n h = let from_0 : 0 + n ≡ n = omega arith in rw from_0 at (each_in c 0 14 e n h)

pub in_range_lem : (c : List ℤ) → length c ≡ 14 → out_of_range c ≡ false → InRange c
in_range_lem c l e = record { constant = record { within = each c e 0 (omega arith) }; others = others }
  where
    others : (n : ℕ) → 1 ≤ n → Within 4000000000 (coefficient c n)
    others zero h = absurd (omega arith)
    others (suc n) h = go (dec_lt (suc n) 14)
      where
        go : Dec (suc n < 14) → Within 4000000000 (coefficient c (suc n))
        go (yes m) = record { within = each c e (suc n) m }
        go (no m) = record { within = rw (past_end c (suc n) (omega arith)) (omega arith) }

-- and back
within_limit : (c : List ℤ) → InRange c → (n : ℕ) → nat_abs (coefficient c n) ≤ limit n
within_limit c r zero = r.constant.within
within_limit c r (suc n) = (r.others (suc n) (omega arith)).within

none_from : (c : List ℤ) → InRange c → (n count : ℕ) → larger c n count ≡ false
none_from c r n zero = refl
none_from c r n (suc count) = none_of _ _ (le-ltb _ _ (within_limit c r n)) (none_from c r (suc n) count)

pub none_larger : (c : List ℤ) → InRange c → out_of_range c ≡ false
none_larger c r = none_from c r 0 14
