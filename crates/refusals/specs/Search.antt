-- The first segment that breaks a rule: `first_bad n bad k m` looks at the m segments from k on, and refuses by n at the first bad one. That is exact:
-- `refused_exactly` and `accepted_exactly`. Assumes nothing.
use Rattle.std.specs.Prelude.{◌≡◌, refl, ◌↔◌, Bool, true, false, cond}
use Rattle.std.proofs.Common.{sym, ap, ◌∙◌}
use Prim.Native.Nat.{ℕ, zero, suc, ◌+◌, ◌-◌, ◌<◌, ◌≤◌}
use native.Mathlib.Omega.{arith}
use Rattle.refusals.specs.Verdict.{Verdict, refused, accepted, answer_or_refusal}

unfoldable pub first_bad : ℕ → (ℕ → Bool) → ℕ → ℕ → Verdict (Unit {0})
first_bad number bad k zero = accepted
first_bad number bad k (suc m) = cond (bad k) (refused number k) (first_bad number bad (suc k) m)

-- For a loop from k on to n: at a good segment the search goes on behind it, at a bad one it ends, and past the last nothing is refused.
pub first_bad_good : (number : ℕ) (bad : ℕ → Bool) (k n : ℕ) → k < n → bad k ≡ false → first_bad number bad k (n - k) ≡ first_bad number bad (k + 1) (n - (k + 1))
first_bad_good number bad k n h good = ap (first_bad number bad k) more ∙ (unfold first_bad in rw good (ap (λ (i : ℕ). first_bad number bad i (n - (k + 1))) (omega arith)))
  where
    more : n - k ≡ suc (n - (k + 1))
    more = omega arith

pub first_bad_bad : (number : ℕ) (bad : ℕ → Bool) (k n : ℕ) → k < n → bad k ≡ true → first_bad number bad k (n - k) ≡ refused number k
first_bad_bad number bad k n h is_bad = ap (first_bad number bad k) more ∙ (unfold first_bad in rw is_bad)
  where
    more : n - k ≡ suc (n - (k + 1))
    more = omega arith

pub first_bad_end : (number : ℕ) (bad : ℕ → Bool) (k n : ℕ) → n ≤ k → first_bad number bad k (n - k) ≡ accepted
first_bad_end number bad k n h = ap (first_bad number bad k) none ∙ (unfold first_bad in refl)
  where
    none : n - k ≡ 0
    none = omega arith

-- Nothing is refused when no segment is bad, and only then.
pub first_bad_none : (number : ℕ) (bad : ℕ → Bool) (k m : ℕ) → first_bad number bad k m ≡ accepted → (i : ℕ) → k ≤ i → i < k + m → bad i ≡ false
unfolding first_bad
first_bad_none number bad k zero e i l h = absurd (omega arith)
first_bad_none number bad k (suc m) e i l h = go (λ q a b. first_bad_none number bad (suc k) m q i a b) (bad k) refl e
  where
    go : (first_bad number bad (suc k) m ≡ accepted → suc k ≤ i → i < suc k + m → bad i ≡ false) → (b : Bool) → bad k ≡ b → cond b (refused number k) (first_bad number bad (suc k) m) ≡ accepted → bad i ≡ false
    go behind true p q = let z : ◌≡◌ {A = ℕ} 0 1 = cc in absurd (omega arith)
    go behind false p q = here_or_behind (i - k) refl
      where
        here_or_behind : (j : ℕ) → i - k ≡ j → bad i ≡ false
        here_or_behind zero f = ap bad (omega arith) ∙ p
        here_or_behind (suc j) f = behind q (omega arith) (omega arith)

pub none_first_bad : (number : ℕ) (bad : ℕ → Bool) (k m : ℕ) → ((i : ℕ) → k ≤ i → i < k + m → bad i ≡ false) → first_bad number bad k m ≡ accepted
unfolding first_bad
none_first_bad number bad k zero h = refl
none_first_bad number bad k (suc m) h = rw (h k (omega arith) (omega arith)) (none_first_bad number bad (suc k) m (λ i l u. h i (omega arith) (omega arith)))

pub accepted_exactly : (number : ℕ) (bad : ℕ → Bool) (k m : ℕ) → first_bad number bad k m ≡ accepted ↔ ((i : ℕ) → k ≤ i → i < k + m → bad i ≡ false)
accepted_exactly number bad k m = (first_bad_none number bad k m, none_first_bad number bad k m)

-- i is the first bad one of the m from k on
pub record First (bad : ℕ → Bool) (k m i : ℕ) : Type 0 where
  pub from : k ≤ i
  pub within : i < k + m
  pub is_bad : bad i ≡ true
  pub none_before : (j : ℕ) → k ≤ j → j < i → bad j ≡ false

-- k itself, or one of those behind it
first_or_later : {X : Type 0} (k i : ℕ) → k ≤ i → (i ≡ k → X) → (suc k ≤ i → X) → X
first_or_later {X} k i h same later = go (i - k) refl
  where
    go : (d : ℕ) → i - k ≡ d → X
    go zero e = same (omega arith)
    go (suc d) e = later (omega arith)

first_first_bad : (number : ℕ) (bad : ℕ → Bool) (k m i : ℕ) → First bad k m i → first_bad number bad k m ≡ refused number i
unfolding first_bad
first_first_bad number bad k zero i f = let l = f.from in let u = f.within in absurd (omega arith)
first_first_bad number bad k (suc m) i f =
    first_or_later k i f.from
    (λ (e : i ≡ k). rw (ap bad (sym e) ∙ f.is_bad) (ap (refused number) (sym e)))
    (λ (l : suc k ≤ i).
    rw (f.none_before k (omega arith) (omega arith))
    (first_first_bad number bad (suc k) m i (record { from = l; within = omega (arith, f.within); is_bad = f.is_bad; none_before = λ j p q. f.none_before j (omega arith) q })))

first_bad_first : (number : ℕ) (bad : ℕ → Bool) (k m i : ℕ) → first_bad number bad k m ≡ refused number i → First bad k m i
unfolding first_bad
first_bad_first number bad k zero i e = answer_or_refusal e
first_bad_first number bad k (suc m) i e = go (first_bad_first number bad (suc k) m i) (bad k) refl e
  where
    go : (first_bad number bad (suc k) m ≡ refused number i → First bad (suc k) m i) → (b : Bool) → bad k ≡ b → cond b (refused number k) (first_bad number bad (suc k) m) ≡ refused number i → First bad k (suc m) i
    go behind true p q = let is : k ≡ i = cc in record { from = omega arith; within = omega arith; is_bad = ap bad (sym is) ∙ p; none_before = λ j l u. absurd (omega arith) }
    go behind false p q =
        let f = behind q in
        record {
          from = omega (arith, f.from);
          within = omega (arith, f.within);
          is_bad = f.is_bad;
          none_before = λ j l u. first_or_later k j l (λ (same : j ≡ k). ap bad same ∙ p) (λ (later : suc k ≤ j). f.none_before j later u);
        }

pub refused_exactly : (number : ℕ) (bad : ℕ → Bool) (k m i : ℕ) → first_bad number bad k m ≡ refused number i ↔ First bad k m i
refused_exactly number bad k m i = (first_bad_first number bad k m i, first_first_bad number bad k m i)
