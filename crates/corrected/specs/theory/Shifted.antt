-- The first bad segment, looked for in a part: where all that lie before the part and behind it are good, it is the part's first bad one, its number shifted by
-- those before. Assumes nothing.
use Rattle.std.specs.Prelude.{◌≡◌, Bool}
use Rattle.std.proofs.Math.Path.{refl}
use Rattle.std.proofs.Common.{ap, ◌∙◌}
use Rattle.std.proofs.Math.Bool.{true, false, cond}
use Prim.Native.Nat.{ℕ, zero, suc, ◌+◌, ◌<◌, ◌≤◌}
use native.Mathlib.Omega.{arith}
use Rattle.refusals.specs.Verdict.{Verdict, answered, refused, accepted, ◌before◌, refusal_number, refusal_segment, refusal, answer_or_refusal}
use Rattle.refusals.specs.Search.{first_bad, none_first_bad}
use Rattle.refusals.specs.declared.Refusal.{Refusal}

-- what is said of a part that so many segments lie before
abbrev pub shifted_by : ℕ → Verdict (Unit {0}) → Verdict (Unit {0})
shifted_by from (answered a) = accepted
shifted_by from (refused number segment) = refused number (from + segment)

pub shifted_before : (from : ℕ) (u v : Verdict (Unit {0})) → shifted_by from (u before v) ≡ shifted_by from u before shifted_by from v
shifted_before from (answered a) v = refl
shifted_before from (refused number segment) v = refl

-- ---- a refusal's segment is one of those that were looked at
abbrev SegmentBelow : ℕ → Verdict (Unit {0}) → Type 0
SegmentBelow n (answered a) = Unit {0}
SegmentBelow n (refused number segment) = segment < n

pub record Below (n : ℕ) (v : Verdict (Unit {0})) : Type 0 where
  pub below : SegmentBelow n v

infixr 5 ◌and◌
pub ◌and◌ : {n : ℕ} {u v : Verdict (Unit {0})} → Below n u → Below n v → Below n (u before v)
◌and◌ {u = answered a} h k = k
◌and◌ {u = refused number segment} h k = record { below = h.below }

pub refused_below : {n number segment : ℕ} {v : Verdict (Unit {0})} → Below n v → v ≡ refused number segment → segment < n
refused_below {n} h e = rw e at h.below

pub shifted_below : {n m : ℕ} {v : Verdict (Unit {0})} (from : ℕ) → Below n v → from + n ≤ m → Below m (shifted_by from v)
shifted_below {v = answered a} from h l = record { below = tt }
shifted_below {v = refused number segment} from h l = record { below = omega (arith, h.below) }

pub first_bad_below : (number : ℕ) (bad : ℕ → Bool) (n k m : ℕ) → k + m ≤ n → Below n (first_bad number bad k m)
unfolding first_bad
first_bad_below number bad n k zero h = record { below = tt }
first_bad_below number bad n k (suc m) h = go (first_bad_below number bad n (suc k) m (omega arith)) (bad k)
  where
    go : Below n (first_bad number bad (suc k) m) → (b : Bool) → Below n (cond b (refused number k) (first_bad number bad (suc k) m))
    go behind true = record { below = omega arith }
    go behind false = behind

-- of two judges that refuse, one does
pub either_refuses : {X : Type 0} {number segment : ℕ} (u v : Verdict (Unit {0})) → (u ≡ refused number segment → X) → (v ≡ refused number segment → X) → u before v ≡ refused number segment → X
either_refuses (answered tt) v first second e = second e
either_refuses (refused n k) v first second e = first e

-- and a search refuses by its own number
pub refused_by : {number segment : ℕ} (own : ℕ) (bad : ℕ → Bool) (k m : ℕ) → first_bad own bad k m ≡ refused number segment → number ≡ own
unfolding first_bad
refused_by own bad k zero e = answer_or_refusal e
refused_by {number} {segment} own bad k (suc m) e = go (refused_by own bad (suc k) m) (bad k) e
  where
    go : (first_bad own bad (suc k) m ≡ refused number segment → number ≡ own) → (b : Bool) → cond b (refused own k) (first_bad own bad (suc k) m) ≡ refused number segment → number ≡ own
    go behind true p = cc
    go behind false p = behind p

-- ---- a refusal that stays the same but for its segment, which is `from` more, says of the whole what the other says of the part
pub shifted_refusal : (from : ℕ) (r s : Refusal) {v : Verdict (Unit {0})} → v ≡ refusal r → refusal_number s ≡ refusal_number r → refusal_segment s ≡ from + refusal_segment r → refusal s ≡ shifted_by from v
shifted_refusal from r s e p q = rw (e, p, q)

-- ---- the part's search
module _ (number : ℕ) (bad : ℕ → Bool) where
  -- the first m are good
  past_good : (m k n : ℕ) → ((i : ℕ) → k ≤ i → i < k + m → bad i ≡ false) → first_bad number bad k (m + n) ≡ first_bad number bad (k + m) n
  unfolding first_bad
  past_good zero k n good =
      let here : k + 0 ≡ k = omega arith in
      let all : 0 + n ≡ n = omega arith in
      rw (here, all)
  past_good (suc m) k n good =
      let one_more : suc m + n ≡ suc (m + n) = omega arith in
      let later : k + suc m ≡ suc k + m = omega arith in
      rw (one_more, later) (rw (good k (omega arith) (omega arith)) (past_good m (suc k) n (λ i l h. good i (omega arith) (omega arith))))

  -- all behind the first m are good
  before_good : (m k n : ℕ) → ((i : ℕ) → k + m ≤ i → i < k + m + n → bad i ≡ false) → first_bad number bad k (m + n) ≡ first_bad number bad k m
  unfolding first_bad
  before_good zero k n good =
      let all : 0 + n ≡ n = omega arith in
      rw all (none_first_bad number bad k n (λ i l h. good i (omega arith) (omega arith)))
  before_good (suc m) k n good =
      let one_more : suc m + n ≡ suc (m + n) = omega arith in
      rw one_more (ap (cond (bad k) (refused number k)) (before_good m (suc k) n (λ i l h. good i (omega arith) (omega arith))))

  -- the same segments, numbered from 0
  renumbered : (part : ℕ → Bool) (from m k : ℕ) → ((i : ℕ) → k ≤ i → i < k + m → bad (from + i) ≡ part i) → first_bad number bad (from + k) m ≡ shifted_by from (first_bad number part k m)
  unfolding first_bad
  renumbered part from zero k same = refl
  renumbered part from (suc m) k same = go (renumbered part from m (suc k) (λ i l h. same i (omega arith) (omega arith))) (part k) (same k (omega arith) (omega arith))
    where
      go : first_bad number bad (from + suc k) m ≡ shifted_by from (first_bad number part (suc k) m) → (b : Bool) → bad (from + k) ≡ b → cond (bad (from + k)) (refused number (from + k)) (first_bad number bad (suc (from + k)) m) ≡ shifted_by from (cond b (refused number k) (first_bad number part (suc k) m))
      go behind true e = rw e
      go behind false e = let later : suc (from + k) ≡ from + suc k = omega arith in rw (e, later) behind

  -- where the segments from k on before from + k, and those behind the m from there on, are good
  pub looked_for_in_part : (part : ℕ → Bool) (from k m n : ℕ) →
      ((i : ℕ) → k ≤ i → i < k + from → bad i ≡ false) →
      ((i : ℕ) → from + k + m ≤ i → i < from + k + m + n → bad i ≡ false) →
      ((i : ℕ) → k ≤ i → i < k + m → bad (from + i) ≡ part i) →
      first_bad number bad k (from + (m + n)) ≡ shifted_by from (first_bad number part k m)
  looked_for_in_part part from k m n front rear same =
      let there : k + from ≡ from + k = omega arith in
      past_good from k (m + n) front
      ∙ ap (λ (i : ℕ). first_bad number bad i (m + n)) there
      ∙ before_good m (from + k) n rear
      ∙ renumbered part from m k same
