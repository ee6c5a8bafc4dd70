-- The numbers by which a series is refused are 2 to 5. Assumes nothing.
use Rattle.std.specs.Prelude.{◌≡◌, Bool, true, false, not, cond, ℕ, zero, suc, ◌*◌, ◌-◌, ◌%◌, ◌≤◌, ltb, eqb, pos, neg_ℤ}
use Rattle.std.proofs.Common.{subst, arith}
use Rattle.std.specs.Int.Signed.{lt_z}
use Rattle.std.proofs.Math.ListN.{length}
use Rattle.refusals.specs.Verdict.{Verdict, answered, refused, refuse_when, ◌before◌}
use Rattle.refusals.specs.Search.{first_bad}
use Rattle.series.specs.Bodies.{numbers}
use Rattle.series.specs.Series.{Series, segments}
use Rattle.series.specs.Acceptance.{bad_range, slow, bad_joint, series_judged}

-- of a judge: what it refuses by, if it refuses
abbrev By : Verdict (Unit {0}) → Type 0
By (answered a) = Unit {0}
By (refused number segment) = (2 ≤ number) × (number ≤ 5)

record TwoToFive (v : Verdict (Unit {0})) : Type 0 where
  by : By v

test : (bad : Bool) → TwoToFive (refuse_when bad 2)
test true = record { by = (omega arith, omega arith) }
test false = record { by = tt }

first_bad_lem : (number : ℕ) → 2 ≤ number → number ≤ 5 → (bad : ℕ → Bool) (k m : ℕ) → TwoToFive (first_bad number bad k m)
unfolding first_bad
first_bad_lem number l h bad k zero = record { by = tt }
first_bad_lem number l h bad k (suc m) = here (bad k) (first_bad_lem number l h bad (suc k) m)
  where
    here : (b : Bool) → TwoToFive (first_bad number bad (suc k) m) → TwoToFive (cond b (refused number k) (first_bad number bad (suc k) m))
    here true behind = record { by = (l, h) }
    here false behind = behind

infixr 5 ◌and◌
◌and◌ : {u v : Verdict (Unit {0})} → TwoToFive u → TwoToFive v → TwoToFive (u before v)
◌and◌ {u = answered a} h k = k
◌and◌ {u = refused number segment} h k = record { by = h.by }

module _ (s : Series) where
  judged_by_lem : TwoToFive (series_judged s)
  unfolding series_judged
  judged_by_lem =
      let n = length s.coefs in
      let coefs = s.coefs in
      (test (not (eqb (n % 14) 0)) and test (eqb n 0) and test (ltb (14 * (numbers s.body).most_segments) n) and test (lt_z s.start (neg_ℤ (pos 10000000000))) and test (lt_z (pos 10000000000) s.start))
      and first_bad_lem 3 (omega arith) (omega arith) (bad_range coefs) 0 (segments coefs)
      and first_bad_lem 4 (omega arith) (omega arith) (slow s.body coefs) 0 (segments coefs)
      and first_bad_lem 5 (omega arith) (omega arith) (bad_joint s.body coefs) 1 (segments coefs - 1)

  pub refused_by_two_to_five : {number segment : ℕ} → series_judged s ≡ refused number segment → (2 ≤ number) × (number ≤ 5)
  refused_by_two_to_five e = (subst TwoToFive e judged_by_lem).by
