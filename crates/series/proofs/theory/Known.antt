-- Acceptance, taken apart: each refusal that was not given, as a fact, and back again. Assumes nothing.
use Rattle.std.specs.Prelude.{◌≡◌, refl, not, List, ℕ, zero, suc, ◌+◌, ◌*◌, ◌-◌, ◌/◌, ◌%◌, ◌<◌, ◌≤◌, ℤ, pos, neg_ℤ, ◌≤ℤ◌, length, take, drop}
use Rattle.std.proofs.Common.{ap, arith, div-add-mod', ltb-false, eqb-true, eq-eqb, ne_eqb, le-ltb, length-drop, length-take-le}
use Rattle.std.proofs.Math.Bool.{false}
use Rattle.std.proofs.lemmas.Bool.{eqb-false, not-false}
use Rattle.std.specs.Int.Signed.{lt_z}
use Rattle.whole.specs.Booleans.{neither, none_of}
use Rattle.whole.specs.Solver.{lt_no, no_lt}
use Rattle.refusals.specs.Verdict.{accepted, before_accepted, both_accepted, refuse_when_accepted, accepted_when}
use Rattle.refusals.specs.Search.{first_bad, first_bad_none, none_first_bad}
use Rattle.analysis.proofs.Theorems.{in_range_exactly}
use Rattle.series.specs.Bodies.{numbers}
use Rattle.series.specs.Series.{Series, segment, segments}
use Rattle.series.specs.Acceptance.{series_judged, judged_shape, Accepted, bad_range, slow, rise, bad_joint}
use Rattle.series.specs.Facts.{Ranged, Facts}

-- ---- a segment is fourteen coefficients of the list
pub segment_length_lem : (coefs : List ℤ) (k : ℕ) → k < segments coefs → length (segment coefs k) ≡ 14
segment_length_lem coefs k h = length-take-le 14 (drop (14 * k) coefs) (rw length-drop (omega (arith, div-add-mod' (length coefs) 14)))

-- the part of the lent coefficients from 14k on is the segment
pub part_is_segment : (coefs : List ℤ) (k : ℕ) → take (14 * k + 14 - 14 * k) (drop (14 * k) coefs) ≡ segment coefs k
part_is_segment coefs k = let fourteen : 14 * k + 14 - 14 * k ≡ 14 = omega arith in rw fourteen

-- ---- all of them
module _ (s : Series) where
  abbrev count : ℕ
  count = length s.coefs

  pub shape_known : judged_shape s.body s.start count ≡ accepted → (count ≡ 14 * segments s.coefs) × ((1 ≤ segments s.coefs) × ((segments s.coefs ≤ (numbers s.body).most_segments) × ((neg_ℤ (pos 10000000000) ≤ℤ s.start) × (s.start ≤ℤ pos 10000000000))))
  shape_known e =
      let a = before_accepted _ _ e in
      let b = before_accepted _ _ a.1 in
      let d = before_accepted _ _ b.1 in
      let f = before_accepted _ _ d.1 in
      let whole : count % 14 ≡ 0 = eqb-true _ _ (not-false _ (refuse_when_accepted _ _ a.0)) in
      let some : count ≡ 0 → ⊥ = eqb-false _ _ (refuse_when_accepted _ _ b.0) in
      let few : count ≤ 14 * (numbers s.body).most_segments = ltb-false _ _ (refuse_when_accepted _ _ d.0) in
      (omega (arith, div-add-mod' count 14), (go (count / 14) refl some whole, (omega (arith, div-add-mod' count 14), (lt_no (refuse_when_accepted _ _ f.0), lt_no (refuse_when_accepted _ _ f.1)))))
    where
      go : (n : ℕ) → count / 14 ≡ n → (count ≡ 0 → ⊥) → count % 14 ≡ 0 → 1 ≤ count / 14
      go zero p q r = absurd (q (omega (arith, div-add-mod' count 14)))
      go (suc n) p q r = omega arith

  ranged_known : judged_shape s.body s.start count ≡ accepted → first_bad 3 (bad_range s.coefs) 0 (segments s.coefs) ≡ accepted → Ranged s.coefs
  ranged_known e f = record {
    whole_segments = (shape_known e).0;
    in_range = λ k h. (in_range_exactly (segment s.coefs k) (segment_length_lem s.coefs k h)).0 (first_bad_none 3 (bad_range s.coefs) 0 (segments s.coefs) f k (omega arith) (omega arith));
  }

  pub facts : Accepted s → Facts s
  unfolding series_judged
  facts e =
      let a = before_accepted _ _ e in
      let b = before_accepted _ _ a.1 in
      let d = before_accepted _ _ b.1 in
      let shape = shape_known a.0 in
      let joint : (k : ℕ) → 1 ≤ k → k < segments s.coefs → bad_joint s.body s.coefs k ≡ false = λ k l h. first_bad_none 5 (bad_joint s.body s.coefs) 1 (segments s.coefs - 1) d.1 k l (omega arith) in
      record {
        ranged = ranged_known a.0 b.0;
        some_segment = shape.1.0;
        not_too_many = shape.1.1.0;
        not_too_early = shape.1.1.1.0;
        not_too_late = shape.1.1.1.1;
        fast = λ k h. lt_no (first_bad_none 4 (slow s.body s.coefs) 0 (segments s.coefs) d.0 k (omega arith) (omega arith));
        joined_least = λ k l h. lt_no (neither (lt_z (rise s.body s.coefs k) (pos 200)) (lt_z (pos 100000) (rise s.body s.coefs k)) (joint k l h)).0;
        joined_most = λ k l h. lt_no (neither (lt_z (rise s.body s.coefs k) (pos 200)) (lt_z (pos 100000) (rise s.body s.coefs k)) (joint k l h)).1;
      }

  -- and back
  module _ (f : Facts s) where
    shape_good : judged_shape s.body s.start count ≡ accepted
    shape_good =
        let w = f.ranged.whole_segments in
        let some = f.some_segment in
        let few = f.not_too_many in
        let whole : count % 14 ≡ 0 = omega (arith, div-add-mod' count 14) in
        let fits : count ≤ 14 * (numbers s.body).most_segments = omega arith in
        both_accepted _ _ (accepted_when _ 2 (ap not (eq-eqb _ _ whole)))
        (both_accepted _ _ (accepted_when _ 2 (ne_eqb _ _ (λ (e : count ≡ 0). omega arith)))
        (both_accepted _ _ (accepted_when _ 2 (le-ltb _ _ fits))
        (both_accepted _ _ (accepted_when _ 2 (no_lt f.not_too_early)) (accepted_when _ 2 (no_lt f.not_too_late)))))

    pub facts_suffice : Accepted s
    unfolding series_judged
    facts_suffice =
        both_accepted _ _ shape_good
        (both_accepted _ _ (none_first_bad 3 (bad_range s.coefs) 0 (segments s.coefs) (λ k l h. (in_range_exactly (segment s.coefs k) (segment_length_lem s.coefs k (omega arith))).1 (f.ranged.in_range k (omega arith))))
        (both_accepted _ _ (none_first_bad 4 (slow s.body s.coefs) 0 (segments s.coefs) (λ k l h. no_lt (f.fast k (omega arith))))
        (none_first_bad 5 (bad_joint s.body s.coefs) 1 (segments s.coefs - 1)
        (λ k l h. none_of _ _ (no_lt (f.joined_least k l (omega arith))) (no_lt (f.joined_most k l (omega arith)))))))
