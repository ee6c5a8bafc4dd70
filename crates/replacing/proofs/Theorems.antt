-- What is proved of a replacement, over its definition: a refusal changes nothing; answered exactly where the segment is there and the new series is accepted, and then
-- that segment is the part and every other is as before; one result. Assumes nothing but what a statement says itself.
use Rattle.std.specs.Prelude.{◌≡◌, ◌↔◌, List, ℕ, ◌<◌, leb, ℤ, length, Result}
use Rattle.std.proofs.Common.{ap, subst, ◌∙◌, leb-false}
use Rattle.refusals.specs.Verdict.{Verdict, answered, refused, ◌before◌, checks_apart, one_result, one_content, test_answered, answered_says, paper}
use Rattle.refusals.specs.declared.Refusal.{Refusal}
use Rattle.series.specs.Series.{Series, series, segment, segments}
use Rattle.series.specs.Acceptance.{Accepted, series_judged}
use Rattle.replacing.specs.Replaced.{replaced, series_with, segment_replaced, segment_checked, held_after}
use Rattle.replacing.specs.theory.Put.{replaced_length, segment_replaced_lem, segment_stays}
use Rattle.replacing.specs.theory.Cases.{new_accepted}

module _ (s : Series) (k : ℕ) (part : List ℤ) where
  -- ---- a refusal changes nothing
  pub refusal_changes_nothing : {number segment : ℕ} → segment_replaced s k part ≡ refused number segment → held_after (segment_replaced s k part) s.coefs ≡ s.coefs
  refusal_changes_nothing e = ap (λ (v : Verdict (List ℤ)). held_after v s.coefs) e

  -- ---- what is answered, and when
  answered_only : {new : List ℤ} → segment_replaced s k part ≡ answered new → (k < segments s.coefs) × Accepted (series_with s k part) × (replaced s.coefs k part ≡ new)
  unfolding segment_replaced
  answered_only {new} e =
      let there = test_answered (leb (segments s.coefs) k) 6 (series_judged (series_with s k part) before answered (replaced s.coefs k part)) new e in
      let judged = answered_says (series_judged (series_with s k part)) there.1 in
      (leb-false (segments s.coefs) k there.0, judged.0, judged.1)

  pub replaced_exactly_when : (new : List ℤ) → segment_replaced s k part ≡ answered new ↔ ((k < segments s.coefs) × Accepted (series_with s k part) × (replaced s.coefs k part ≡ new))
  replaced_exactly_when new = (answered_only, λ h. new_accepted s k part h.0 h.1 ∙ ap answered h.2)

  -- the new coefficients: accepted, as many as before, the part where segment k stood, and every other segment as it was
  pub record Replacement (new : List ℤ) : Type 0 where
    pub segment_there : k < segments s.coefs
    pub is_accepted : Accepted (series s.body s.start new)
    pub as_many : length new ≡ length s.coefs
    pub is_part_lem : segment new k ≡ part
    pub others_stay : (j : ℕ) → (j ≡ k → ⊥) → segment new j ≡ segment s.coefs j

  pub what_is_replaced : length part ≡ 14 → {new : List ℤ} → segment_replaced s k part ≡ answered new → Replacement new
  what_is_replaced fourteen {new} e =
      let a = answered_only e in
      subst Replacement a.2
      (record {
        segment_there = a.0;
        is_accepted = a.1;
        as_many = replaced_length s.coefs k part fourteen a.0;
        is_part_lem = segment_replaced_lem s.coefs k part fourteen a.0;
        others_stay = segment_stays s.coefs k part fourteen a.0;
      })

  -- ---- one result: any two answers that it may give are the same, and so is what the lent coefficients are
  pub replace_segment_one_result : (a b : Result (Unit {0}) Refusal) → paper a ≡ segment_checked s k part → paper b ≡ segment_checked s k part → a ≡ b
  replace_segment_one_result a b p q = one_result paper checks_apart a b p q

  pub replace_segment_one_content : (a b : List ℤ) → a ≡ held_after (segment_replaced s k part) s.coefs → b ≡ held_after (segment_replaced s k part) s.coefs → a ≡ b
  replace_segment_one_content a b p q = one_content a b p q
