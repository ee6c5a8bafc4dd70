-- What a call returns tells a C program which it is: 0 exactly where the entry point answered, else a number of the rules' table, 1 to 10, 12, 13, 15 or 18. (`theory` shows
-- `Fits` of what each export answers.) Assumes nothing but what a statement says itself.
use Rattle.std.specs.Prelude.{◌≡◌, refl, Bool, true, false, not, ◌&&◌, ◌↔◌, ℕ, ◌≤◌, ◌<◌, T, eqb, ltb, leb, pos}
use Rattle.std.proofs.Common.{ap, subst, ltb→lt, leb→le}
use Rattle.refusals.specs.Verdict.{Verdict, answered, refused}
use Rattle.answers.specs.Record.{number_of}
use Rattle.answers.specs.Fits.{Fits, in_table}

module _ {A : Type 0} {size : A → ℕ} where
  zero_answers : (v : Verdict A) → Fits size v → number_of v ≡ pos 0 → (a : A) × (v ≡ answered a)
  zero_answers (answered a) f e = (a, refl)
  zero_answers (refused number segment) f e = let none : number ≡ 0 = cc in absurd (subst (λ (n : ℕ). T (in_table n)) none f.numbered)

  pub zero_exactly_when_answered : (v : Verdict A) → Fits size v → number_of v ≡ pos 0 ↔ ((a : A) × (v ≡ answered a))
  zero_exactly_when_answered v f = (zero_answers v f, λ p. ap (λ (w : Verdict A). number_of w) p.1)

  -- 1 to 18, and never 11, 14, 16 or 17
  pub refused_by_the_table : {number segment : ℕ} → Fits size (refused number segment) → (0 < number) × (number ≤ 18) × (number ≡ 11 → ⊥) × (number ≡ 14 → ⊥) × (number ≡ 16 → ⊥) × (number ≡ 17 → ⊥)
  refused_by_the_table {number} f =
      let t = split (ltb 0 number && leb number 18) ((not (eqb number 11) && not (eqb number 14)) && (not (eqb number 16) && not (eqb number 17))) f.numbered in
      let range = split (ltb 0 number) (leb number 18) t.0 in
      let never = split (not (eqb number 11) && not (eqb number 14)) (not (eqb number 16) && not (eqb number 17)) t.1 in
      let early = split (not (eqb number 11)) (not (eqb number 14)) never.0 in
      let late = split (not (eqb number 16)) (not (eqb number 17)) never.1 in
      (ltb→lt 0 number range.0, leb→le number 18 range.1, λ e. subst (λ (n : ℕ). T (not (eqb n 11))) e early.0, λ e. subst (λ (n : ℕ). T (not (eqb n 14))) e early.1, λ e. subst (λ (n : ℕ). T (not (eqb n 16))) e late.0, λ e. subst (λ (n : ℕ). T (not (eqb n 17))) e late.1)
    where
      split : (a b : Bool) → T (a && b) → T a × T b
      split true b t = (tt, t)
      split false b t = absurd t
