-- The lines put into lent room one by one: a turn of the loop, and the two promises. Assumes nothing.
use Rattle.std.specs.Prelude.{◌≡◌, refl, List, ◌++◌, ℕ, ◌+◌, ◌*◌, ◌≤◌, ◌<◌, ℤ, length, drop}
use Rattle.std.proofs.Common.{sym, ap, ◌∙◌, arith, add-one, zero-add, lt-ltb, le-ltb}
use Rattle.whole.specs.Lists.{placed, placed_none, placed_both}
use Rattle.refusals.specs.Verdict.{Verdict, answered, refused}
use Rattle.refusals.specs.Lent.{written_into}
use Rattle.content.specs.Content.{year_at}
use Rattle.almanac.specs.Answers.{bytes_counted, all_bytes}
use Rattle.kept_years.specs.KeptYears.{line, lines}
use Rattle.kept_years.specs.Answers.{lines_into}
use Rattle.kept_years.specs.theory.Among.{line_length_lem, lines_length}

-- what a function answers, and what it leaves in the lent room, by what is to be put
abbrev pub Promises : List ℕ → Verdict (List ℕ) → Verdict ℕ → List ℕ → Type 0
Promises out bytes v last = (v ≡ bytes_counted bytes) × (last ≡ written_into bytes all_bytes out)

module _ (suis years : List ℤ) (out : List ℕ) where
  pub no_lines : out ≡ placed 0 (lines suis years 0) out
  unfolding lines
  no_lines = placed_none out 0

  pub lines_turn : (i : ℕ) {now last : List ℕ} (part : List ℕ) → 10 * (i + 1) ≤ length out → now ≡ placed 0 (lines suis years i) out → last ≡ placed (10 * i) part now → part ≡ line (year_at suis i) years → last ≡ placed 0 (lines suis years (i + 1)) out
  lines_turn i part room e put is =
      put
      ∙ ap (placed (10 * i) part) e
      ∙ ap (λ (k : ℕ). placed k part (placed 0 (lines suis years i) out)) at
      ∙ placed_both out (lines suis years i) 0 part (omega (arith, lines_length suis years i, wide))
      ∙ ap (λ (b : List ℕ). placed 0 b out) (ap (λ (b : List ℕ). lines suis years i ++ b) is ∙ sym more)
    where
      at : 10 * i ≡ 0 + length (lines suis years i)
      at = omega (arith, lines_length suis years i)

      wide : length part ≡ 10
      wide = ap length is ∙ line_length_lem (year_at suis i) years

      more : lines suis years (i + 1) ≡ lines suis years i ++ line (year_at suis i) years
      more = ap (lines suis years) (add-one i) ∙ (unfold lines in refl)

  -- ---- by all lines, or why they are not put
  promises : (n : ℕ) (v : Verdict (List ℕ)) → lines_into (lines suis years n) (length out) ≡ v → Promises out (lines_into (lines suis years n) (length out)) (bytes_counted v) (written_into v all_bytes out)
  promises n v e = rw e (refl, refl)

  pub no_room : (n : ℕ) → length out < 10 * n → Promises out (lines_into (lines suis years n) (length out)) (refused 12 0) out
  no_room n h = promises n (refused 12 0) (rw (lines_length suis years n, lt-ltb (length out) (10 * n) h))

  pub all_put : (n : ℕ) {last : List ℕ} → 10 * n ≤ length out → last ≡ placed 0 (lines suis years n) out → Promises out (lines_into (lines suis years n) (length out)) (answered (10 * n)) last
  all_put n h e =
      let p = promises n (answered (lines suis years n)) (rw (lines_length suis years n, le-ltb (length out) (10 * n) h)) in
      (ap answered (sym (lines_length suis years n)) ∙ p.0, e ∙ ap (λ (k : ℕ). lines suis years n ++ drop k out) (zero-add (length (lines suis years n))) ∙ p.1)
