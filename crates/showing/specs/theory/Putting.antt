-- The text put into lent room line by line: a turn of the loop, and the two promises. Assumes nothing.
use Rattle.std.specs.Prelude.{◌≡◌, refl, List, ◌++◌, ℕ, ◌+◌, ◌*◌, ◌≤◌, ◌<◌, ℤ, length, drop}
use Rattle.std.proofs.Common.{sym, ap, ◌∙◌, arith, add-one, zero-add, lt-ltb, le-ltb}
use Rattle.whole.specs.Lists.{placed, placed_none, placed_both}
use Rattle.refusals.specs.Verdict.{Verdict, answered, refused}
use Rattle.refusals.specs.Lent.{written_into}
use Rattle.content.specs.Content.{month_at}
use Rattle.showing.specs.Shown.{header, line, lines, text}
use Rattle.showing.specs.Answers.{text_into, all_bytes, counted}
use Rattle.showing.specs.theory.Widths.{line_length_lem, lines_length, text_length}

module _ (months : List ℤ) (out : List ℕ) where
  pub no_lines : out ≡ placed 44 (lines months 0) out
  unfolding lines
  no_lines = placed_none out 44

  pub lines_turn : (i : ℕ) {now last : List ℕ} (part : List ℕ) → 44 + 44 * (i + 1) ≤ length out → now ≡ placed 44 (lines months i) out → last ≡ placed (44 + 44 * i) part now → part ≡ line (month_at months i) → last ≡ placed 44 (lines months (i + 1)) out
  lines_turn i part room e put is =
      put
      ∙ ap (placed (44 + 44 * i) part) e
      ∙ ap (λ (k : ℕ). placed (44 + k) part (placed 44 (lines months i) out)) (sym (lines_length months i))
      ∙ placed_both out (lines months i) 44 part (omega (arith, lines_length months i, wide))
      ∙ ap (λ (b : List ℕ). placed 44 b out) (ap (λ (b : List ℕ). lines months i ++ b) is ∙ sym more)
    where
      wide : length part ≡ 44
      wide = ap length is ∙ line_length_lem (month_at months i)

      more : lines months (i + 1) ≡ lines months i ++ line (month_at months i)
      more = ap (lines months) (add-one i) ∙ (unfold lines in refl)

  -- the lines go behind the header
  pub text_put : (n : ℕ) {now last : List ℕ} (part : List ℕ) → 44 + 44 * n ≤ length out → now ≡ placed 0 part out → part ≡ header → last ≡ placed 44 (lines months n) now → last ≡ placed 0 (text months n) out
  text_put n part room e is put = put ∙ ap (placed 44 (lines months n)) (e ∙ ap (λ (b : List ℕ). placed 0 b out) is) ∙ placed_both out header 0 (lines months n) (omega (arith, lines_length months n))

  -- ---- by the whole text, or why it is not put
  abbrev pub Promises : Verdict (List ℕ) → Verdict ℕ → List ℕ → Type 0
  Promises bytes v last = (v ≡ counted bytes) × (last ≡ written_into bytes all_bytes out)

  promises : (n : ℕ) (v : Verdict (List ℕ)) → text_into (text months n) (length out) ≡ v → Promises (text_into (text months n) (length out)) (counted v) (written_into v all_bytes out)
  promises n v e = rw e (refl, refl)

  pub no_room : (n : ℕ) → length out < 44 + 44 * n → Promises (text_into (text months n) (length out)) (refused 12 0) out
  no_room n h = promises n (refused 12 0) (rw (text_length months n, lt-ltb (length out) (44 + 44 * n) h))

  pub all_put : (n : ℕ) {last : List ℕ} → 44 + 44 * n ≤ length out → last ≡ placed 0 (text months n) out → Promises (text_into (text months n) (length out)) (answered (44 + 44 * n)) last
  all_put n h e =
      let p = promises n (answered (text months n)) (rw (text_length months n, le-ltb (length out) (44 + 44 * n) h)) in
      (ap answered (sym (text_length months n)) ∙ p.0, e ∙ ap (λ (k : ℕ). text months n ++ drop k out) (zero-add (length (text months n))) ∙ p.1)
