-- Writing a content into a lent file: what it holds afterwards. Assumes nothing.
use Rattle.std.specs.Prelude.{◌≡◌, refl, true, false, pos, length}
use Rattle.std.proofs.Common.{sym, ◌∙◌, arith, zero-add, lt-ltb, le-ltb}
use Rattle.std.proofs.Math.Path.{ap}
use mathlib.Core.List.{List, ◌++◌}
use Prim.Native.Nat.{ℕ, ◌+◌, ◌≤◌, ◌<◌}
use Rattle.std.proofs.Math.ListN.{drop, length-append}
use Rattle.whole.specs.Lists.{placed, placed_both}
use Rattle.refusals.specs.Verdict.{Verdict, answered, refused}
use Rattle.refusals.specs.Lent.{written_into}
use Rattle.words.specs.Words.{bytes4}
use Rattle.content.specs.Content.{Content, entry_count, sui_count, month_count, lawful}
use Rattle.almanac.specs.Fields.{times, bytes_for}
use Rattle.almanac.specs.Layout.{entry_fields, sui_fields, month_fields, suis_at, months_at, end_at, bytes_of}
use Rattle.almanac.specs.Answers.{bytes_into, bytes_to_write, all_bytes, bytes_counted, written_file}
use Rattle.almanac.specs.theory.Whole.{FitsLayout, suis_stand, months_stand, file_ends}
use Rattle.almanac.specs.theory.Rules.{lawful_fits}

-- a count, then the records that it counts
pub section_placed : (l : List ℕ) (at n : ℕ) (body : List ℕ) {now last : List ℕ} → at + (4 + length body) ≤ length l → now ≡ placed at (bytes4 (pos n)) l → last ≡ placed (at + 4) body now → last ≡ placed at (bytes4 (pos n) ++ body) l
section_placed l at n body h e₁ e₂ = e₂ ∙ ap (placed (at + 4) body) e₁ ∙ placed_both l (bytes4 (pos n)) at body h

-- ---- the three sections, one behind the other
module _ (c : Content) (f : FitsLayout c) where
  pub bytes_end : length (bytes_of c) ≡ end_at (entry_count c) (sui_count c) (month_count c)
  unfolding bytes_of
  bytes_end = file_ends c f

  pub content_placed : (l : List ℕ) {one two three : List ℕ} → end_at (entry_count c) (sui_count c) (month_count c) ≤ length l → one ≡ placed 0 (bytes4 (pos (entry_count c)) ++ bytes_for (times (entry_count c) entry_fields) c.leap) l → two ≡ placed (suis_at (entry_count c)) (bytes4 (pos (sui_count c)) ++ bytes_for (times (sui_count c) sui_fields) c.suis) one → three ≡ placed (months_at (entry_count c) (sui_count c)) (bytes4 (pos (month_count c)) ++ bytes_for (times (month_count c) month_fields) c.months) two → three ≡ bytes_of c ++ drop (length (bytes_of c)) l
  unfolding bytes_of
  content_placed l h e₁ e₂ e₃ =
      e₃
      ∙ ap (placed (months_at (entry_count c) (sui_count c)) months) (e₂ ∙ ap (placed (suis_at (entry_count c)) suis) e₁ ∙ behind leap suis (suis_stand c f) (omega (arith, h, file_ends c f, length-append leap suis, length-append (leap ++ suis) months)))
      ∙ behind (leap ++ suis) months (months_stand c f) (omega (arith, h, file_ends c f, length-append (leap ++ suis) months))
      ∙ ap (λ (n : ℕ). leap ++ suis ++ months ++ drop n l) (zero-add (length (leap ++ suis ++ months)))
    where
      leap : List ℕ
      leap = bytes4 (pos (entry_count c)) ++ bytes_for (times (entry_count c) entry_fields) c.leap

      suis : List ℕ
      suis = bytes4 (pos (sui_count c)) ++ bytes_for (times (sui_count c) sui_fields) c.suis

      months : List ℕ
      months = bytes4 (pos (month_count c)) ++ bytes_for (times (month_count c) month_fields) c.months

      behind : (front part : List ℕ) {m : ℕ} → length front ≡ m → length front + length part ≤ length l → placed m part (placed 0 front l) ≡ placed 0 (front ++ part) l
      behind front part e room = ap (λ (n : ℕ). placed n part (placed 0 front l)) (sym e ∙ sym (zero-add (length front))) ∙ placed_both l front 0 part (omega arith)

-- ---- the two promises of the writer
module _ (c : Content) (file : List ℕ) where
  -- by what is to be written, or why it is not
  abbrev pub Promises : Verdict (List ℕ) → Verdict ℕ → List ℕ → Type 0
  Promises bytes v last = (v ≡ bytes_counted bytes) × (last ≡ written_into bytes all_bytes file)

  abbrev pub FilePromises : Verdict ℕ → List ℕ → Type 0
  FilePromises v last = (v ≡ written_file c (length file)) × (last ≡ written_into (bytes_to_write c (length file)) all_bytes file)

  pub not_lawful : lawful c ≡ false → FilePromises (refused 13 0) file
  unfolding bytes_to_write written_file
  not_lawful e = rw e (refl, refl)

  -- a lawful content is written as it stands
  pub is_lawful : lawful c ≡ true → {v : Verdict ℕ} {last : List ℕ} → Promises (bytes_into c (length file)) v last → FilePromises v last
  unfolding bytes_to_write written_file
  is_lawful l p = rw l p

  promises : (v : Verdict (List ℕ)) → bytes_into c (length file) ≡ v → Promises (bytes_into c (length file)) (bytes_counted v) (written_into v all_bytes file)
  promises v e = rw e (refl, refl)

  module _ (l : lawful c ≡ true) where
    pub ends : length (bytes_of c) ≡ end_at (entry_count c) (sui_count c) (month_count c)
    ends = bytes_end c (lawful_fits c l)

    pub no_room : length file < end_at (entry_count c) (sui_count c) (month_count c) → Promises (bytes_into c (length file)) (refused 12 0) file
    no_room h = promises (refused 12 0) (rw (ends, lt-ltb (length file) (end_at (entry_count c) (sui_count c) (month_count c)) h))

    pub all_written : end_at (entry_count c) (sui_count c) (month_count c) ≤ length file → Promises (bytes_into c (length file)) (answered (end_at (entry_count c) (sui_count c) (month_count c))) (bytes_of c ++ drop (length (bytes_of c)) file)
    all_written h =
        let p = promises (answered (bytes_of c)) (rw (ends, le-ltb (length file) (end_at (entry_count c) (sui_count c) (month_count c)) h)) in
        (ap answered (sym ends) ∙ p.0, p.1)
