-- The two laws of the layout, before anything is judged: the content of a content's bytes, and the bytes of the content that bytes have. Assumes nothing.
use Rattle.std.specs.Prelude.{◌≡◌, not, ℕ, ◌+◌, ◌*◌, ◌/◌, ◌<◌, ◌≤◌, eqb, ltb, ℤ, pos, length, drop}
use Rattle.std.proofs.Math.Path.{refl, ap}
use Rattle.std.proofs.Common.{sym, ap₂, ◌∙◌, length-append, drop-drop, take_all}
use mathlib.Core.List.{List, [], ◌++◌, append_assoc, append-nil}
use native.Mathlib.Omega.{arith}
use Rattle.std.proofs.Math.Nat.{mul-div_cancel_left}
use borrow.Author.Tests.{le-ltb, eq-eqb, eqb-true, not-false}
use Rattle.std.proofs.Math.ListN.{take}
use Rattle.refusals.specs.Verdict.{answered, test_answered, answers_apart}
use Rattle.words.specs.Words.{pattern4, unsigned4, bytes4}
use Rattle.words.specs.Theorems.{Bytes, unsigned_written_back, unsigned_read_back}
use Rattle.almanac.specs.declared.Counts.{Counts}
use Rattle.content.specs.Content.{Content, entry_count, sui_count, month_count}
use Rattle.almanac.specs.Fields.{Field, times, widths, numbers_in, bytes_for}
use Rattle.almanac.specs.Answers.{counts_in}
use Rattle.almanac.specs.Layout.{entry_fields, sui_fields, month_fields, bytes_of, suis_at, months_at, end_at, counts_of, content_at, content_of}
use Rattle.almanac.specs.theory.FieldLaws.{Fit, bytes_written_back, numbers_read_back, numbers_length, bytes_length, fit_length, widths_times, length_times, take_more}

-- ---- what counts that were found say
pub record Found (file : List ℕ) (n : Counts) : Type 0 where
  pub entries_is : pattern4 file 0 ≡ n.entries
  pub suis_is : pattern4 file (suis_at n.entries) ≡ n.suis
  pub months_is : pattern4 file (months_at n.entries n.suis) ≡ n.months
  pub ends : length file ≡ end_at n.entries n.suis n.months

pub found : (file : List ℕ) (n : Counts) → counts_of file ≡ answered n → Found file n
unfolding counts_of
found file n e =
    let a = test_answered (ltb (length file) 4) 13 _ n e in
    let b = test_answered (ltb (length file) (suis_at entries + 4)) 13 _ n a.1 in
    let c = test_answered (ltb (length file) (months_at entries suis + 4)) 13 _ n b.1 in
    let d = test_answered (not (eqb (length file) (end_at entries suis months))) 13 _ n c.1 in
    let is : counts ≡ n = answers_apart d.1 in
    let e₁ : entries ≡ n.entries = ap (λ (m : Counts). m.entries) is in
    let e₂ : suis ≡ n.suis = ap (λ (m : Counts). m.suis) is in
    let e₃ : months ≡ n.months = ap (λ (m : Counts). m.months) is in
    record {
      entries_is = e₁;
      suis_is = ap (λ (m : ℕ). pattern4 file (suis_at m)) (sym e₁) ∙ e₂;
      months_is = ap₂ (λ (m k : ℕ). pattern4 file (months_at m k)) (sym e₁) (sym e₂) ∙ e₃;
      ends = eqb-true _ _ (not-false _ d.0) ∙ ends_same entries suis months n.entries n.suis n.months e₁ e₂ e₃;
    }
  where
    entries : ℕ
    entries = pattern4 file 0

    suis : ℕ
    suis = pattern4 file (suis_at entries)

    months : ℕ
    months = pattern4 file (months_at entries suis)

    counts : Counts
    counts = record { entries = entries; suis = suis; months = months }

    ends_same : (a b c x y z : ℕ) → a ≡ x → b ≡ y → c ≡ z → end_at a b c ≡ end_at x y z
    ends_same a b c x y z p q r = rw (p, q, r)

-- ---- the bytes of the content that bytes have are those bytes
module _ (file : List ℕ) (bytes : Bytes file) (n : Counts) (f : Found file n) where
  abbrev c : Content
  c = content_at file n

  section : (m at : ℕ) (fields : List Field) → at + widths fields * m ≤ length file → bytes_for (times m fields) (numbers_in (times m fields) file at) ≡ take (widths fields * m) (drop at file)
  section m at fields h = bytes_written_back (times m fields) file bytes at (rw (widths_times m fields) h) ∙ ap (λ (k : ℕ). take k (drop at file)) (widths_times m fields)

  -- a count and the section behind it
  counted : (m at : ℕ) (fields : List Field) → pattern4 file at ≡ m → at + 4 + widths fields * m ≤ length file → bytes4 (pos m) ++ bytes_for (times m fields) (numbers_in (times m fields) file (at + 4)) ≡ take (4 + widths fields * m) (drop at file)
  counted m at fields e h =
      ap₂ (λ (x y : List ℕ). x ++ y) (ap (λ (k : ℕ). bytes4 (pos k)) (sym e) ∙ unsigned_written_back file bytes at (omega arith)) (section m (at + 4) fields h)
      ∙ ap (λ (t : List ℕ). take 4 (drop at file) ++ take (widths fields * m) t) (sym (drop-drop 4 at file))
      ∙ take_more 4 (widths fields * m) (drop at file)

  count_back : (m k : ℕ) → 0 < k → k * m / k ≡ m
  count_back m k h = mul-div_cancel_left m h

  entries_back : entry_count c ≡ n.entries
  unfolding content_at
  entries_back = rw (numbers_length (times n.entries entry_fields) file 4, length_times n.entries entry_fields) (count_back n.entries 2 (omega arith))

  suis_back : sui_count c ≡ n.suis
  unfolding content_at
  suis_back = rw (numbers_length (times n.suis sui_fields) file (suis_at n.entries + 4), length_times n.suis sui_fields) (count_back n.suis 2 (omega arith))

  months_back : month_count c ≡ n.months
  unfolding content_at
  months_back = rw (numbers_length (times n.months month_fields) file (months_at n.entries n.suis + 4), length_times n.months month_fields) (count_back n.months 3 (omega arith))

  pub content_has_bytes : bytes_of c ≡ file
  unfolding bytes_of content_at widths
  content_has_bytes =
      let e = n.entries in
      let s = n.suis in
      let m = n.months in
      let ends = f.ends in
      let x₁ = counted e 0 entry_fields f.entries_is (omega arith) in
      let x₂ = counted s (suis_at e) sui_fields f.suis_is (omega arith) in
      let x₃ = counted m (months_at e s) month_fields f.months_is (omega arith) in
      rw (entries_back, suis_back, months_back)
      (ap₂ (λ (a b : List ℕ). a ++ b) (ap₂ (λ (a b : List ℕ). a ++ b) x₁ x₂ ∙ take_more (4 + 8 * e) (4 + 5 * s) file) (x₃ ∙ ap (λ (k : ℕ). take (4 + 9 * m) (drop k file)) (at_months e s))
      ∙ take_more (4 + 8 * e + (4 + 5 * s)) (4 + 9 * m) file
      ∙ all (4 + 8 * e + (4 + 5 * s) + (4 + 9 * m)) file (omega arith))
    where
      at_months : (e s : ℕ) → months_at e s ≡ 4 + 8 * e + (4 + 5 * s)
      at_months e s = omega arith

      all : (k : ℕ) (l : List ℕ) → k ≡ length l → take k l ≡ l
      all k l h = take_all k l (omega arith)

-- ---- the content of a content's bytes is that content, where its numbers fit their fields
pub record FitsLayout (c : Content) : Type 0 where
  pub entries_fit : Fit (times (entry_count c) entry_fields) c.leap
  pub suis_fit : Fit (times (sui_count c) sui_fields) c.suis
  pub months_fit : Fit (times (month_count c) month_fields) c.months
  pub few_entries : entry_count c < 4294967296
  pub few_suis : sui_count c < 4294967296
  pub few_months : month_count c < 4294967296

pos_same : {m n : ℕ} → pos m ≡ pos n → m ≡ n
pos_same e = cc

pub section_length : (m : ℕ) (fields : List Field) (numbers : List ℤ) → Fit (times m fields) numbers → length (bytes_for (times m fields) numbers) ≡ widths fields * m
section_length m fields numbers h = bytes_length (times m fields) numbers (fit_length (times m fields) numbers h) ∙ widths_times m fields

module _ (c : Content) (f : FitsLayout c) where
  abbrev a : List ℕ
  a = bytes4 (pos (entry_count c))

  abbrev A : List ℕ
  A = bytes_for (times (entry_count c) entry_fields) c.leap

  abbrev b : List ℕ
  b = bytes4 (pos (sui_count c))

  abbrev B : List ℕ
  B = bytes_for (times (sui_count c) sui_fields) c.suis

  abbrev d : List ℕ
  d = bytes4 (pos (month_count c))

  abbrev D : List ℕ
  D = bytes_for (times (month_count c) month_fields) c.months

  abbrev file : List ℕ
  file = a ++ A ++ (b ++ B) ++ (d ++ D)

  A_length : length A ≡ 8 * entry_count c
  unfolding widths
  A_length = section_length (entry_count c) entry_fields c.leap f.entries_fit

  B_length : length B ≡ 5 * sui_count c
  unfolding widths
  B_length = section_length (sui_count c) sui_fields c.suis f.suis_fit

  D_length : length D ≡ 9 * month_count c
  unfolding widths
  D_length = section_length (month_count c) month_fields c.months f.months_fit

  -- where each part stands
  pub suis_stand : length (a ++ A) ≡ suis_at (entry_count c)
  suis_stand = length-append a A ∙ omega (arith, A_length)

  pub months_stand : length (a ++ A ++ (b ++ B)) ≡ months_at (entry_count c) (sui_count c)
  months_stand = length-append (a ++ A) (b ++ B) ∙ omega (arith, suis_stand, length-append b B, B_length)

  pub file_ends : length file ≡ end_at (entry_count c) (sui_count c) (month_count c)
  file_ends = length-append (a ++ A ++ (b ++ B)) (d ++ D) ∙ omega (arith, months_stand, length-append d D, D_length)

  -- the counts
  entries_read : pattern4 file 0 ≡ entry_count c
  entries_read =
      let cut : file ≡ [] ++ a ++ (A ++ (b ++ B) ++ (d ++ D)) = regroup a A (b ++ B) (d ++ D) in
      pos_same (ap (λ (l : List ℕ). unsigned4 l 0) cut ∙ unsigned_read_back [] (A ++ (b ++ B) ++ (d ++ D)) (entry_count c) f.few_entries)
    where
      regroup : (p q r s : List ℕ) → p ++ q ++ r ++ s ≡ [] ++ p ++ (q ++ r ++ s)
      regroup p q r s = simp append_assoc refl

  suis_read : pattern4 file (suis_at (entry_count c)) ≡ sui_count c
  suis_read =
      let cut : file ≡ (a ++ A) ++ b ++ (B ++ (d ++ D)) = regroup (a ++ A) b B (d ++ D) in
      pos_same (ap₂ (λ (l : List ℕ) (n : ℕ). unsigned4 l n) cut (sym suis_stand) ∙ unsigned_read_back (a ++ A) (B ++ (d ++ D)) (sui_count c) f.few_suis)
    where
      regroup : (p q r s : List ℕ) → p ++ (q ++ r) ++ s ≡ p ++ q ++ (r ++ s)
      regroup p q r s = simp append_assoc refl

  months_read : pattern4 file (months_at (entry_count c) (sui_count c)) ≡ month_count c
  months_read =
      let cut : file ≡ (a ++ A ++ (b ++ B)) ++ d ++ D = sym (append_assoc (a ++ A ++ (b ++ B)) d D) in
      pos_same (ap₂ (λ (l : List ℕ) (n : ℕ). unsigned4 l n) cut (sym months_stand) ∙ unsigned_read_back (a ++ A ++ (b ++ B)) D (month_count c) f.few_months)

  pub counts_read : counts_of (bytes_of c) ≡ answered (counts_in c)
  unfolding counts_of bytes_of
  counts_read =
      rw (
        entries_read,
        suis_read,
        months_read,
        file_ends,
        le-ltb (end_at (entry_count c) (sui_count c) (month_count c)) 4 (omega arith),
        le-ltb (end_at (entry_count c) (sui_count c) (month_count c)) (suis_at (entry_count c) + 4) (omega arith),
        le-ltb (end_at (entry_count c) (sui_count c) (month_count c)) (months_at (entry_count c) (sui_count c) + 4) (omega arith),
        eq-eqb (end_at (entry_count c) (sui_count c) (month_count c)) (end_at (entry_count c) (sui_count c) (month_count c)) refl,
      )

  -- the sections
  entries_content : numbers_in (times (entry_count c) entry_fields) file 4 ≡ c.leap
  entries_content =
      ap (λ (l : List ℕ). numbers_in (times (entry_count c) entry_fields) l 4) (regroup a A (b ++ B) (d ++ D))
      ∙ numbers_read_back (times (entry_count c) entry_fields) c.leap f.entries_fit a ((b ++ B) ++ (d ++ D))
    where
      regroup : (p q r s : List ℕ) → p ++ q ++ r ++ s ≡ p ++ q ++ (r ++ s)
      regroup p q r s = simp append_assoc refl

  suis_content : numbers_in (times (sui_count c) sui_fields) file (suis_at (entry_count c) + 4) ≡ c.suis
  suis_content =
      ap₂ (λ (l : List ℕ) (n : ℕ). numbers_in (times (sui_count c) sui_fields) l n) (regroup (a ++ A) b B (d ++ D)) (sym (length-append (a ++ A) b ∙ ap (λ (n : ℕ). n + 4) suis_stand))
      ∙ numbers_read_back (times (sui_count c) sui_fields) c.suis f.suis_fit (a ++ A ++ b) (d ++ D)
    where
      regroup : (p q r s : List ℕ) → p ++ (q ++ r) ++ s ≡ p ++ q ++ r ++ s
      regroup p q r s = simp append_assoc refl

  months_content : numbers_in (times (month_count c) month_fields) file (months_at (entry_count c) (sui_count c) + 4) ≡ c.months
  months_content =
      ap₂ (λ (l : List ℕ) (n : ℕ). numbers_in (times (month_count c) month_fields) l n) (regroup (a ++ A ++ (b ++ B)) d D) (sym (length-append (a ++ A ++ (b ++ B)) d ∙ ap (λ (n : ℕ). n + 4) months_stand))
      ∙ numbers_read_back (times (month_count c) month_fields) c.months f.months_fit (a ++ A ++ (b ++ B) ++ d) []
    where
      regroup : (p q r : List ℕ) → p ++ (q ++ r) ≡ p ++ q ++ r ++ []
      regroup p q r = simp (append_assoc, append-nil) refl

  content_read_lem : content_at (bytes_of c) (counts_in c) ≡ c
  unfolding content_at bytes_of
  content_read_lem = λ t. record { leap = entries_content t; suis = suis_content t; months = months_content t }

  pub bytes_have_content : content_of (bytes_of c) ≡ answered c
  unfolding content_of
  bytes_have_content = rw counts_read (ap answered content_read_lem)
