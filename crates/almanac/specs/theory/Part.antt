-- The months of a part of a file: words that stand among all its months' words are the numbers at their own place in its bytes. Assumes nothing.
use Rattle.std.specs.Prelude.{◌≡◌, List, ◌++◌, ℕ, zero, suc, ◌+◌, ◌-◌, ◌*◌, ◌≤◌, ℤ, length, take, drop}
use Rattle.std.proofs.Common.{sym, ap, ◌∙◌, append_assoc, arith, zero-add, length-append, take_at, drop_at}
use Rattle.refusals.specs.Verdict.{answered}
use Rattle.content.specs.Content.{Content, entry_count, sui_count}
use Rattle.almanac.specs.Fields.{Field, times, widths, numbers_in}
use Rattle.almanac.specs.Layout.{month_fields, months_at, content_at, file_of}
use Rattle.almanac.specs.Theorems.{read}
use Rattle.almanac.specs.theory.FieldLaws.{numbers_append, widths_times}
use Rattle.almanac.specs.theory.Whole.{found}
use Rattle.almanac.specs.theory.Checked.{section_words, entry_count_lem, sui_count_lem}

-- ---- records behind records
times_both : (m n : ℕ) (fields : List Field) → times (m + n) fields ≡ times m fields ++ times n fields
unfolding times
times_both zero n fields = ap (λ (k : ℕ). times k fields) (zero-add n)
times_both (suc m) n fields = let e : suc m + n ≡ suc (m + n) = omega arith in rw e (ap (λ (t : List Field). fields ++ t) (times_both m n fields) ∙ sym (append_assoc fields (times m fields) (times n fields)))

numbers_both : (m n : ℕ) (fields : List Field) (file : List ℕ) (at : ℕ) → numbers_in (times (m + n) fields) file at ≡ numbers_in (times m fields) file at ++ numbers_in (times n fields) file (at + widths fields * m)
numbers_both m n fields file at =
    ap (λ (fs : List Field). numbers_in fs file at) (times_both m n fields)
    ∙ numbers_append (times m fields) (times n fields) file at
    ∙ ap (λ (k : ℕ). numbers_in (times m fields) file at ++ numbers_in (times n fields) file (at + k)) (widths_times m fields)

-- ---- k months behind m others
months_part : (file : List ℕ) (at total : ℕ) (a b rest : List ℤ) (m k : ℕ) → numbers_in (times total month_fields) file at ≡ a ++ (b ++ rest) → length a ≡ 3 * m → length b ≡ 3 * k → (numbers_in (times k month_fields) file (at + 9 * m) ≡ b) × (m + k ≤ total)
unfolding widths
months_part file at total a b rest m k e la lb =
    let words : 3 * total ≡ length a + (length b + length rest) = sym (section_words total month_fields file at) ∙ ap length e ∙ length-append a (b ++ rest) ∙ ap (λ (n : ℕ). length a + n) (length-append b rest) in
    let j = total - (m + k) in
    let cut : total ≡ m + (k + j) = omega (arith, words) in
    let front = numbers_in (times m month_fields) file at in
    let here = numbers_in (times k month_fields) file (at + 9 * m) in
    let behind = numbers_in (times j month_fields) file (at + 9 * m + 9 * k) in
    let whole : numbers_in (times total month_fields) file at ≡ front ++ (here ++ behind) =
    ap (λ (n : ℕ). numbers_in (times n month_fields) file at) cut
    ∙ numbers_both m (k + j) month_fields file at
    ∙ ap (λ (l : List ℤ). front ++ l) (numbers_both k j month_fields file (at + 9 * m)) in
    let from-here : here ++ behind ≡ b ++ rest =
    sym (drop_at front (here ++ behind) (3 * m) (section_words m month_fields file at))
    ∙ ap (drop (3 * m)) (sym whole ∙ e)
    ∙ drop_at a (b ++ rest) (3 * m) la in (
      sym (take_at here behind (3 * k) (section_words k month_fields file (at + 9 * m))) ∙ ap (take (3 * k)) from-here ∙ take_at b rest (3 * k) lb,
      omega (arith, words),
    )

-- ---- the same in a lawful file: the numbers at their place, and that the file holds them
pub months_in_file : (file : List ℕ) (c : Content) → file_of file ≡ answered c → (a b rest : List ℤ) → c.months ≡ a ++ (b ++ rest) → (m k : ℕ) → length a ≡ 3 * m → length b ≡ 3 * k → (numbers_in (times k month_fields) file (months_at (entry_count c) (sui_count c) + 4 + 9 * m) ≡ b) × (months_at (entry_count c) (sui_count c) + 4 + 9 * m + 9 * k ≤ length file)
unfolding content_at
months_in_file file c e a b rest cut m k la lb =
    let r = read file c e in
    let n = r.counts in
    let entries : entry_count c ≡ n.entries = ap entry_count (sym r.is) ∙ entry_count_lem file n in
    let suis : sui_count c ≡ n.suis = ap sui_count (sym r.is) ∙ sui_count_lem file n in
    let months : (content_at file n).months ≡ a ++ (b ++ rest) = ap (λ (d : Content). d.months) r.is ∙ cut in
    let part = months_part file (months_at n.entries n.suis + 4) n.months a b rest m k months la lb in
    rw (entries, suis) (part.0, omega (arith, part.1, (found file n r.counted).ends))
