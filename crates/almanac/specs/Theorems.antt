-- File writing and file reading undo each other: what a lawful content is written as is read as that content (`written_is_read`), and what was read from a file is
-- written as that file (`read_is_written`). What is read is lawful (`read_is_lawful`). Assumes nothing.
use Rattle.std.specs.Prelude.{◌≡◌, true, not, List, ℕ}
use Rattle.std.proofs.Common.{sym, ap, ◌∙◌}
use Rattle.std.proofs.lemmas.Bool.{not-false}
use Rattle.refusals.specs.Verdict.{answered, then_answered, test_answered, answers_apart}
use Rattle.words.specs.Theorems.{Bytes}
use Rattle.almanac.specs.declared.Counts.{Counts}
use Rattle.content.specs.Content.{Content, lawful}
use Rattle.almanac.specs.Layout.{bytes_of, counts_of, content_at, content_of, file_of}
use Rattle.almanac.specs.theory.Whole.{found, content_has_bytes, bytes_have_content}
use Rattle.almanac.specs.theory.Rules.{lawful_fits}

pub written_is_read : (c : Content) → lawful c ≡ true → file_of (bytes_of c) ≡ answered c
unfolding file_of
written_is_read c l = rw (bytes_have_content c (lawful_fits c l), l)

-- what a file that is read tells: its counts, and that its content is lawful
pub record Read (file : List ℕ) (c : Content) : Type 0 where
  pub counts : Counts
  pub counted : counts_of file ≡ answered counts
  pub is : content_at file counts ≡ c
  pub keeps_rules : lawful c ≡ true

pub read : (file : List ℕ) (c : Content) → file_of file ≡ answered c → Read file c
unfolding file_of content_of
read file c e =
    let a = then_answered (content_of file) _ c e in
    let b = test_answered (not (lawful a.0)) 13 (answered a.0) c a.2 in
    let same : a.0 ≡ c = answers_apart b.1 in
    let n = then_answered (counts_of file) _ a.0 a.1 in
    record { counts = n.0; counted = n.1; is = answers_apart n.2 ∙ same; keeps_rules = ap lawful (sym same) ∙ not-false (lawful a.0) b.0 }

pub read_is_lawful : (file : List ℕ) (c : Content) → file_of file ≡ answered c → lawful c ≡ true
read_is_lawful file c e = (read file c e).keeps_rules

pub read_is_written : (file : List ℕ) → Bytes file → (c : Content) → file_of file ≡ answered c → bytes_of c ≡ file
read_is_written file bytes c e = let r = read file c e in ap bytes_of (sym r.is) ∙ content_has_bytes file bytes r.counts (found file r.counts r.counted)
