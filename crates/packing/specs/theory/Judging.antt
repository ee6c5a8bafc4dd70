-- The first pass: one turn of its loop, and how far its counts have come. Assumes nothing.
use Rattle.std.specs.Prelude.{◌≡◌, refl, Bool, List, [], eqb, length, drop, get_or, Result, Ok, Err}
use Rattle.std.proofs.Common.{sym, ◌∙◌, add-one, drop-cons}
use Rattle.std.proofs.Math.Path.{ap}
use Rattle.std.proofs.Math.Bool.{true, false, cond}
use Prim.Native.Nat.{ℕ, suc, ◌+◌, ◌≤◌, ◌<◌}
use native.Mathlib.Omega.{arith}
use Rattle.std.proofs.Math.Seq.{drop-length}
use Rattle.whole.specs.Booleans.{not_both}
use Rattle.packing.specs.declared.BadWord.{BadWord}
use Rattle.packing.specs.declared.reading.State.{State}
use Rattle.packing.specs.declared.reading.Ended.{Ended}
use Rattle.packing.specs.declared.reading.Ended.TheVariants.{Nothing, Word, Bad}
use Rattle.packing.specs.declared.reading.At.TheVariants.{Between}
use Rattle.packing.specs.Reading.{at_next, began_at, step, end_of, ended_by}
use Rattle.packing.specs.Packing.{Scanned, numbers, bad, joined, scan, start}
use Rattle.packing.specs.Passes.{judged, is_bad, ended_words}

-- ---- what a state says of the bytes from i on
module _ (text : List ℕ) (s : State) where
  pub scan_next : (i : ℕ) → i < length text → scan s (drop i text) ≡ joined (ended_by s.at (get_or text i 0)) s (scan (step s (get_or text i 0)) (drop (i + 1) text))
  scan_next i h = ap (scan s) (drop-cons text i 0 h) ∙ (unfold scan in ap (λ (k : ℕ). joined (ended_by s.at (get_or text i 0)) s (scan (step s (get_or text i 0)) (drop k text))) (sym (add-one i)))

  pub scan_end : (i : ℕ) → i ≡ length text → scan s (drop i text) ≡ joined (end_of s.at) s (numbers [])
  scan_end i e = ap (scan s) (ap (λ (k : ℕ). drop k text) e ∙ drop-length text) ∙ (unfold scan in refl)

-- ---- a word more, or the first that is none
module _ (s : State) (rest : Scanned) (n : ℕ) where
  word_counted : (e : Ended) → is_bad e ≡ false → judged n (joined e s rest) ≡ judged (n + ended_words e) rest
  word_counted Nothing h = let none : n ≡ n + 0 = omega arith in ap (λ (k : ℕ). judged k rest) none
  word_counted (Word z) h = go rest
    where
      go : (r : Scanned) → judged n (joined (Word z) s r) ≡ judged (n + 1) r
      go (numbers zs) = let more : n + suc (length zs) ≡ n + 1 + length zs = omega arith in ap Ok more
      go (bad line word) = refl
  word_counted Bad h = not_both refl h

  pub count_turn : {whole : Scanned} {e f : Ended} {all : Result ℕ BadWord} (m : ℕ) → whole ≡ joined f s rest → judged n whole ≡ all → e ≡ f → is_bad e ≡ false → m ≡ ended_words e → judged (n + m) rest ≡ all
  count_turn {whole} {e} m w h is good more = ap (λ (k : ℕ). judged (n + k) rest) more ∙ sym (word_counted e good) ∙ ap (λ (x : Ended). judged n (joined x s rest)) is ∙ ap (judged n) (sym w) ∙ h

  bad_found : (e : Ended) → is_bad e ≡ true → judged n (joined e s rest) ≡ Err (record { line = s.line; word = s.word })
  bad_found Nothing h = not_both h refl
  bad_found (Word z) h = not_both h refl
  bad_found Bad h = refl

  pub bad_turn : {whole : Scanned} {e f : Ended} {all : Result ℕ BadWord} → whole ≡ joined f s rest → judged n whole ≡ all → e ≡ f → is_bad e ≡ true → Err (record { line = s.line; word = s.word }) ≡ all
  bad_turn {whole} {e} w h is worse = sym (bad_found e worse) ∙ ap (λ (x : Ended). judged n (joined x s rest)) is ∙ ap (judged n) (sym w) ∙ h

-- ---- a byte is at most one line more and one word more
module _ (s : State) (byte : ℕ) where
  pub line_next : (step s byte).line ≤ s.line + 1
  unfolding step
  line_next = go (eqb byte 10)
    where
      go : (b : Bool) → ◌≤◌ (cond {A = State} b (record { line = s.line + 1; word = 0; at = Between }) (record { line = s.line; word = s.word + cond (began_at s.at byte) 1 0; at = at_next s.at byte })).line (s.line + 1)
      go true = omega arith
      go false = omega arith

  pub word_next : (step s byte).word ≤ s.word + 1
  unfolding step
  word_next = go (eqb byte 10) (began_at s.at byte)
    where
      go : (b w : Bool) → ◌≤◌ (cond {A = State} b (record { line = s.line + 1; word = 0; at = Between }) (record { line = s.line; word = s.word + cond w 1 0; at = at_next s.at byte })).word (s.word + 1)
      go true w = omega arith
      go false true = omega arith
      go false false = omega arith

-- ---- how far the reader has come
pub record Read (text : List ℕ) (s : State) (i : ℕ) : Type 0 where
  pub inside : i ≤ length text
  pub lines : s.line ≤ i + 1
  pub begun : s.word ≤ i

pub read_none : (text : List ℕ) {s : State} → s ≡ start → Read text s 0
read_none text e = rw e (record { inside = omega arith; lines = omega arith; begun = omega arith })

pub read_next : (text : List ℕ) (s : State) (i byte : ℕ) {next : State} → i < length text → Read text s i → next ≡ step s byte → Read text next (i + 1)
read_next text s i byte h r e = rw e (record { inside = omega arith; lines = omega (arith, r.lines, line_next s byte); begun = omega (arith, r.begun, word_next s byte) })
