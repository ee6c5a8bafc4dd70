-- The new file and the listed years, case by case: both are written where both have room, else nothing. Assumes nothing.
use Rattle.std.proofs.Math.Path.{◌≡◌}
use Rattle.std.specs.Prelude.{refl, Bool, true, false, List, ◌++◌, ℕ, ◌≤◌, ◌<◌, ltb, ℤ, drop}
use Rattle.std.proofs.Common.{sym, ap, ◌∙◌}
use borrow.Author.Tests.{lt-ltb, le-ltb}
use Rattle.std.proofs.Math.ListN.{length}
use Rattle.refusals.specs.Verdict.{Verdict, answered, refused, refuse_when, answers_apart, answer_or_refusal, ◌before◌}
use Rattle.refusals.specs.Lent.{written_into}
use Rattle.content.specs.Content.{Content}
use Rattle.almanac.specs.Layout.{bytes_of}
use Rattle.almanac.specs.Answers.{bytes_into, bytes_counted}
use Rattle.rebuilt.specs.declared.Rebuilt.{Rebuilt}
use Rattle.rebuilt.specs.Rebuild.{NewFile, new_file_by, counted, new_bytes, kept_years}

-- room for the bytes is all that a lawful content can lack
pub bytes_or_12 : (c : Content) (room : ℕ) {number segment : ℕ} → bytes_into c room ≡ refused number segment → ◌≡◌ {A = Verdict (List ℕ)} (refused number segment) (refused 12 0)
bytes_or_12 c room e = go (ltb room (length (bytes_of c))) e
  where
    go : (b : Bool) {number segment : ℕ} → (refuse_when b 12 before answered (bytes_of c)) ≡ refused number segment → ◌≡◌ {A = Verdict (List ℕ)} (refused number segment) (refused 12 0)
    go true e = sym e
    go false e = answer_or_refusal e

-- ---- what the writer says of the bytes
pub counted_refused : (w : Verdict (List ℕ)) {number segment : ℕ} → refused number segment ≡ bytes_counted w → w ≡ refused number segment
counted_refused (answered bytes) e = answer_or_refusal (sym e)
counted_refused (refused number segment) e = cc

pub counted_answered : (w : Verdict (List ℕ)) {count : ℕ} → answered count ≡ bytes_counted w → (bytes : List ℕ) × ((w ≡ answered bytes) × (length bytes ≡ count))
counted_answered (answered bytes) e = (bytes, (refl, sym (answers_apart e)))
counted_answered (refused number segment) e = answer_or_refusal e

-- ---- the three promises
module _ (w : Verdict (List ℕ)) (listed : List ℤ) (file : List ℕ) (years : List ℤ) where
  abbrev pub whole : Verdict NewFile
  whole = new_file_by w listed (length years)

  abbrev pub Promises : Verdict Rebuilt → List ℕ → List ℤ → Type 0
  Promises result file' years' = (result ≡ counted whole) × ((file' ≡ written_into whole new_bytes file) × (years' ≡ written_into whole kept_years years))

  pub not_built : {number segment : ℕ} → w ≡ refused number segment → {file' : List ℕ} {years' : List ℤ} → file' ≡ file → years' ≡ years → Promises (refused number segment) file' years'
  unfolding new_file_by
  not_built e f y = rw e (refl, (f, y))

  pub few_places : length years < length listed → {bytes : List ℕ} → w ≡ answered bytes → Promises (refused 12 0) file years
  unfolding new_file_by
  few_places h e = rw (e, lt-ltb (length years) (length listed) h) (refl, (refl, refl))

  pub all_written : length listed ≤ length years → {bytes : List ℕ} → w ≡ answered bytes → {file' : List ℕ} {years' : List ℤ} {b k : ℕ} → length bytes ≡ b → length listed ≡ k → file' ≡ bytes ++ drop (length bytes) file → years' ≡ listed ++ drop (length listed) years → Promises (answered (record { bytes = b; years = k })) file' years'
  unfolding new_file_by
  all_written h {bytes} e {file'} {years'} {b} {k} p q f y = rw (e, le-ltb (length years) (length listed) h) (ap answered (sym both), (f, y))
    where
      both : ◌≡◌ {A = Rebuilt} (record { bytes = length bytes; years = length listed }) (record { bytes = b; years = k })
      both = λ t. record { bytes = p t; years = q t }

-- too few places for the years: 12, and where the bytes have no room either it is 12 too
pub no_places : (c : Content) (listed : List ℤ) (file : List ℕ) (years : List ℤ) → length years < length listed → Promises (bytes_into c (length file)) listed file years (refused 12 0) file years
no_places c listed file years h = go (bytes_into c (length file)) refl
  where
    go : (w : Verdict (List ℕ)) → bytes_into c (length file) ≡ w → Promises (bytes_into c (length file)) listed file years (refused 12 0) file years
    go (answered bytes) q = few_places (bytes_into c (length file)) listed file years h q
    go (refused number segment) q = not_built (bytes_into c (length file)) listed file years (q ∙ bytes_or_12 c (length file) q) refl refl

-- what is promised of a file and years is promised of the same ones under other names
pub same_promises : {w v : Verdict (List ℕ)} {listed years-listed : List ℤ} → w ≡ v → listed ≡ years-listed → (file : List ℕ) (years : List ℤ) {result : Verdict Rebuilt} {file' : List ℕ} {years' : List ℤ} → Promises v years-listed file years result file' years' → Promises w listed file years result file' years'
same_promises p q file years promised = rw (p, q) promised
