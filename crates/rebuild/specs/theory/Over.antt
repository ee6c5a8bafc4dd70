-- The rebuild over the years of the old file, behind the judgement of the old inputs: 13 unless these give the old file, then the new inputs, each sui, and the
-- room. Assumes nothing.
use Rattle.std.specs.Prelude.{◌≡◌, refl, Bool, true, false, not, List, [], ◌∷◌, ℕ, ◌<◌, ℤ, pos, ◌+ℤ◌}
use Rattle.std.proofs.Common.{ap, ◌∙◌}
use Rattle.whole.specs.Solver.{⇑, ring}
use Rattle.refusals.specs.Verdict.{Verdict, refused, accepted, refuse_when, ◌before◌}
use Rattle.refusals.specs.Lent.{written_into}
use Rattle.inputs.specs.Inputs.{Inputs, inputs_judged}
use Rattle.sui.specs.Sui.{sui_of_year}
use Rattle.built.specs.Build.{bytes_of_years, bytes_by, content_by, suis_by}
use Rattle.built.specs.theory.Years.{suis_refused}
use Rattle.rebuilt.specs.declared.Rebuilt.{Rebuilt}
use Rattle.rebuilt.specs.Rebuild.{NewFile, is_file, most_bytes, new_file_by, kept_by, kept, counted, new_bytes, kept_years}

-- the fresh build of n years, 1 to 128 of them, behind the judgement of its inputs
abbrev pub fresh_bytes : Inputs → ℤ → ℤ → ℕ → ℕ → Verdict (List ℕ)
fresh_bytes i zone first n room = inputs_judged i before bytes_of_years i zone first n room

module _ (old new : Inputs) (zone : ℤ) (file : List ℕ) (first : ℤ) (n : ℕ) where
  abbrev pub its_file : Bool
  its_file = is_file (bytes_of_years old zone first n most_bytes) file

  unfoldable pub rebuilt_over : ℕ → ℕ → Verdict NewFile
  rebuilt_over room places =
      refuse_when (not its_file) 13
      before new_file_by (fresh_bytes new zone first n room) (kept_by (kept old new zone) first n) places

-- ---- the three promises, of any verdict
module _ (whole : Verdict NewFile) (file : List ℕ) (years : List ℤ) where
  abbrev pub Says : Verdict Rebuilt → List ℕ → List ℤ → Type 0
  Says result file' years' = (result ≡ counted whole) × ((file' ≡ written_into whole new_bytes file) × (years' ≡ written_into whole kept_years years))

  pub says_refused : {number segment : ℕ} → whole ≡ refused number segment → Says (refused number segment) file years
  says_refused e = rw e (refl, (refl, refl))

pub same_says : {v w : Verdict NewFile} → v ≡ w → (file : List ℕ) (years : List ℤ) {result : Verdict Rebuilt} {file' : List ℕ} {years' : List ℤ} → Says v file years result file' years' → Says w file years result file' years'
same_says e file years s = rw e at s

-- ---- new inputs
pub new_refused : (judged : Verdict (Unit {0})) (w : Verdict (List ℕ)) (listed : List ℤ) (places : ℕ) {number segment : ℕ} → judged ≡ refused number segment → new_file_by (judged before w) listed places ≡ refused number segment
unfolding new_file_by
new_refused judged w listed places e = rw e

pub new_accepted : (judged : Verdict (Unit {0})) (w : Verdict (List ℕ)) (listed : List ℤ) (places : ℕ) → judged ≡ accepted → new_file_by w listed places ≡ new_file_by (judged before w) listed places
new_accepted judged w listed places e = rw e

pub not_built_new : (w : Verdict (List ℕ)) (listed : List ℤ) (places : ℕ) {number segment : ℕ} → w ≡ refused number segment → new_file_by w listed places ≡ refused number segment
unfolding new_file_by
not_built_new w listed places e = rw e

-- where the first sui cannot be found, nothing is built
pub first_refused : (i : Inputs) (zone first : ℤ) (n room : ℕ) {number segment : ℕ} → 0 < n → sui_of_year i zone first ≡ refused number segment → bytes_of_years i zone first n room ≡ refused number segment
unfolding bytes_by content_by suis_by
first_refused i zone first n room some e =
    let here : first +ℤ pos 0 ≡ first = ⇑ (first ∷ []) (search ring depth 9) refl in
    rw (suis_refused i zone first 0 n refl (ap (sui_of_year i zone) here ∙ e) some)

-- ---- the old file
module _ (old new : Inputs) (zone : ℤ) (file : List ℕ) (first : ℤ) (n room places : ℕ) where
  pub not_its_file : its_file old new zone file first n ≡ false → rebuilt_over old new zone file first n room places ≡ refused 13 0
  unfolding rebuilt_over
  not_its_file e = rw e

  pub old_refused : {number segment : ℕ} → bytes_of_years old zone first n most_bytes ≡ refused number segment → rebuilt_over old new zone file first n room places ≡ refused 13 0
  unfolding rebuilt_over
  old_refused e = rw e

  pub is_its_file : its_file old new zone file first n ≡ true → {listed : List ℤ} → listed ≡ kept_by (kept old new zone) first n → new_file_by (fresh_bytes new zone first n room) listed places ≡ rebuilt_over old new zone file first n room places
  unfolding rebuilt_over
  is_its_file e l = rw (e, l)
