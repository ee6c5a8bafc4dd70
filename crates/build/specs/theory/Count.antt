-- What the whole build promises, once the count of suis is judged. Assumes nothing.
use Rattle.std.specs.Prelude.{◌≡◌, refl, true, false, List, ℕ, ℤ, pos, nat_abs, length}
use Rattle.whole.specs.Tests.{in_range}
use Rattle.refusals.specs.Verdict.{Verdict, refused, accepted}
use Rattle.refusals.specs.Lent.{written_into}
use Rattle.inputs.specs.Inputs.{Inputs, judged_in}
use Rattle.almanac.specs.Answers.{all_bytes}
use Rattle.built.specs.Build.{bytes_built, file_built, built_by}
use Rattle.build.specs.theory.File.{Promises}

module _ (i : Inputs) (zone first count : ℤ) (file : List ℕ) where
  abbrev pub FilePromises : Verdict ℕ → List ℕ → Type 0
  FilePromises v last = (v ≡ file_built i zone first count (length file)) × (last ≡ written_into (bytes_built i zone first count (length file)) all_bytes file)

  pub inputs_refused : {number segment : ℕ} → judged_in i zone ≡ refused number segment → FilePromises (refused number segment) file
  unfolding file_built built_by
  inputs_refused e = rw e (refl, refl)

  module _ (judged : judged_in i zone ≡ accepted) where
    pub count_refused : in_range (pos 1) (pos 128) count ≡ false → FilePromises (refused 8 0) file
    unfolding file_built built_by
    count_refused e = rw (judged, e) (refl, refl)

    pub years_built : in_range (pos 1) (pos 128) count ≡ true → {v : Verdict ℕ} {last : List ℕ} → Promises i zone first (nat_abs count) file v last → FilePromises v last
    unfolding file_built built_by
    years_built e p = rw (judged, e) p
