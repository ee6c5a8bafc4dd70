-- The cases of the definition, and the two promises that each of them keeps. Assumes nothing.
use Rattle.std.specs.Prelude.{◌≡◌, refl, true, false, List, ℕ, ◌/◌, ◌%◌, ◌≤◌, ◌<◌, leb, eqb, ℤ, pos, length, get_or, take, drop}
use Rattle.std.proofs.Common.{arith, lt-ltb, le-ltb, leb-true, length-append}
use Rattle.whole.specs.Booleans.{both}
use Rattle.refusals.specs.Verdict.{Verdict, answered, refused, answers_apart, answer_or_refusal}
use Rattle.refusals.specs.Lent.{written_into}
use Rattle.clock.specs.Clock.{is_zone}
use Rattle.clock.specs.Answers.{zone_judged}
use Rattle.layout.specs.declared.inner.Places.{Places}
use Rattle.layout.specs.Layout.{places, inputs_at}
use Rattle.almanac.specs.Answers.{bytes_counted, all_bytes}
use Rattle.built.specs.Build.{bytes_built}
use Rattle.building.specs.Building.{built_from_rest, built_from_words, length_kept, all_taken, built_from_taken}

-- what a function answers, and what it leaves in the lent file, by what is to be written
abbrev pub Promises : Verdict (List ℕ) → List ℕ → Verdict ℕ → List ℕ → Type 0
Promises bytes file v last = (v ≡ bytes_counted bytes) × (last ≡ written_into bytes all_bytes file)

pub refusing : {bytes : Verdict (List ℕ)} {number segment : ℕ} (file : List ℕ) → bytes ≡ refused number segment → Promises bytes file (refused number segment) file
refusing file e = rw e (refl, refl)

pub passing_on : {bytes same : Verdict (List ℕ)} (file : List ℕ) {last : List ℕ} {v : Verdict ℕ} → bytes ≡ same → Promises same file v last → Promises bytes file v last
passing_on file e p = rw e p

-- as many bytes as were written are in the file
pub written_inside : (v : Verdict (List ℕ)) (file : List ℕ) {n : ℕ} {last : List ℕ} → answered n ≡ bytes_counted v → last ≡ written_into v all_bytes file → n ≤ length last
written_inside (answered bytes) file p q = let n = answers_apart p in rw q (omega (arith, n, length-append bytes (drop (length bytes) file)))
written_inside (refused number segment) file p q = answer_or_refusal p

-- ---- the cases
module _ (ws : List ℤ) (zone first count : ℤ) (room : ℕ) where
  pub rest_broken : {number segment : ℕ} → places ws ≡ refused number segment → built_from_rest ws zone first count room ≡ refused number segment
  unfolding built_from_rest
  rest_broken e = rw e

  pub rest_found : {p : Places} → places ws ≡ answered p → built_from_rest ws zone first count room ≡ bytes_built (inputs_at ws p) zone first count room
  unfolding built_from_rest
  rest_found e = rw e

module _ (ws : List ℤ) (zone : ℤ) (room : ℕ) where
  pub too_few : length ws < 2 → built_from_words ws zone room ≡ refused 13 0
  unfolding built_from_words
  too_few h = rw (lt-ltb (length ws) 2 h)

  pub enough : 2 ≤ length ws → built_from_words ws zone room ≡ built_from_rest (drop 2 ws) zone (get_or ws 0 (pos 0)) (get_or ws 1 (pos 0)) room
  unfolding built_from_words
  enough h = rw (le-ltb (length ws) 2 h)

-- an input that keeps its length is not too long
pub not_too_long : (bytes : ℕ) → length_kept bytes ≡ true → bytes ≤ 2017080
unfolding length_kept
not_too_long bytes e = leb-true bytes 2017080 (both (leb bytes 2017080) (eqb (bytes % 8) 0) e).0

-- nor is one whose words were all taken, and the room has its words
pub bounded : (ws : List ℤ) (bytes : ℕ) → all_taken ws bytes ≡ true → (bytes ≤ 2017080) × (bytes / 8 ≤ length ws)
unfolding all_taken
bounded ws bytes e =
    let all = both (length_kept bytes) (leb (bytes / 8) (length ws)) e in
    (not_too_long bytes all.0, leb-true (bytes / 8) (length ws) all.1)

module _ (ws : List ℤ) (bytes : ℕ) (zone : ℤ) (room : ℕ) where
  pub no_zone : is_zone zone ≡ false → built_from_taken ws bytes zone room ≡ refused 15 0
  unfolding built_from_taken zone_judged
  no_zone z = rw z

  module _ (z : is_zone zone ≡ true) where
    pub not_taken : all_taken ws bytes ≡ false → built_from_taken ws bytes zone room ≡ refused 13 0
    unfolding built_from_taken zone_judged
    not_taken e = rw (z, e)

    pub taken : all_taken ws bytes ≡ true → built_from_taken ws bytes zone room ≡ built_from_words (take (bytes / 8) ws) zone room
    unfolding built_from_taken zone_judged
    taken e = rw (z, e)
