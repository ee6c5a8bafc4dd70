-- The cases of `inputs_taken`, by where its sections stand. Assumes nothing.
use Rattle.std.specs.Prelude.{◌≡◌, Bool, not, List, [], ◌∷◌, ℕ, zero, suc, ◌-◌, ◌/◌, ◌≤◌, ◌<◌, ltb, ℤ, take, drop}
use Rattle.std.proofs.Math.Path.{refl}
use Rattle.std.proofs.Common.{sym, ap, ap₂, ◌∙◌, arith, length-append, length-drop, take_all}
use Rattle.std.proofs.Math.Bool.{true, false}
use Rattle.std.proofs.Math.Decide.{dec_lt}
use borrow.Author.Tests.{lt-ltb, le-ltb, ltb-false, not-false}
use Rattle.std.proofs.Math.ListN.{length}
use Rattle.std.proofs.Math.Seq.{length-take-le}
use Rattle.refusals.specs.Verdict.{Verdict, answered, refused, answers_apart, answer_or_refusal, test_answered, ◌then◌}
use Rattle.refusals.specs.Lent.{written_into}
use Rattle.clock.specs.Clock.{is_zone}
use Rattle.clock.specs.Answers.{zone_judged}
use Rattle.inputs.specs.Inputs.{Inputs}
use Rattle.layout.specs.declared.inner.Places.{Places}
use Rattle.layout.specs.Layout.{places, inputs_at}
use Rattle.layout.proofs.theory.Sections.{places_inside}
use Rattle.building.specs.Building.{all_taken}
use Rattle.building.specs.theory.Cases.{bounded}
use Rattle.rebuilt.specs.declared.Rebuilt.{Rebuilt}
use Rattle.rebuilt.specs.Rebuild.{NewFile, rebuilt, counted, new_bytes, kept_years}
use Rattle.rebuilt_from.specs.RebuiltFrom.{inputs_of_words, inputs_taken, rebuilt_from_taken}
use Rattle.rebuilt_from.specs.theory.Cases.{Sections, behind_years, places_taken}

drop_two : {A : Type 0} (n : ℕ) (l : List A) → 2 ≤ n → drop 2 (take n l) ≡ take (n - 2) (drop 2 l)
drop_two zero l h = absurd (omega arith)
drop_two (suc zero) l h = absurd (omega arith)
drop_two (suc (suc n)) [] h = sym (take_all (suc (suc n) - 2) [] (omega arith))
drop_two (suc (suc n)) (a ∷ []) h = sym (take_all (suc (suc n) - 2) [] (omega arith))
drop_two (suc (suc n)) (a ∷ b ∷ l) h = let e : suc (suc n) - 2 ≡ n = omega arith in rw e refl

module _ (ws : List ℤ) (bytes : ℕ) where
  -- ---- the code's three ways
  pub not_taken : all_taken ws bytes ≡ false → places_taken ws bytes ≡ refused 13 0
  unfolding places_taken
  not_taken e = rw e

  pub too_few : all_taken ws bytes ≡ true → bytes / 8 < 2 → places_taken ws bytes ≡ refused 13 0
  unfolding places_taken
  too_few e h = rw (e, lt-ltb (bytes / 8) 2 h)

  pub enough : all_taken ws bytes ≡ true → 2 ≤ bytes / 8 → places_taken ws bytes ≡ places (behind_years ws bytes)
  unfolding places_taken
  enough e h = rw (e, le-ltb (bytes / 8) 2 h)

  -- ---- what an answer tells: the words are there
  pub record Found (p : Places) : Type 0 where
    pub taken : all_taken ws bytes ≡ true
    pub two : 2 ≤ bytes / 8
    pub is_place : places (behind_years ws bytes) ≡ answered p

  pub found : (p : Places) → places_taken ws bytes ≡ answered p → Found p
  unfolding places_taken
  found p e =
      let a = test_answered (not (all_taken ws bytes)) 13 _ p e in
      let b = test_answered (ltb (bytes / 8) 2) 13 _ p a.1 in
      record { taken = not-false (all_taken ws bytes) a.0; two = ltb-false (bytes / 8) 2 b.0; is_place = b.1 }

  pub sections : (p : Places) → Found p → Sections (behind_years ws bytes) p
  sections p f =
      let inside = places_inside (behind_years ws bytes) p f.is_place in
      let known = bounded ws bytes f.taken in
      let size = length-take-le (bytes / 8 - 2) (drop 2 ws) (omega (arith, length-drop 2 ws, known.1, f.two)) in
      record { leap_first = inside.0; sun_next = inside.1.0; moon_last = inside.1.1; few_words = omega (arith, size, known.0) }

  -- ---- and so of the inputs
  inputs_are : inputs_taken ws bytes ≡ (places_taken ws bytes then λ p. answered (inputs_at (behind_years ws bytes) p))
  unfolding inputs_taken places_taken inputs_of_words
  inputs_are = go (all_taken ws bytes) refl
    where
      go : (taken : Bool) → all_taken ws bytes ≡ taken → inputs_taken ws bytes ≡ (places_taken ws bytes then λ p. answered (inputs_at (behind_years ws bytes) p))
      go false e = rw e
      go true e = few (dec_lt (bytes / 8) 2)
        where
          size : length (take (bytes / 8) ws) ≡ bytes / 8
          size = length-take-le (bytes / 8) ws (bounded ws bytes e).1

          few : Dec (bytes / 8 < 2) → inputs_taken ws bytes ≡ (places_taken ws bytes then λ p. answered (inputs_at (behind_years ws bytes) p))
          few (yes h) = rw (e, size, lt-ltb (bytes / 8) 2 h)
          few (no h) = rw (e, size, le-ltb (bytes / 8) 2 (omega arith)) (ap (λ (l : List ℤ). places l then λ p. answered (inputs_at l p)) (drop_two (bytes / 8) ws (omega arith)))

  pub inputs_broken : {number segment : ℕ} → places_taken ws bytes ≡ refused number segment → inputs_taken ws bytes ≡ refused number segment
  inputs_broken e = inputs_are ∙ (rw e)

  pub inputs_found : {p : Places} → places_taken ws bytes ≡ answered p → inputs_taken ws bytes ≡ answered (inputs_at (behind_years ws bytes) p)
  inputs_found e = inputs_are ∙ (rw e)

-- ---- of two inputs
pub no_zone : (old : List ℕ) (oldws : List ℤ) (oldbytes : ℕ) (ws : List ℤ) (bytes : ℕ) (zone : ℤ) (room places : ℕ) → is_zone zone ≡ false → rebuilt_from_taken old oldws oldbytes ws bytes zone room places ≡ refused 15 0
unfolding rebuilt_from_taken zone_judged
no_zone old oldws oldbytes ws bytes zone room places z = rw z

module _ (old : List ℕ) (oldws : List ℤ) (oldbytes : ℕ) (ws : List ℤ) (bytes : ℕ) (zone : ℤ) (room places : ℕ) (z : is_zone zone ≡ true) where
  pub old_broken : {number segment : ℕ} → places_taken oldws oldbytes ≡ refused number segment → rebuilt_from_taken old oldws oldbytes ws bytes zone room places ≡ refused number segment
  unfolding rebuilt_from_taken zone_judged
  old_broken e = rw (z, inputs_broken oldws oldbytes e)

  pub new_broken : {p : Places} {number segment : ℕ} → places_taken oldws oldbytes ≡ answered p → places_taken ws bytes ≡ refused number segment → rebuilt_from_taken old oldws oldbytes ws bytes zone room places ≡ refused number segment
  unfolding rebuilt_from_taken zone_judged
  new_broken e f = rw (z, inputs_found oldws oldbytes e, inputs_broken ws bytes f)

  pub both_found : {p q : Places} → places_taken oldws oldbytes ≡ answered p → places_taken ws bytes ≡ answered q → rebuilt_from_taken old oldws oldbytes ws bytes zone room places ≡ rebuilt (inputs_at (behind_years oldws oldbytes) p) (inputs_at (behind_years ws bytes) q) zone old room places
  unfolding rebuilt_from_taken zone_judged
  both_found e f = rw (z, inputs_found oldws oldbytes e, inputs_found ws bytes f)

-- ---- what a function answers, and what it leaves in the lent places, by what is to be written
abbrev pub Promises : Verdict NewFile → List ℕ → List ℤ → Verdict Rebuilt → List ℕ → List ℤ → Type 0
Promises new file years v lastfile lastyears = (v ≡ counted new) × ((lastfile ≡ written_into new new_bytes file) × (lastyears ≡ written_into new kept_years years))

pub refusing : {new : Verdict NewFile} {number segment : ℕ} (file : List ℕ) (years : List ℤ) → new ≡ refused number segment → Promises new file years (refused number segment) file years
refusing file years e = rw e (refl, (refl, refl))

pub passing_on : {new same : Verdict NewFile} (file : List ℕ) (years : List ℤ) {v : Verdict Rebuilt} {lastfile : List ℕ} {lastyears : List ℤ} → new ≡ same → Promises same file years v lastfile lastyears → Promises new file years v lastfile lastyears
passing_on file years e p = rw e p

-- the same by the same inputs
pub by_inputs : {i i' j j' : Inputs} (zone : ℤ) (old file : List ℕ) (years : List ℤ) {v : Verdict Rebuilt} {lastfile : List ℕ} {lastyears : List ℤ} → i ≡ i' → j ≡ j' → Promises (rebuilt i j zone old (length file) (length years)) file years v lastfile lastyears → Promises (rebuilt i' j' zone old (length file) (length years)) file years v lastfile lastyears
by_inputs zone old file years e f p = passing_on file years (sym (ap₂ (λ (x y : Inputs). rebuilt x y zone old (length file) (length years)) e f)) p

-- as many bytes as were written are in the file, and as many years in their list
pub new_inside : (v : Verdict NewFile) (file : List ℕ) (years : List ℤ) {r : Rebuilt} {lastfile : List ℕ} {lastyears : List ℤ} → Promises v file years (answered r) lastfile lastyears → (r.bytes ≤ length lastfile) × (r.years ≤ length lastyears)
new_inside (answered n) file years {r} p =
    let bytes : r.bytes ≡ length n.bytes = ap (λ (x : Rebuilt). x.bytes) (answers_apart p.0) in
    let count : r.years ≡ length n.years = ap (λ (x : Rebuilt). x.years) (answers_apart p.0) in (
      rw p.1.0 (omega (arith, bytes, length-append n.bytes (drop (length n.bytes) file))),
      rw p.1.1 (omega (arith, count, length-append n.years (drop (length n.years) years))),
    )
new_inside (refused number segment) file years p = answer_or_refusal p.0
