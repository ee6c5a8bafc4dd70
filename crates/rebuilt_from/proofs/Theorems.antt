-- An input is taken as `build` takes it: what `build` makes of an input is what is built from its leap table, Sun and Moon, for the years that stand before them, and
-- behind the zone it is refused by 13 for its layout exactly where they are (`build_takes_them`). So the new file is what `build` makes of a new input that asks for the
-- old file's years (`rebuilt_is_built`). Assumes nothing but what a statement says itself.
use Rattle.std.specs.Prelude.{◌≡◌, refl, Bool, true, false, List, ℕ, ◌/◌, ltb, ℤ, pos, length, get_or, drop}
use Rattle.std.proofs.Common.{ap, ap₂, ◌∙◌}
use Rattle.refusals.specs.Verdict.{Verdict, answered, refused, accepted, then_answered, before_answered, ◌before◌, ◌then◌}
use Rattle.words.specs.Words.{words}
use Rattle.clock.specs.Answers.{zone_judged}
use Rattle.inputs.specs.Inputs.{Inputs}
use Rattle.layout.specs.declared.inner.Places.{Places}
use Rattle.layout.specs.Layout.{places}
use Rattle.built.specs.Build.{bytes_built}
use Rattle.building.specs.Building.{built_from_rest, built_from_words, length_kept, built_from}
use Rattle.rebuilt.specs.Rebuild.{NewFile}
use Rattle.rebuilt.proofs.Theorems.{Fresh, rebuilt_is_fresh}
use Rattle.rebuilt_from.specs.RebuiltFrom.{inputs_of_words, inputs_of, rebuilt_from}

words_taken : (ws : List ℤ) (zone : ℤ) (room : ℕ) → built_from_words ws zone room ≡ (inputs_of_words ws then λ i. bytes_built i zone (get_or ws 0 (pos 0)) (get_or ws 1 (pos 0)) room)
unfolding built_from_words built_from_rest inputs_of_words
words_taken ws zone room = go (ltb (length ws) 2) refl
  where
    go : (few : Bool) → ltb (length ws) 2 ≡ few → built_from_words ws zone room ≡ (inputs_of_words ws then λ i. bytes_built i zone (get_or ws 0 (pos 0)) (get_or ws 1 (pos 0)) room)
    go true e = rw e
    go false e = behind (places (drop 2 ws)) refl
      where
        behind : (v : Verdict Places) → places (drop 2 ws) ≡ v → built_from_words ws zone room ≡ (inputs_of_words ws then λ i. bytes_built i zone (get_or ws 0 (pos 0)) (get_or ws 1 (pos 0)) room)
        behind (answered p) f = rw (e, f)
        behind (refused number segment) f = rw (e, f)

-- first Y and count of an input
abbrev pub first_year : List ℕ → ℤ
first_year bytes = get_or (words bytes (length bytes / 8)) 0 (pos 0)

abbrev pub count_of_suis : List ℕ → ℤ
count_of_suis bytes = get_or (words bytes (length bytes / 8)) 1 (pos 0)

pub build_takes_them : (bytes : List ℕ) (zone : ℤ) (room : ℕ) → built_from bytes zone room ≡ zone_judged zone before (inputs_of bytes then λ i. bytes_built i zone (first_year bytes) (count_of_suis bytes) room)
unfolding built_from inputs_of
build_takes_them bytes zone room = go (length_kept (length bytes)) refl
  where
    go : (kept : Bool) → length_kept (length bytes) ≡ kept → built_from bytes zone room ≡ zone_judged zone before (inputs_of bytes then λ i. bytes_built i zone (first_year bytes) (count_of_suis bytes) room)
    go true e = rw e (ap (λ (v : Verdict (List ℕ)). zone_judged zone before v) (words_taken (words bytes (length bytes / 8)) zone room))
    go false e = rw e

-- ---- what is answered was rebuilt from the inputs that were taken
pub record Answered (old oldinput input : List ℕ) (zone : ℤ) (room : ℕ) (n : NewFile) : Type 0 where
  pub in_zone : zone_judged zone ≡ accepted
  pub earlier : Inputs
  pub are_earlier : inputs_of oldinput ≡ answered earlier
  pub later : Inputs
  pub are_later : inputs_of input ≡ answered later
  pub fresh : Fresh earlier later zone old room n

module _ (old oldinput input : List ℕ) (zone : ℤ) (room places : ℕ) {n : NewFile} where
  pub answered_from : rebuilt_from old oldinput input zone room places ≡ answered n → Answered old oldinput input zone room n
  unfolding rebuilt_from
  answered_from e =
      let z = before_answered (zone_judged zone) _ e in
      let a = then_answered (inputs_of oldinput) _ n z.1 in
      let b = then_answered (inputs_of input) _ n a.2 in
      record { in_zone = z.0; earlier = a.0; are_earlier = a.1; later = b.0; are_later = b.1; fresh = rebuilt_is_fresh a.0 b.0 zone old room places b.2 }

  -- and it is what `build` makes of the new input, where that asks for the years of the old file
  pub rebuilt_is_built : (a : Answered old oldinput input zone room n) → first_year input ≡ a.fresh.years.first → count_of_suis input ≡ pos a.fresh.years.count → built_from input zone room ≡ answered n.bytes
  rebuilt_is_built a first count =
      build_takes_them input zone room
      ∙ (rw (a.in_zone, a.are_later) (ap₂ (λ (y c : ℤ). bytes_built a.later zone y c room) first count))
      ∙ a.fresh.is_fresh
