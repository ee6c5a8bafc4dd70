-- The two solstices of a sui in the days ahead of the first: whether there is one in each year, and where there is, the days of both. Assumes nothing.
use Rattle.std.specs.Prelude.{◌≡◌, refl, true, ◌&&◌, List, [], ◌∷◌, ℕ, suc, ◌+◌, ◌*◌, ◌<◌, eqb, ℤ, pos, ◌+ℤ◌, ◌-ℤ◌, length, get_or, ◌≤ℤ◌}
use Rattle.std.proofs.Common.{ap, ap₂, ◌∙◌, arith}
use Rattle.std.proofs.Math.Decide.{dec_lt}
use Rattle.whole.specs.Solver.{⇑, ring}
use Rattle.series.specs.declared.Body.TheVariants.{Sun}
use Rattle.series.specs.Series.{Series, series}
use Rattle.marks.specs.Listed.{last_reached}
use Rattle.inputs.specs.Inputs.{day_of_mark}
use Rattle.inputs.specs.Known.{Ready}
use Rattle.turns.specs.Listed.{turn_index_of, turn_day, turns_by, turns_of}
use Rattle.sui.specs.theory.Found.{one_in_each}
use Rattle.sui.proofs.theory.Found.{two_listed, to_the_second}
use Rattle.sui.specs.theory.Solstices.{eve}
use Rattle.sui.proofs.theory.Solstices.{one_circle_on}
use Rattle.suis.specs.Ahead.{Ahead, one_more}
use Rattle.suis.specs.theory.Lookups.{day_is_lem, one_more_is}

module _ (leap : List ℤ) (start : ℤ) (coefs : List ℤ) (zone year : ℤ) {place : ℕ} {days : List ℤ} (ahead : Ahead leap (series Sun start coefs) zone place 3 days)
    (is_place : place ≡ turns_by leap (series Sun start coefs) zone (eve (year -ℤ pos 1))) where
  abbrev s : Series
  s = series Sun start coefs

  pub each_is : Ready leap s → (one_more days 0 (eve year) && one_more days 1 (eve (year +ℤ pos 1))) ≡ one_in_each leap s zone year
  each_is ready =
      ap₂ ◌&&◌
      (one_more_is ahead ready 0 (omega arith) (eve year) ∙ ap (eqb (turns_by leap s zone (eve year))) first)
      (one_more_is ahead ready 1 (omega arith) (eve (year +ℤ pos 1)) ∙ ap (eqb (turns_by leap s zone (eve (year +ℤ pos 1)))) second)
    where
      first : place + 0 + 1 ≡ turns_by leap s zone (eve (year -ℤ pos 1)) + 1
      first = omega arith

      second : place + 1 + 1 ≡ turns_by leap s zone (eve (year -ℤ pos 1)) + 1 + 1
      second = omega arith

  module _ (one : one_in_each leap s zone year ≡ true) where
    pub both_listed : suc place < turns_of s
    both_listed = omega (arith, is_place, two_listed leap start coefs zone year one)

    pub both_ahead : 1 < length days
    both_ahead = go (dec_lt (length days) 3)
      where
        go : Dec (length days < 3) → 1 < length days
        go (yes l) = omega (arith, ahead.enough l, both_listed)
        go (no l) = omega arith

    pub first_day : get_or days 0 (pos 0) ≡ (day_of_mark leap s zone (turn_index_of s place +ℤ pos (2 * 0))).0
    first_day =
        let here : place + 0 ≡ place = omega arith in
        day_is_lem ahead 0 (omega (arith, both_ahead)) ∙ ap (turn_day leap s zone) here ∙ ap (λ (j : ℤ). (day_of_mark leap s zone j).0) (⇑ (turn_index_of s place ∷ []) (search ring depth 9) refl)

    pub last_day : get_or days 1 (pos 0) ≡ (day_of_mark leap s zone (turn_index_of s place +ℤ pos (2 * 12))).0
    last_day =
        let next : place + 1 ≡ suc place = omega arith in
        day_is_lem ahead 1 both_ahead ∙ ap (turn_day leap s zone) next ∙ ap (λ (j : ℤ). (day_of_mark leap s zone j).0) (one_circle_on start coefs place)

    pub to_the_last : (turn_index_of s place +ℤ pos 24) ≤ℤ last_reached s
    to_the_last = rw is_place (to_the_second leap start coefs zone year one)
