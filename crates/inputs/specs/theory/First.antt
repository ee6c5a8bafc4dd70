-- The first mark tells whether any is early, since marks rise in time and what is not early is not early later. Assumes nothing.
use Rattle.std.specs.Prelude.{◌≡◌, refl, Bool, true, false, List, ℕ, ◌<◌, ℤ, length, get_or}
use Rattle.std.proofs.Common.{sym, ◌∙◌}
use Rattle.clock.specs.Clock.{convertible, early}
use Rattle.clock.proofs.Theorems.{goes_on_holding}
use Rattle.series.specs.Series.{Series}
use Rattle.series.specs.Acceptance.{Accepted}
use Rattle.marks.specs.Marks.{Mark}
use Rattle.marks.specs.Answers.{no_mark}
use Rattle.marks.specs.Listed.{listed_marks, second_of_mark}
use Rattle.marks.proofs.theory.Nth.{nth_index, nth_is, nth_in_span, nth_later}
use Rattle.inputs.specs.Inputs.{second, any_early}
use Rattle.inputs.specs.theory.Early.{none_is_early, first_is_early}
use Rattle.inputs.specs.theory.Converted.{span_converts}

module _ (s : Series) (e : Accepted s) (some : 0 < length (listed_marks s)) where
  abbrev first : Mark
  first = get_or (listed_marks s) 0 no_mark

  pub first_converts : convertible (second first) ≡ true
  first_converts = rw (nth_is s e 0 some) (span_converts s e (record { 0 = second_of_mark s (nth_index s e 0 some) }) (nth_in_span s e 0 some))

  pub first_tells : (leap : List ℤ) → early leap (second first) ≡ any_early leap (listed_marks s)
  first_tells leap = go (early leap (second first)) refl
    where
      go : (b : Bool) → early leap (second first) ≡ b → early leap (second first) ≡ any_early leap (listed_marks s)
      go true p = p ∙ sym (first_is_early leap (listed_marks s) some p)
      go false p = p ∙ sym (none_is_early leap (listed_marks s) later)
        where
          later : (k : ℕ) → k < length (listed_marks s) → early leap (second (get_or (listed_marks s) k no_mark)) ≡ false
          later k h =
              rw (nth_is s e k h)
              (goes_on_holding leap (record { 0 = second_of_mark s (nth_index s e 0 some) }) (record { 0 = second_of_mark s (nth_index s e k h) }) (nth_later s e k h some) (rw (nth_is s e 0 some) at p))
