-- What the search for turns asks of its arguments, and what is known then: which turns a series has, that each can be located, and how large the numbers are.
-- Assumes nothing.
use Rattle.std.specs.Prelude.{◌≡◌, true, false, List, ℕ, ◌*◌, ◌^◌, ◌≤◌, ◌<◌, ℤ, pos, ◌+ℤ◌, ◌-ℤ◌}
use Rattle.std.proofs.Common.{ap, arith, SFits}
use Rattle.std.specs.Int.Signed.{lt_z}
use Rattle.std.specs.Int.{w64}
use Rattle.whole.specs.Distance.{between_fits}
use Rattle.whole.proofs.Floor.{floor_mod_lt, floor_div_holds}
use Rattle.whole.specs.Laws.{<→≤}
use Rattle.whole.specs.Ranges.{Within, fit_hyp, within≤, bounds}
use Rattle.whole.specs.Solver.{lt_yes, lt_no}
use Rattle.series.specs.Bodies.{numbers}
use Rattle.series.specs.Series.{Series, value_at, last_second}
use Rattle.series.specs.Acceptance.{Accepted}
use Rattle.series.proofs.theory.Span.{start_in_span, last_in_span, value_in_span}
use Rattle.marks.specs.Marks.{index_at}
use Rattle.marks.specs.Listed.{first_reached, last_reached}
use Rattle.marks.proofs.theory.Nth.{marks_few, marks_length}
use Rattle.inputs.specs.Known.{Ready}
use Rattle.turns.specs.declared.inner.TurnList.{TurnList}
use Rattle.turns.specs.Turns.{circle_of, small_circle, some_circle, turn_of, at_place}
use Rattle.turns.specs.Listed.{first_turn_of, turn_index_of, turns_of, place_in, turn_after, turn_by_last, place_listed, turn_day, turn_days_rise, turns_few, turns_by}
use Rattle.turns.specs.theory.Counting.{Rises, by_small as few, is_by, is_after}

-- the turns of a series, as the program holds them
abbrev pub turns_in : Series → TurnList
turns_in s = record { first = first_turn_of s; count = turns_of s }

pub record Searched (leap : List ℤ) (s : Series) (zone : ℤ) (turns : TurnList) : Type 0 where
  pub ready : Ready leap s
  pub zone_small : Within 1000 zone
  pub are_turns : turns ≡ turns_in s

module _ (s : Series) (e : Accepted s) where
  -- indices are no larger than values
  pub first_small : Within 1000100000000000 (first_reached s)
  unfolding index_at
  first_small = record { within = floor_div_holds (value_at s s.start) (numbers s.body).mark_size 1000100000000000 (value_in_span s e (start_in_span s e)).within }

  pub last_small : Within 1000100000000000 (last_reached s)
  unfolding index_at
  last_small = record { within = floor_div_holds (value_at s (last_second s)) (numbers s.body).mark_size 1000100000000000 (value_in_span s e (last_in_span s e)).within }

  -- a listed turn's index fits, and so does what is added to the first
  module _ (k : ℕ) (h : k < turns_of s) where
    pub turn_fits : SFits w64 (turn_index_of s k)
    turn_fits = between_fits (fit_hyp {w = w64} first_small tt) (fit_hyp {w = w64} last_small tt) (<→≤ (turn_after s k)) (turn_by_last s k h)

    pub circles_small : circle_of s.body * k < 2 ^ 63
    circles_small =
        let place = place_listed s e (place_in s k) (rw (at_place s.body (first_reached s) k) (turn_by_last s k h)) in
        omega (arith, marks_few s e, marks_length s e)

  pub first_turn_small : Within 1000200000000000 (first_turn_of s)
  first_turn_small =
      let small = first_small in
      within≤ (search bounds depth 9) (omega (arith, floor_mod_lt (pos (turn_of s.body) -ℤ (first_reached s +ℤ pos 1)) (circle_of s.body) (some_circle s.body), small_circle s.body))

-- ---- what the day of one turn tells of the count
module _ {leap : List ℤ} {s : Series} {zone : ℤ} {turns : TurnList} (given : Searched leap s zone turns) where
  pub count_is : turns.count ≡ turns_of s
  count_is = ap (λ (t : TurnList). t.count) given.are_turns

  rises : Rises (turn_day leap s zone) (turns_of s)
  rises = turn_days_rise leap s zone given.ready

  pub by_small : (day : ℤ) → turns_by leap s zone day ≤ turns.count
  by_small day = omega (arith, count_is, few (turn_day leap s zone) day (turns_of s))

  -- turn k, where the day does not come before its day, counts; else it does not, nor do those behind it
  module _ (day : ℤ) (k : ℕ) (h : k < turns.count) where
    pub turn_counts : lt_z day (turn_day leap s zone k) ≡ false → k < turns_by leap s zone day
    turn_counts e = is_by (turn_day leap s zone) (turns_of s) rises day k (omega (arith, count_is)) (lt_no {a = day} {b = turn_day leap s zone k} e)

    pub turn_is_behind : lt_z day (turn_day leap s zone k) ≡ true → turns_by leap s zone day ≤ k
    turn_is_behind e = is_after (turn_day leap s zone) (turns_of s) rises day k (omega (arith, count_is)) (lt_yes {a = day} {b = turn_day leap s zone k} e)

  pub count_small : turns.count ≤ 2000200000000000
  count_small = omega (arith, count_is, turns_few s given.ready.is_accepted)
