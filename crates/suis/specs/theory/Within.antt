-- The days of a sui in the new-moon days ahead of its month 11: all that are left where they are fewer than fifteen; else the first fifteen, unless they all are not
-- after the second solstice. Assumes nothing.
use Rattle.std.specs.Prelude.{◌≡◌, List, ℕ, ◌+◌, ◌-◌, ◌≤◌, ◌<◌, ℤ, pos, length, get_or, take, ◌≤ℤ◌, ◌<ℤ◌}
use Rattle.std.proofs.Common.{ap, ◌∙◌, inl, inr, arith}
use Rattle.whole.specs.Tabulated.{tabulate}
use Rattle.whole.specs.Selected.{tabulate_same, tabulate_part}
use Rattle.series.specs.Series.{Series}
use Rattle.inputs.specs.Known.{Ready}
use Rattle.months.specs.Months.{first_solstice, second_solstice, days_of}
use Rattle.turns.specs.theory.Counting.{by_small, is_by, is_after}
use Rattle.turns.specs.Listed.{turn_day, turn_days, turns_by, turns_of, turn_days_rise}
use Rattle.suis.specs.Ahead.{Ahead, crowded}
use Rattle.suis.specs.theory.Lookups.{day_is_lem}
use Rattle.suis.specs.theory.Counted.{from_place}
use Rattle.suis.specs.theory.Window.{window_same, crowded_is}

module _ (leap : List ℤ) (s : Series) (zone : ℤ) (ready : Ready leap s) (zhongqi : List ℤ) (ordered : first_solstice zhongqi ≤ℤ second_solstice zhongqi)
    (some : 0 < turns_by leap s zone (first_solstice zhongqi)) {days : List ℤ} (ahead : Ahead leap s zone (turns_by leap s zone (first_solstice zhongqi) - 1) 15 days) where
  abbrev f : ℕ → ℤ
  f = turn_day leap s zone

  abbrev m : ℕ
  m = turns_by leap s zone (first_solstice zhongqi) - 1

  abbrev second : ℕ
  second = turns_by leap s zone (second_solstice zhongqi)

  pub short_part : length days < 15 → days_of days zhongqi ≡ days_of (turn_days leap s zone) zhongqi
  short_part h =
      let all = ahead.enough h in
      ap (λ (l : List ℤ). days_of l zhongqi) ahead.are_days
      ∙ window_same f (turns_of s) (turn_days_rise leap s zone ready) zhongqi ordered some (length days) ahead.inside (omega (arith, by_small f (second_solstice zhongqi) (turns_of s))) (inr all)

  module _ (long : 15 ≤ length days) where
    inside : m + 15 ≤ turns_of s
    inside = omega (arith, ahead.inside)

    fifteenth : m + 14 < turns_of s
    fifteenth = omega (arith, inside)

    is_fifteenth : get_or days 14 (pos 0) ≡ f (m + 14)
    is_fifteenth = day_is_lem ahead 14 (omega arith)

    pub long_part : second_solstice zhongqi <ℤ get_or days 14 (pos 0) → days_of (take 15 days) zhongqi ≡ days_of (turn_days leap s zone) zhongqi
    long_part h =
        let by = is_after f (turns_of s) (turn_days_rise leap s zone ready) (second_solstice zhongqi) (m + 14) fifteenth (rw is_fifteenth at h) in
        let part : take 15 days ≡ tabulate (from_place f m) 15 =
        ap (take 15) ahead.are_days ∙ tabulate_part (from_place f m) (length days) 0 15 (omega arith) ∙ tabulate_same 15 (λ k l. let same : 0 + k ≡ k = omega arith in ap (from_place f m) same) in
        ap (λ (l : List ℤ). days_of l zhongqi) part
        ∙ window_same f (turns_of s) (turn_days_rise leap s zone ready) zhongqi ordered some 15 inside (omega arith) (inl (omega arith))

    pub crowded_part : get_or days 14 (pos 0) ≤ℤ second_solstice zhongqi → crowded (turns_of s) second ≡ days_of (turn_days leap s zone) zhongqi
    crowded_part h =
        let by = is_by f (turns_of s) (turn_days_rise leap s zone ready) (second_solstice zhongqi) (m + 14) fifteenth (rw is_fifteenth at h) in
        crowded_is f (turns_of s) (turn_days_rise leap s zone ready) zhongqi ordered some (omega (arith, some))
