-- From sui to sui: an answered sui tells where the next one begins. Its first solstice is this one's second, and month 11's new moon lies as many places on as this
-- sui has months. Assumes nothing.
use Rattle.std.specs.Prelude.{◌≡◌, refl, Bool, true, false, cond, List, [], ◌∷◌, ℕ, suc, ◌+◌, ◌*◌, ◌≤◌, ◌<◌, eqb, ℤ, pos, ◌+ℤ◌, ◌-ℤ◌, get_or, ◌≤ℤ◌}
use Rattle.std.proofs.Common.{sym, ap, ◌∙◌, append-nil, arith, eqb-true}
use Rattle.whole.specs.Booleans.{both}
use Rattle.whole.specs.Solver.{⇑, ring}
use Rattle.whole.specs.Tabulated.{get_d_tabulate}
use Rattle.refusals.specs.Verdict.{answered, refused, then_answered, answers_apart, answer_or_refusal}
use Rattle.series.specs.Series.{Series}
use Rattle.inputs.specs.Inputs.{Inputs, sun, moon, day_of_mark}
use Rattle.inputs.specs.Known.{Known}
use Rattle.months.specs.declared.Sui.{Sui}
use Rattle.months.specs.Months.{first_solstice, second_solstice, by_first, by_second, month_count, days_of, sui_of}
use Rattle.months.proofs.theory.Listed.{at_most_thirteen}
use Rattle.months.proofs.theory.Days.{found_months, found_listed, found_count}
use Rattle.months.proofs.theory.Suis.{sui_count_lem}
use Rattle.turns.specs.Listed.{turn_index_of, turn_day, turn_days, turns_by, turns_of, turn_days_rise}
use Rattle.sui.specs.Sui.{sui_days, sui_of_year}
use Rattle.sui.proofs.theory.Answered.{days_found_lem}
use Rattle.sui.specs.theory.Found.{one_in_each, zhongqi_from}
use Rattle.sui.proofs.theory.Found.{first_solstice_of, sui_days_are, two_listed}
use Rattle.sui.specs.theory.Solstices.{eve}
use Rattle.sui.proofs.theory.Solstices.{one_circle_on}

-- ---- the solstices' days among the zhongqi
module _ (leap : List ℤ) (s : Series) (zone j : ℤ) where
  pub zhongqi_at : (m : ℕ) → m < 13 → get_or (zhongqi_from leap s zone j) m (pos 0) ≡ (day_of_mark leap s zone (j +ℤ pos (2 * m))).0
  zhongqi_at m h =
      ap (λ (l : List ℤ). get_or l m (pos 0)) (sym (append-nil (zhongqi_from leap s zone j)))
      ∙ get_d_tabulate (λ n. (day_of_mark leap s zone (j +ℤ pos (2 * n))).0) 13 m (pos 0) [] h

module _ (i : Inputs) (zone : ℤ) (place : ℕ) where
  abbrev zhongqi : List ℤ
  zhongqi = zhongqi_from i.leap (sun i) zone (turn_index_of (sun i) place)

  pub first_is_turn : first_solstice zhongqi ≡ turn_day i.leap (sun i) zone place
  first_is_turn =
      zhongqi_at i.leap (sun i) zone (turn_index_of (sun i) place) 0 (omega arith)
      ∙ ap (λ (j : ℤ). (day_of_mark i.leap (sun i) zone j).0) (⇑ (turn_index_of (sun i) place ∷ []) (search ring depth 9) refl)

  pub second_is_turn : second_solstice zhongqi ≡ turn_day i.leap (sun i) zone (suc place)
  second_is_turn =
      zhongqi_at i.leap (sun i) zone (turn_index_of (sun i) place) 12 (omega arith)
      ∙ ap (λ (j : ℤ). (day_of_mark i.leap (sun i) zone j).0) (sym (one_circle_on i.sun_start i.sun_coefs place))

  -- the first solstice's day is not after the second's
  pub solstices_in_order : Known i → suc place < turns_of (sun i) → first_solstice zhongqi ≤ℤ second_solstice zhongqi
  solstices_in_order known listed = rw (first_is_turn, second_is_turn) (turn_days_rise i.leap (sun i) zone known.sun_ready place (suc place) (omega arith) listed)

-- ---- what an answered sui tells of the next year
pub record NextYear (i : Inputs) (zone year : ℤ) (place : ℕ) (sui : Sui) : Type 0 where
  pub next_place : turns_by i.leap (sun i) zone (eve year) ≡ suc place
  pub next_listed : suc place < turns_of (sun i)
  pub some_by_first : 0 < turns_by i.leap (moon i) zone (turn_day i.leap (sun i) zone place)
  pub next_by : turns_by i.leap (moon i) zone (turn_day i.leap (sun i) zone (suc place)) ≡ turns_by i.leap (moon i) zone (turn_day i.leap (sun i) zone place) + sui.count
  pub twelve_at_least : 12 ≤ sui.count
  pub thirteen_at_most : sui.count ≤ 13

solstice_found : (leap : List ℤ) (s : Series) (zone year : ℤ) {j : ℤ} → first_solstice_of leap s zone year ≡ answered j → (one_in_each leap s zone year ≡ true) × (turn_index_of s (turns_by leap s zone (eve (year -ℤ pos 1))) ≡ j)
unfolding first_solstice_of
solstice_found leap s zone year {j} e = go (one_in_each leap s zone year) refl e
  where
    index : ℤ
    index = turn_index_of s (turns_by leap s zone (eve (year -ℤ pos 1)))

    go : (b : Bool) → one_in_each leap s zone year ≡ b → cond b (answered index) (refused 8 0) ≡ answered j → (one_in_each leap s zone year ≡ true) × (index ≡ j)
    go true p q = (p, answers_apart q)
    go false p q = answer_or_refusal (sym q)

pub next_year : (i : Inputs) (zone : ℤ) → Known i → (year : ℤ) {sui : Sui} → sui_of_year i zone year ≡ answered sui → NextYear i zone year (turns_by i.leap (sun i) zone (eve (year -ℤ pos 1))) sui
unfolding month_count by_first by_second
next_year i zone known year {sui} e =
    let place = turns_by i.leap (sun i) zone (eve (year -ℤ pos 1)) in
    let made = then_answered (sui_days i zone year) (sui_of year) sui e in
    let days = made.0 in
    let found = then_answered (first_solstice_of i.leap (sun i) zone year) (λ j. days_of (turn_days i.leap (moon i) zone) (zhongqi_from i.leap (sun i) zone j)) days (sym (sui_days_are i zone known year (days_found_lem i zone year made.1).in_range) ∙ made.1) in
    let one = solstice_found i.leap (sun i) zone year found.1 in
    let moons = turn_days i.leap (moon i) zone in
    let zhongqi = zhongqi_from i.leap (sun i) zone (turn_index_of (sun i) place) in
    let rule : days_of moons zhongqi ≡ answered days = ap (λ (j : ℤ). days_of moons (zhongqi_from i.leap (sun i) zone j)) one.1 ∙ found.2 in
    let tests = both (eqb (turns_by i.leap (sun i) zone (eve year)) (place + 1)) (eqb (turns_by i.leap (sun i) zone (eve (year +ℤ pos 1))) (place + 1 + 1)) one.0 in
    let listed = found_listed moons zhongqi rule in
    let few = at_most_thirteen (month_count moons zhongqi) (found_count moons zhongqi rule) in
    let count = found_months moons zhongqi rule ∙ sui_count_lem year days made.2 in
    let by_first : by_first moons zhongqi ≡ turns_by i.leap (moon i) zone (turn_day i.leap (sun i) zone place) = ap (turns_by i.leap (moon i) zone) (first_is_turn i zone place) in
    let by-second : by_second moons zhongqi ≡ turns_by i.leap (moon i) zone (turn_day i.leap (sun i) zone (suc place)) = ap (turns_by i.leap (moon i) zone) (second_is_turn i zone place) in
    record {
      next_place = eqb-true (turns_by i.leap (sun i) zone (eve year)) (place + 1) tests.0 ∙ omega arith;
      next_listed = two_listed i.leap i.sun_start i.sun_coefs zone year one.0;
      some_by_first = omega (arith, listed, by_first);
      next_by = omega (arith, few, count, by_first, by-second, listed);
      twelve_at_least = omega (arith, few, count);
      thirteen_at_most = omega (arith, few, count);
    }
