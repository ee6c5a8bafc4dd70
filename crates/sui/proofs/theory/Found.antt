-- The days of a sui as the program finds them: by counting solstices up to three eves it gets the index of the first solstice, from that the thirteen zhongqi, and
-- with their days it counts new moons. That is what the definition says. Assumes nothing.
use Rattle.std.specs.Prelude.{◌≡◌, Bool, true, false, cond, ◌&&◌, List, [], ◌∷◌, ℕ, suc, ◌+◌, ◌≤◌, ◌<◌, eqb, ℤ, ◌+ℤ◌, ◌-ℤ◌, ◌≤ℤ◌}
use Rattle.std.proofs.Math.Path.{refl}
use Rattle.std.proofs.Common.{ap, arith, eqb-true}
use Rattle.std.proofs.lemmas.Bool.{eqb-false}
use Rattle.std.proofs.Math.IntN.{pos}
use Rattle.whole.specs.Booleans.{both}
use Rattle.whole.specs.Solver.{⇑, ⇓, ring}
use Rattle.refusals.specs.Verdict.{Verdict, answered, refused, ◌then◌}
use Rattle.dates.specs.Calendar.{new_year}
use Rattle.dates.proofs.theory.Years.{in_order}
use Rattle.series.specs.declared.Body.TheVariants.{Sun}
use Rattle.series.specs.Series.{Series, series}
use Rattle.marks.specs.Listed.{last_reached}
use Rattle.inputs.specs.Inputs.{Inputs, sun, moon}
use Rattle.inputs.specs.Known.{Known}
use Rattle.months.specs.declared.SuiDays.{SuiDays}
use Rattle.months.specs.Months.{days_of}
use Rattle.months.specs.Limits.{year_in_range}
use Rattle.sui.specs.Sui.{new_moon_days, solstices_in, zhongqi_days, one_solstice, sui_days, days_by_marks}
use Rattle.turns.specs.theory.Counting.{by_small, by_later}
use Rattle.turns.specs.Listed.{turn_index_of, turns_of, turn_by_last, turn_day, turn_days, turn_days_rise, turns_by}
use Rattle.sui.specs.theory.Solstices.{eve}
use Rattle.sui.proofs.theory.Solstices.{solstices_by, one_circle_on, one_in_year, not_one_in_year, zhongqi_are, new_moons_are}
use Rattle.sui.specs.theory.Found.{one_in_each, zhongqi_from}

module _ (leap : List ℤ) (s : Series) (zone : ℤ) where
  unfoldable pub first_solstice_of : ℤ → Verdict ℤ
  first_solstice_of year = cond (one_in_each leap s zone year) (answered (turn_index_of s (turns_by leap s zone (eve (year -ℤ pos 1))))) (refused 8 0)

  pub found_when : (year : ℤ) → one_in_each leap s zone year ≡ true → answered (turn_index_of s (turns_by leap s zone (eve (year -ℤ pos 1)))) ≡ first_solstice_of year
  unfolding first_solstice_of
  found_when year e = rw e

  pub missing_when : (year : ℤ) → one_in_each leap s zone year ≡ false → refused 8 0 ≡ first_solstice_of year
  unfolding first_solstice_of
  missing_when year e = rw e

module _ (i : Inputs) (zone : ℤ) (k : Known i) (year : ℤ) where
  abbrev b : ℕ
  b = solstices_by i zone k (eve (year -ℤ pos 1))

  -- year - 1 + 1 is the year
  pub this : year -ℤ pos 1 +ℤ pos 1 ≡ year
  this = ⇑ (year ∷ []) (search ring depth 9) refl

  eves_in_order : {y z : ℤ} → y ≤ℤ z → eve y ≤ℤ eve z
  eves_in_order {y} {z} h = let ρ = new_year y ∷ new_year z ∷ [] in ⇑ ρ (search ring depth 9) (omega (arith, ⇓ ρ (in_order {y = y} {z = z} h) (search ring depth 9)))

  counts_in_order : {y z : ℤ} → y ≤ℤ z → solstices_by i zone k (eve y) ≤ solstices_by i zone k (eve z)
  counts_in_order {y} {z} h = by_later (turn_day i.leap (sun i) zone) (turns_of (sun i)) (turn_days_rise i.leap (sun i) zone k.sun_ready) (eve y) (eve z) (eves_in_order h)

  abbrev rest : Verdict SuiDays
  rest = one_solstice (solstices_in i zone (year -ℤ pos 1)) then λ first. one_solstice (solstices_in i zone year) then λ last. days_of (new_moon_days i zone) (zhongqi_days i zone first last)

  found : (p q : Bool) → eqb (solstices_by i zone k (eve year)) (b + 1) ≡ p → eqb (solstices_by i zone k (eve (year +ℤ pos 1))) (b + 1 + 1) ≡ q →
      rest ≡ cond (p && q) (answered (turn_index_of (sun i) b)) (refused 8 0) then (λ j. days_of (turn_days i.leap (moon i) zone) (zhongqi_from i.leap (sun i) zone j))
  found false q e f =
      let no_one = eqb-false (solstices_by i zone k (eve year)) (b + 1) e in
      let up = counts_in_order {y = year -ℤ pos 1} {z = year} (⇑ (year ∷ []) (search ring depth 9) (omega arith)) in
      let same = ap (λ (y : ℤ). solstices_by i zone k (eve y)) this in
      rw (not_one_in_year i zone k (year -ℤ pos 1) (omega arith) (λ one. no_one (omega arith)))
  found true false e f =
      let one = eqb-true (solstices_by i zone k (eve year)) (b + 1) e in
      let no_one = eqb-false (solstices_by i zone k (eve (year +ℤ pos 1))) (b + 1 + 1) f in
      let up = counts_in_order {y = year} {z = year +ℤ pos 1} (⇑ (year ∷ []) (search ring depth 9) (omega arith)) in
      let same = ap (λ (y : ℤ). solstices_by i zone k (eve y)) this in
      rw (one_in_year i zone k (year -ℤ pos 1) (omega arith), not_one_in_year i zone k year up (λ two. no_one (omega arith)))
  found true true e f =
      let one = eqb-true (solstices_by i zone k (eve year)) (b + 1) e in
      let two = eqb-true (solstices_by i zone k (eve (year +ℤ pos 1))) (b + 1 + 1) f in
      let same = ap (λ (y : ℤ). solstices_by i zone k (eve y)) this in
      let next : solstices_by i zone k (eve year) ≡ suc b = omega arith in
      let few : suc b < turns_of (sun i) = omega (arith, by_small (turn_day i.leap (sun i) zone) (eve (year +ℤ pos 1)) (turns_of (sun i))) in
      rw (one_in_year i zone k (year -ℤ pos 1) (omega arith), one_in_year i zone k year (omega arith), next, zhongqi_are i zone k b few, new_moons_are i zone k)

  pub out_of_range : year_in_range year ≡ false → refused 8 0 ≡ sui_days i zone year
  unfolding sui_days days_by_marks
  out_of_range e = rw e

  pub sui_days_are : year_in_range year ≡ true → sui_days i zone year ≡ first_solstice_of i.leap (sun i) zone year then (λ j. days_of (turn_days i.leap (moon i) zone) (zhongqi_from i.leap (sun i) zone j))
  unfolding sui_days days_by_marks first_solstice_of
  sui_days_are e = rw e (found (eqb (solstices_by i zone k (eve year)) (b + 1)) (eqb (solstices_by i zone k (eve (year +ℤ pos 1))) (b + 1 + 1)) refl refl)

-- where there is one in each, two solstices are listed: the first and 24 marks more
module _ (leap : List ℤ) (start : ℤ) (coefs : List ℤ) (zone year : ℤ) (one : one_in_each leap (series Sun start coefs) zone year ≡ true) where
  abbrev s : Series
  s = series Sun start coefs

  abbrev before : ℕ
  before = turns_by leap s zone (eve (year -ℤ pos 1))

  pub two_listed : suc before < turns_of s
  two_listed =
      let tests = both (eqb (turns_by leap s zone (eve year)) (before + 1)) (eqb (turns_by leap s zone (eve (year +ℤ pos 1))) (before + 1 + 1)) one in
      let two = eqb-true (turns_by leap s zone (eve (year +ℤ pos 1))) (before + 1 + 1) tests.1 in
      omega (arith, by_small (turn_day leap s zone) (eve (year +ℤ pos 1)) (turns_of s))

  pub to_the_second : (turn_index_of s before +ℤ pos 24) ≤ℤ last_reached s
  to_the_second = rw (← one_circle_on start coefs before) (turn_by_last s (suc before) two_listed)
