-- What is proved of a sui of accepted inputs, over its definitions: its two solstices are 24 marks apart, the zhongqi between them are thirteen, every second
-- mark; new-moon days rise; and the sui is what the month rule says of all listed new moons and those zhongqi, so that every theorem of `months` on a sui holds of
-- it; one result. Assumes nothing.
use Rattle.std.specs.Prelude.{◌≡◌, true, ℤ, ◌+ℤ◌, ◌-ℤ◌, length, Result}
use Rattle.std.proofs.Math.Path.{sym, ap}
use Rattle.std.proofs.Common.{ap₂, ◌∙◌, arith}
use Prim.Native.Nat.{ℕ, suc, ◌*◌, ◌<◌}
use Rattle.std.proofs.Math.IntN.{pos}
use Rattle.whole.specs.Tabulated.{tabulate, length_tabulate}
use Rattle.refusals.specs.Verdict.{paper, answered, ◌then◌, then_answered, one_result, results_apart}
use Rattle.marks.specs.Marks.{Mark}
use Rattle.inputs.specs.Inputs.{Inputs, sun, day_of_mark}
use Rattle.inputs.specs.Known.{Known}
use Rattle.inputs.proofs.Theorems.{known}
use Rattle.months.specs.declared.SuiDays.{SuiDays}
use Rattle.months.specs.declared.Sui.{Sui}
use Rattle.months.specs.Months.{IsSuiDays, sui_of, sui_in}
use Rattle.months.specs.Limits.{rising}
use Rattle.months.proofs.Theorems.{Meet, months_meet, found_are_sui_days}
use Rattle.months.proofs.theory.Suis.{IsSui}
use Rattle.sui.specs.Sui.{new_moon_days, solstices_in, zhongqi_days, one_solstice, sui_days, sui_for}
use Rattle.sui.proofs.theory.Answered.{days_found_lem, inputs_answered}
use Rattle.turns.specs.theory.Counting.{by_small}
use Rattle.sui.specs.theory.Solstices.{eve}
use Rattle.sui.proofs.theory.Solstices.{solstice, solstices, solstice_day, solstices_by, one_circle_on, in_year_means, zhongqi_are}
use Rattle.sui.proofs.theory.Found.{this}
use Rattle.sui.proofs.theory.Apart.{new_moons_rise}
use Rattle.refusals.specs.declared.Refusal.{Refusal}

-- ---- the solstices of a sui
module _ (i : Inputs) (zone : ℤ) (k : Known i) (year : ℤ) {first last : Mark} (one : one_solstice (solstices_in i zone (year -ℤ pos 1)) ≡ answered first) (two : one_solstice (solstices_in i zone year) ≡ answered last) where
  -- the first is the n-th listed solstice, the second the next one
  place : ℕ
  place = solstices_by i zone k (eve (year -ℤ pos 1))

  are : (first ≡ solstice i zone k place) × (last ≡ solstice i zone k (suc place)) × (suc place < solstices i zone k)
  unfolding place
  are =
      let a = in_year_means i zone k (year -ℤ pos 1) one in
      let b = in_year_means i zone k year two in
      let same = ap (λ (y : ℤ). solstices_by i zone k (eve y)) (this i zone k year) in
      let next : solstices_by i zone k (eve year) ≡ suc (solstices_by i zone k (eve (year -ℤ pos 1))) = omega (arith, a.0) in
      (sym a.1, sym b.1 ∙ ap (solstice i zone k) next, omega (arith, b.0, by_small (solstice_day i zone k) (eve (year +ℤ pos 1)) (solstices i zone k)))

  pub solstices_24_apart : last.index ≡ first.index +ℤ pos 24
  solstices_24_apart = ap (λ (m : Mark). m.index) are.1 ∙ one_circle_on i.sun_start i.sun_coefs place ∙ ap (λ (m : Mark). m.index +ℤ pos 24) (sym are.0)

  -- the zhongqi of the sui are every second mark from the first solstice to the second ..
  pub zhongqi_every_second_mark : zhongqi_days i zone first last ≡ tabulate (λ m. (day_of_mark i.leap (sun i) zone (first.index +ℤ pos (2 * m))).0) 13
  zhongqi_every_second_mark =
      ap₂ (zhongqi_days i zone) are.0 are.1 ∙ zhongqi_are i zone k place are.2
      ∙ ap (λ (m : Mark). tabulate (λ n. (day_of_mark i.leap (sun i) zone (m.index +ℤ pos (2 * n))).0) 13) (sym are.0)

  -- .. thirteen of them
  pub thirteen_zhongqi : length (zhongqi_days i zone first last) ≡ 13
  thirteen_zhongqi = ap length zhongqi_every_second_mark ∙ length_tabulate (λ m. (day_of_mark i.leap (sun i) zone (first.index +ℤ pos (2 * m))).0) 13

-- ---- new-moon days rise: no two listed new moons of accepted inputs lie on one day
pub new_moon_days_rise : (i : Inputs) (zone : ℤ) → Known i → rising (new_moon_days i zone) ≡ true
new_moon_days_rise = new_moons_rise

-- ---- what an answered sui is: the month rule's, for those new-moon days and zhongqi days (`IsSui` of `months`)
pub record IsSuiOf (i : Inputs) (zone year : ℤ) (sui : Sui) : Type 0 where
  pub is_known : Known i
  pub first : Mark
  pub last : Mark
  pub is_first : one_solstice (solstices_in i zone (year -ℤ pos 1)) ≡ answered first
  pub is_last : one_solstice (solstices_in i zone year) ≡ answered last
  pub is_sui : IsSui year (new_moon_days i zone) (zhongqi_days i zone first last) sui

pub answered_is_sui : (i : Inputs) (zone year : ℤ) {sui : Sui} → sui_for i zone year ≡ answered sui → IsSuiOf i zone year sui
unfolding sui_for sui_in
answered_is_sui i zone year {sui} e =
    let judged = inputs_answered i zone (sui_days i zone year then sui_of year) e in
    let k = known i judged.0 in
    let made = then_answered (sui_days i zone year) (sui_of year) sui judged.1 in
    let found = days_found_lem i zone year made.1 in
    record {
      is_known = k;
      first = found.first;
      last = found.last;
      is_first = found.is_first;
      is_last = found.is_last;
      is_sui = record { rise = new_moon_days_rise i zone k; thirteen = thirteen_zhongqi i zone k year found.is_first found.is_last; rule = rw found.by_rule made.2 };
    }

-- month 11 begins on the last new-moon day not after the first solstice day, the months meet, and the sui ends before the last not after the second
pub months_of_a_sui_meet : (i : Inputs) (zone year : ℤ) {sui : Sui} (s : IsSuiOf i zone year sui) → Meet (new_moon_days i zone) (zhongqi_days i zone s.first s.last) sui
months_of_a_sui_meet i zone year s = months_meet year (new_moon_days i zone) (zhongqi_days i zone s.first s.last) s.is_sui.rule

-- the days that are found are those of a sui, so of thirteen months one has no zhongqi (`thirteen_months_one_without` of `months`)
pub sui_days_of_accepted : (i : Inputs) (zone year : ℤ) → Known i → {days : SuiDays} → sui_days i zone year ≡ answered days → IsSuiDays days
sui_days_of_accepted i zone year k e =
    let found = days_found_lem i zone year e in
    found_are_sui_days (new_moon_days i zone) (zhongqi_days i zone found.first found.last) (new_moon_days_rise i zone k) (thirteen_zhongqi i zone k year found.is_first found.is_last) found.by_rule

-- ---- one result: any two answers that `sui` may give are the same
pub sui_one_result : (i : Inputs) (zone year : ℤ) (a b : Result Sui Refusal) → paper a ≡ sui_for i zone year → paper b ≡ sui_for i zone year → a ≡ b
sui_one_result i zone year a b p q = one_result paper results_apart a b p q
