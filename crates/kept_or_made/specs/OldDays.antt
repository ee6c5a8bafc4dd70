-- What is known of the old inputs once their build gave the old file: all suis were found, and their days stand as words, one behind the other, 28 for each.
-- Assumes nothing.
use Rattle.std.specs.Prelude.{◌≡◌, ◌+ℤ◌, drop, replicate}
use Rattle.std.proofs.Math.Path.{refl, ap, ap₂}
use Rattle.std.proofs.Common.{sym, ◌∙◌, zero-add, length-drop, drop_of_length-le, length-take-le, take_at, drop_at}
use mathlib.Core.List.{List, [], ◌∷◌, ◌++◌, append_assoc, append-nil}
use Prim.Native.Nat.{ℕ, zero, suc, ◌+◌, ◌-◌, ◌*◌, ◌≤◌, ◌<◌}
use native.Mathlib.Omega.{arith}
use Rattle.std.proofs.Math.Decide.{dec_lt}
use Rattle.std.proofs.Math.IntN.{ℤ, pos}
use Rattle.std.proofs.Math.ListN.{length, take, length-append}
use Rattle.std.proofs.lemmas.List.{length-replicate}
use Rattle.whole.specs.Lists.{placed, placed_both, placed_none}
use Rattle.whole.specs.Tabulated.{length_tabulate}
use Rattle.refusals.specs.Verdict.{Verdict, answered, refused, then_answered}
use Rattle.inputs.specs.Inputs.{Inputs, sun, moon, day_of_mark}
use Rattle.inputs.specs.Known.{Known}
use Rattle.months.specs.declared.Sui.{Sui}
use Rattle.months.specs.declared.SuiDays.{SuiDays}
use Rattle.months.specs.Answers.{no_sui}
use Rattle.months.specs.Months.{days_of, days_found, by_first, month_count, sui_of}
use Rattle.months.proofs.theory.Days.{found_is, found_count, found_listed, found_zhongqi}
use Rattle.months.proofs.theory.Listed.{at_most_thirteen}
use Rattle.months.proofs.theory.Suis.{sui_count_lem}
use Rattle.turns.specs.Listed.{turn_days}
use Rattle.turns.specs.declared.inner.TurnList.{TurnList}
use Rattle.sui.specs.Sui.{sui_days, sui_of_year}
use Rattle.sui.proofs.theory.Answered.{days_found_lem}
use Rattle.sui.specs.theory.Found.{zhongqi_from}
use Rattle.sui.proofs.theory.Found.{first_solstice_of, sui_days_are}
use Rattle.suis.specs.declared.inner.Places.{Places}
use Rattle.suis.specs.theory.Next.{next_year}
use Rattle.built.specs.Build.{suis_from}
use Rattle.built.specs.theory.Years.{suis_are}
use Rattle.build.specs.theory.Walk.{Walks, Reached}
use Rattle.rebuilt.specs.Rebuild.{days_words}

pub record AllFound (i : Inputs) (zone first : ℤ) (n : ℕ) : Type 0 where
  pub suis : List Sui
  pub found : suis_from i zone first n ≡ answered suis

-- the words of a year's days
abbrev pub words_for : Verdict SuiDays → List ℤ
words_for (answered days) = days_words days
words_for (refused number segment) = []

unfoldable pub days_of_years : Inputs → ℤ → ℤ → ℕ → List ℤ
days_of_years i zone first zero = []
days_of_years i zone first (suc n) = days_of_years i zone first n ++ words_for (sui_days i zone (first +ℤ pos n))

-- ---- the days of a sui are so many
rule_moons : (moons zhongqi : List ℤ) {days : SuiDays} → days_of moons zhongqi ≡ answered days → length days.moons ≡ 14
unfolding days_found month_count
rule_moons moons zhongqi {days} e =
    let n = month_count moons zhongqi in
    let from = by_first moons zhongqi - 1 in
    let listed = found_listed moons zhongqi e in
    let few = at_most_thirteen n (found_count moons zhongqi e) in
    let long : length (take (n + 1) (drop from moons)) ≡ n + 1 = length-take-le (n + 1) (drop from moons) (rw (length-drop from moons) (omega arith)) in
    rw (← found_is moons zhongqi e) (length-append (take (n + 1) (drop from moons)) (replicate (14 - (n + 1)) (pos 0)) ∙ omega (arith, long, length-replicate (14 - (n + 1)) (pos 0)))

module _ (i : Inputs) (zone : ℤ) (known : Known i) (year : ℤ) {days : SuiDays} (e : sui_days i zone year ≡ answered days) where
  -- which zhongqi they are
  by_turns : (j : ℤ) × (days_of (turn_days i.leap (moon i) zone) (zhongqi_from i.leap (sun i) zone j) ≡ answered days)
  by_turns =
      let found = then_answered (first_solstice_of i.leap (sun i) zone year) (λ j. days_of (turn_days i.leap (moon i) zone) (zhongqi_from i.leap (sun i) zone j)) days (sym (sui_days_are i zone known year (days_found_lem i zone year e).in_range) ∙ e) in
      (found.0, found.2)

  pub moons_long : length days.moons ≡ 14
  moons_long = rule_moons (turn_days i.leap (moon i) zone) (zhongqi_from i.leap (sun i) zone by_turns.0) by_turns.1

  pub zhongqi_long : length days.zhongqi ≡ 13
  zhongqi_long =
      let j = by_turns.0 in
      sym (ap length (found_zhongqi (turn_days i.leap (moon i) zone) (zhongqi_from i.leap (sun i) zone j) by_turns.1)) ∙ length_tabulate (λ m. (day_of_mark i.leap (sun i) zone (j +ℤ pos (2 * m))).0) 13

  pub words_long : length (days_words days) ≡ 28
  unfolding days_words
  words_long = omega (arith, length-append days.moons days.zhongqi, moons_long, zhongqi_long)

-- ---- each year's days, where all are found
pub record DaysOf (i : Inputs) (zone year : ℤ) : Type 0 where
  pub days : SuiDays
  pub sui : Sui
  pub are_days : sui_days i zone year ≡ answered days
  pub is_sui : sui_of_year i zone year ≡ answered sui
  pub by_rule : sui_of year days ≡ answered sui
  pub same_count : days.months ≡ sui.count
  pub few_months : days.months ≤ 13

module _ (i : Inputs) (zone first : ℤ) (known : Known i) (n : ℕ) (all : AllFound i zone first n) where
  pub days_of_lem : (j : ℕ) → j < n → DaysOf i zone (first +ℤ pos j)
  days_of_lem j h =
      let year = first +ℤ pos j in
      let is = (suis_are i zone first n all.found).each j h no_sui in
      let found = then_answered (sui_days i zone year) (sui_of year) _ is in
      let same = sui_count_lem year found.0 found.2 in
      record { days = found.0; sui = _; are_days = found.1; is_sui = is; by_rule = found.2; same_count = same; few_months = omega (arith, same, (next_year i zone known year is).thirteen_at_most) }

  pub words_of : (j : ℕ) (h : j < n) → words_for (sui_days i zone (first +ℤ pos j)) ≡ days_words (days_of_lem j h).days
  words_of j h = ap words_for (days_of_lem j h).are_days

  pub each_long : (j : ℕ) → j < n → length (words_for (sui_days i zone (first +ℤ pos j))) ≡ 28
  each_long j h = ap length (words_of j h) ∙ words_long i zone known (first +ℤ pos j) (days_of_lem j h).are_days

  pub days_long : (j : ℕ) → j ≤ n → length (days_of_years i zone first j) ≡ 28 * j
  unfolding days_of_years
  days_long zero h = refl
  days_long (suc j) h = length-append (days_of_years i zone first j) (words_for (sui_days i zone (first +ℤ pos j))) ∙ omega (arith, days_long j (omega arith), each_long j (omega arith))

  -- the words of year j, whatever stands behind
  pub days_at : (m j : ℕ) (rest : List ℤ) → m ≤ n → j < m → take 28 (drop (28 * j) (days_of_years i zone first m ++ rest)) ≡ words_for (sui_days i zone (first +ℤ pos j))
  unfolding days_of_years
  days_at zero j rest h l = absurd (omega arith)
  days_at (suc m) j rest h l =
      ap (λ (x : List ℤ). take 28 (drop (28 * j) x)) (append_assoc (days_of_years i zone first m) here rest) ∙ go (λ l. days_at m j (here ++ rest) (omega arith) l) (dec_lt j m)
    where
      here : List ℤ
      here = words_for (sui_days i zone (first +ℤ pos m))

      go : (j < m → take 28 (drop (28 * j) (days_of_years i zone first m ++ (here ++ rest))) ≡ words_for (sui_days i zone (first +ℤ pos j))) → Dec (j < m) → take 28 (drop (28 * j) (days_of_years i zone first m ++ (here ++ rest))) ≡ words_for (sui_days i zone (first +ℤ pos j))
      go before (yes l) = before l
      go before (no not_before) =
          let last : j ≡ m = omega arith in
          let there : length (days_of_years i zone first m) ≡ 28 * j = days_long m (omega arith) ∙ omega arith in
          ap (take 28) (drop_at (days_of_years i zone first m) (here ++ rest) (28 * j) there)
          ∙ take_at here rest 28 (each_long m (omega arith))
          ∙ ap (λ (k : ℕ). words_for (sui_days i zone (first +ℤ pos k))) (sym last)

  -- none is put; one year more is put
  pub nothing_put : (l : List ℤ) → l ≡ placed 0 (days_of_years i zone first 0) l
  unfolding days_of_years
  nothing_put l = placed_none l 0

  pub year_put : (l : List ℤ) (j : ℕ) (h : j < n) {now : List ℤ} → 28 * (j + 1) ≤ length l → now ≡ placed 0 (days_of_years i zone first j) l → placed (28 * j) (days_words (days_of_lem j h).days) now ≡ placed 0 (days_of_years i zone first (j + 1)) l
  unfolding days_of_years
  year_put l j h {now} room e =
      let before = days_of_years i zone first j in
      let long = days_long j (omega arith) in
      let next : suc j ≡ j + 1 = omega arith in
      let words = days_words (days_of_lem j h).days in
      ap₂ (λ (k : ℕ) (x : List ℤ). placed k words x) (sym (zero-add (length before) ∙ long)) e
      ∙ ap (λ (x : List ℤ). placed (0 + length before) x (placed 0 before l)) (sym (words_of j h))
      ∙ placed_both l before 0 (words_for (sui_days i zone (first +ℤ pos j))) (omega (arith, long, each_long j h))
      ∙ ap (λ (k : ℕ). placed 0 (days_of_years i zone first k) l) next

-- three parts that fill a list
pub three_parts : (x : ℤ) (rest moons zhongqi : List ℤ) → length rest ≡ 27 → length moons ≡ 14 → length zhongqi ≡ 13 → placed 15 zhongqi (placed 1 moons (x ∷ rest)) ≡ x ∷ moons ++ zhongqi
three_parts x rest moons zhongqi r m z =
    let second : 15 ≡ 1 + length moons = omega (arith, m) in
    let long : length (moons ++ zhongqi) ≡ 27 = length-append moons zhongqi ∙ omega (arith, m, z) in
    ap (λ (k : ℕ). placed k zhongqi (placed 1 moons (x ∷ rest))) second
    ∙ placed_both (x ∷ rest) moons 1 zhongqi (omega (arith, r, m, z))
    ∙ ap (λ (l : List ℤ). (x ∷ moons ++ zhongqi) ++ l) (drop_of_length-le (x ∷ rest) {i = 1 + length (moons ++ zhongqi)} (omega (arith, r, long)))
    ∙ append-nil (x ∷ moons ++ zhongqi)

-- ---- what the loop over the old years holds, before year j
pub record AtOld (i : Inputs) (zone : ℤ) (suns moons : TurnList) (first : ℤ) (n : ℕ) (solstices newmoons zhongqi out₀ : List ℤ) (place j from : ℕ) (out : List ℤ) : Type 0 where
  pub places : Places
  pub walks : Walks i zone suns moons places first n solstices newmoons zhongqi
  pub is_place : places.solstice ≡ place
  pub all : AllFound i zone first n
  pub reached : Reached i zone places first j from
  pub put : out ≡ placed 0 (days_of_years i zone first j) out₀
  pub in_turn : j ≤ n
