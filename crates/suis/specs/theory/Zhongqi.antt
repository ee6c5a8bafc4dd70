-- The zhongqi days of suis, put one behind the other: those of each sui stand thirteen on from those of the one before. Assumes nothing.
use Rattle.std.specs.Prelude.{◌≡◌, ℤ, pos, ◌+ℤ◌, get_or, drop, ◌≤ℤ◌}
use Rattle.std.proofs.Math.Path.{refl, ap, ap₂}
use Rattle.std.proofs.Common.{sym, ◌∙◌, zero-add, drop_at}
use mathlib.Core.List.{List, [], ◌∷◌, ◌++◌, append_assoc}
use Prim.Native.Nat.{ℕ, zero, suc, ◌+◌, ◌*◌, ◌≤◌, ◌<◌}
use native.Mathlib.Omega.{arith}
use Rattle.std.proofs.Math.Decide.{dec_lt}
use Rattle.std.proofs.Math.ListN.{length, take, length-append}
use Rattle.std.proofs.Math.Seq.{take_at}
use Rattle.whole.specs.Lists.{placed, placed_none, placed_both}
use Rattle.whole.specs.Tabulated.{length_tabulate}
use Rattle.whole.specs.Solver.{⇑, ring}
use Rattle.series.specs.declared.Body.TheVariants.{Sun}
use Rattle.series.specs.Series.{Series, series}
use Rattle.marks.specs.Listed.{last_reached}
use Rattle.inputs.specs.Inputs.{day_of_mark}
use Rattle.turns.specs.Listed.{turn_index_of, turn_day, turns_of, turn_by_last}
use Rattle.sui.specs.theory.Found.{zhongqi_from}
use Rattle.sui.proofs.theory.Solstices.{one_circle_on}
use Rattle.suis.specs.Ahead.{Ahead, zhongqi_of}
use Rattle.suis.specs.theory.Lookups.{day_is_lem, Fewer}

module _ (leap : List ℤ) (s : Series) (zone : ℤ) (place : ℕ) where
  abbrev of_sui : ℕ → List ℤ
  of_sui j = zhongqi_from leap s zone (turn_index_of s (place + j))

  pub thirteen_each : (j : ℕ) → length (of_sui j) ≡ 13
  thirteen_each j = length_tabulate (λ m. (day_of_mark leap s zone (turn_index_of s (place + j) +ℤ pos (2 * m))).0) 13

  pub length_zhongqi : (m : ℕ) → length (zhongqi_of leap s zone place m) ≡ 13 * m
  unfolding zhongqi_of
  length_zhongqi zero = refl
  length_zhongqi (suc m) = length-append (zhongqi_of leap s zone place m) (of_sui m) ∙ omega (arith, length_zhongqi m, thirteen_each m)

  -- those of sui j, whatever stands behind
  pub zhongqi_of_sui : (m j : ℕ) (rest : List ℤ) → j < m → take 13 (drop (13 * j) (zhongqi_of leap s zone place m ++ rest)) ≡ of_sui j
  unfolding zhongqi_of
  zhongqi_of_sui zero j rest h = absurd (omega arith)
  zhongqi_of_sui (suc m) j rest h = ap (λ (l : List ℤ). take 13 (drop (13 * j) l)) (append_assoc (zhongqi_of leap s zone place m) (of_sui m) rest) ∙ go (λ l. zhongqi_of_sui m j (of_sui m ++ rest) l) (dec_lt j m)
    where
      go : (j < m → take 13 (drop (13 * j) (zhongqi_of leap s zone place m ++ (of_sui m ++ rest))) ≡ of_sui j) → Dec (j < m) → take 13 (drop (13 * j) (zhongqi_of leap s zone place m ++ (of_sui m ++ rest))) ≡ of_sui j
      go before (yes l) = before l
      go before (no l) =
          let last : j ≡ m = omega arith in
          let there : length (zhongqi_of leap s zone place m) ≡ 13 * j = length_zhongqi m ∙ omega arith in
          ap (take 13) (drop_at (zhongqi_of leap s zone place m) (of_sui m ++ rest) (13 * j) there)
          ∙ take_at (of_sui m) rest 13 (thirteen_each m)
          ∙ ap of_sui (sym last)

  -- none is put
  pub nothing_put : (l : List ℤ) → l ≡ placed 0 (zhongqi_of leap s zone place 0) l
  unfolding zhongqi_of
  nothing_put l = placed_none l 0

  -- one sui more is put
  pub sui_put : (l : List ℤ) (j : ℕ) {now : List ℤ} → 13 * (j + 1) ≤ length l → now ≡ placed 0 (zhongqi_of leap s zone place j) l → placed (13 * j) (of_sui j) now ≡ placed 0 (zhongqi_of leap s zone place (j + 1)) l
  unfolding zhongqi_of
  sui_put l j {now} room e =
      let long = length_zhongqi j in
      let next : suc j ≡ j + 1 = omega arith in
      ap₂ (λ (k : ℕ) (x : List ℤ). placed k (of_sui j) x) (sym (zero-add (length (zhongqi_of leap s zone place j)) ∙ long)) e
      ∙ placed_both l (zhongqi_of leap s zone place j) 0 (of_sui j) (omega (arith, long, thirteen_each j))
      ∙ ap (λ (k : ℕ). placed 0 (zhongqi_of leap s zone place k) l) next

-- ---- between two solstices whose days are known
module _ {leap : List ℤ} {start : ℤ} {coefs : List ℤ} {zone : ℤ} {place few : ℕ} {days : List ℤ} (ahead : Ahead leap (series Sun start coefs) zone place few days) (j : ℕ) (both : j + 1 < length days) where
  abbrev s : Series
  s = series Sun start coefs

  abbrev index : ℤ
  index = turn_index_of s (place + j)

  further : place + (j + 1) ≡ suc (place + j)
  further = omega arith

  pub both_turns : suc (place + j) < turns_of s
  both_turns = omega (arith, ahead.inside)

  pub first_known : get_or days j (pos 0) ≡ (day_of_mark leap s zone (index +ℤ pos (2 * 0))).0
  first_known = day_is_lem ahead j (omega arith) ∙ ap (λ (k : ℤ). (day_of_mark leap s zone k).0) (⇑ (index ∷ []) (search ring depth 9) refl)

  pub last_known : get_or days (j + 1) (pos 0) ≡ (day_of_mark leap s zone (index +ℤ pos (2 * 12))).0
  last_known = day_is_lem ahead (j + 1) both ∙ ap (turn_day leap s zone) further ∙ ap (λ (k : ℤ). (day_of_mark leap s zone k).0) (one_circle_on start coefs (place + j))

  pub last_listed : (index +ℤ pos 24) ≤ℤ last_reached s
  last_listed = rw (one_circle_on start coefs (place + j)) at (turn_by_last s (suc (place + j)) both_turns)

-- ---- so many solstices were found, and the zhongqi of as many suis as they enclose, up to n: every sui whose solstices are both listed is among them
module _ (leap : List ℤ) (s : Series) (zone : ℤ) (place : ℕ) {n found suis : ℕ} {out : List ℤ} (out₀ : List ℤ) (solstices : Fewer (turns_of s) place (n + 2) found) (enclosed : Fewer found 1 n suis) (filled : out ≡ placed 0 (zhongqi_of leap s zone place suis) out₀) where
  sui_enclosed : (j : ℕ) → j < n → suc (place + j) < turns_of s → j < suis
  sui_enclosed j h listed = go (dec_lt suis n)
    where
      go : Dec (suis < n) → j < suis
      go (yes short) = let all = enclosed.or_all short in omega (arith, solstices.or_all (omega arith))
      go (no long) = omega arith

  pub zhongqi_made : (j : ℕ) → j < n → suc (place + j) < turns_of s → take 13 (drop (13 * j) out) ≡ zhongqi_from leap s zone (turn_index_of s (place + j))
  zhongqi_made j h listed = ap (λ (l : List ℤ). take 13 (drop (13 * j) l)) filled ∙ zhongqi_of_sui leap s zone place suis j (drop (0 + length (zhongqi_of leap s zone place suis)) out₀) (sui_enclosed j h listed)
