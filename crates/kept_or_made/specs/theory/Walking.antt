-- A sui put again is the fresh one, whether its months were copied or made; and what the walk over the years holds from year to year. Assumes nothing.
use Rattle.std.specs.Prelude.{◌≡◌, Bool, true, false, cond, ℤ, pos, ◌+ℤ◌, take, drop}
use Rattle.std.proofs.Math.Path.{refl, ap, ap₂}
use Rattle.std.proofs.Common.{sym, ◌∙◌, zero-add}
use mathlib.Core.List.{List, [], ◌∷◌}
use Prim.Native.Nat.{ℕ, zero, suc, ◌+◌, ◌*◌, ◌/◌, ◌≤◌, ◌<◌}
use native.Mathlib.Omega.{arith}
use Rattle.std.proofs.Math.ListN.{length, length-append}
use Rattle.whole.specs.Evaluated.{same_words}
use Rattle.whole.specs.Lists.{placed, placed_none, placed_both}
use Rattle.refusals.specs.Verdict.{Verdict, answered, refused, answers_apart, answer_or_refusal, ◌then◌}
use Rattle.inputs.specs.Inputs.{Inputs}
use Rattle.months.specs.declared.Sui.{Sui}
use Rattle.months.specs.declared.SuiDays.{SuiDays}
use Rattle.months.specs.Months.{sui_of}
use Rattle.months.proofs.theory.Suis.{sui_count_lem}
use Rattle.turns.specs.declared.inner.TurnList.{TurnList}
use Rattle.sui.specs.Sui.{sui_days}
use Rattle.suis.specs.declared.inner.Places.{Places}
use Rattle.built.specs.Build.{suis_from, month_words}
use Rattle.build.specs.theory.Put.{months_of, sui_months}
use Rattle.build.specs.theory.Walk.{Walks, Walked}
use Rattle.kept_or_made.specs.declared.inner.years.Again.{Again}
use Rattle.rebuilt.specs.Rebuild.{days_words}
use Rattle.kept_or_made.specs.Again.{again_count, again_months, months_at_place, year_count, year_months, year_listed, is_same_as, year_again, listed_again, years_again, Copies}

-- ---- one year
module _ (year : ℤ) (before : List ℤ) (file : List ℕ) (at : ℕ) where
  -- where the days are the old ones, the month rule finds a sui, and its months stand in the file
  abbrev pub Kept : Verdict SuiDays → Type 0
  Kept v = (days : SuiDays) → v ≡ answered days → same_words before (days_words days) ≡ true → (sui : Sui) × ((sui_of year days ≡ answered sui) × (months_at_place file at days.months ≡ sui_months sui))

  pub fresh_count : (v : Verdict SuiDays) → Kept v → year_count year v before ≡ months_of (v then sui_of year)
  fresh_count (refused number segment) k = refl
  fresh_count (answered days) k = go (same_words before (days_words days)) refl
    where
      go : (b : Bool) → same_words before (days_words days) ≡ b → again_count b days.months (sui_of year days) ≡ months_of (sui_of year days)
      go true e = let kept = k days refl e in rw kept.1.0 (ap answered (sui_count_lem year days kept.1.0))
      go false e = refl

  pub fresh_months : (v : Verdict SuiDays) → Kept v → year_months year v before file at ≡ (v then sui_of year then λ sui. answered (sui_months sui))
  fresh_months (refused number segment) k = refl
  fresh_months (answered days) k = go (same_words before (days_words days)) refl
    where
      go : (b : Bool) → same_words before (days_words days) ≡ b → again_months b (months_at_place file at days.months) (sui_of year days) ≡ (sui_of year days then λ sui. answered (sui_months sui))
      go true e = let kept = k days refl e in rw kept.1.0 (ap answered kept.1.1)
      go false e = refl

-- what an answer of one year says
pub again_refused : (year : ℤ) (v : Verdict SuiDays) (before : List ℤ) (years : ℕ) {number segment : ℕ} → refused number segment ≡ year_again year v before years → year_count year v before ≡ refused number segment
again_refused year v before years e = go (year_count year v before) e
  where
    go : {number segment : ℕ} (c : Verdict ℕ) → ◌≡◌ {A = Verdict Again} (refused number segment) (c then λ months. answered (record { months = months; years = years + length (year_listed year v before) })) → c ≡ refused number segment
    go (answered n) e = answer_or_refusal (sym e)
    go (refused number segment) e = cc

pub again_answered : (year : ℤ) (v : Verdict SuiDays) (before : List ℤ) (years : ℕ) {a : Again} → answered a ≡ year_again year v before years → (year_count year v before ≡ answered a.months) × (a.years ≡ years + length (year_listed year v before))
again_answered year v before years {a} e = go (year_count year v before) e
  where
    go : (c : Verdict ℕ) → answered a ≡ (c then λ months. answered (record { months = months; years = years + length (year_listed year v before) })) → (c ≡ answered a.months) × (a.years ≡ years + length (year_listed year v before))
    go (answered n) e = let same = answers_apart e in (ap answered (sym (ap (λ (x : Again). x.months) same)), ap (λ (x : Again). x.years) same)
    go (refused number segment) e = answer_or_refusal e

-- ---- the listed years
module _ (i : Inputs) (zone first : ℤ) (before : List ℤ) where
  abbrev listed_at : ℕ → List ℤ
  listed_at j = year_listed (first +ℤ pos j) (sui_days i zone (first +ℤ pos j)) (take 28 (drop (28 * j) before))

  one_at_most : (j : ℕ) → length (listed_at j) ≤ 1
  one_at_most j = go (is_same_as (sui_days i zone (first +ℤ pos j)) (take 28 (drop (28 * j) before)))
    where
      go : (b : Bool) → length (cond b ((first +ℤ pos j) ∷ []) []) ≤ 1
      go true = omega arith
      go false = omega arith

  pub listed_few : (j : ℕ) → length (listed_again i zone first before j) ≤ j
  unfolding listed_again
  listed_few zero = omega arith
  listed_few (suc j) = omega (arith, length-append (listed_again i zone first before j) (listed_at j), listed_few j, one_at_most j)

  pub none_listed : (l : List ℤ) → l ≡ placed 0 (listed_again i zone first before 0) l
  unfolding listed_again
  none_listed l = placed_none l 0

  pub none_counted : 0 ≡ length (listed_again i zone first before 0)
  unfolding listed_again
  none_counted = refl

  pub year_listed_lem : (l : List ℤ) (j : ℕ) {now : List ℤ} → j < length l → now ≡ placed 0 (listed_again i zone first before j) l → placed (length (listed_again i zone first before j)) (listed_at j) now ≡ placed 0 (listed_again i zone first before (j + 1)) l
  unfolding listed_again
  year_listed_lem l j {now} room e =
      let so_far = listed_again i zone first before j in
      let next : suc j ≡ j + 1 = omega arith in
      ap₂ (λ (k : ℕ) (x : List ℤ). placed k (listed_at j) x) (sym (zero-add (length so_far))) e
      ∙ placed_both l so_far 0 (listed_at j) (omega (arith, listed_few j, one_at_most j))
      ∙ ap (λ (k : ℕ). placed 0 (listed_again i zone first before k) l) next

  pub more_listed : (j : ℕ) → length (listed_again i zone first before (j + 1)) ≡ length (listed_again i zone first before j) + length (listed_at j)
  unfolding listed_again
  more_listed j = let next : j + 1 ≡ suc j = omega arith in ap (λ (k : ℕ). length (listed_again i zone first before k)) next ∙ length-append (listed_again i zone first before j) (listed_at j)

-- ---- what the loop over the years holds, before year j
pub record AtAgain (i : Inputs) (zone : ℤ) (suns moons : TurnList) (first : ℤ) (n : ℕ) (solstices newmoons zhongqi before : List ℤ) (file : List ℕ) (at : ℕ) (suis₀ months₀ kept₀ : List ℤ) (place j from copied years : ℕ) (suis months kept : List ℤ) : Type 0 where
  pub places : Places
  pub walks : Walks i zone suns moons places first n solstices newmoons zhongqi
  pub is_place : places.solstice ≡ place
  pub copies : Copies i zone first n before file at
  pub walked : Walked i zone places first suis₀ months₀ j from suis months
  pub is_copied : copied ≡ copies.months_before j
  pub is_years : years ≡ length (listed_again i zone first before j)
  pub listed : kept ≡ placed 0 (listed_again i zone first before j) kept₀
  pub in_turn : j ≤ n

-- where the loop stops
pub years_stop : (i : Inputs) (zone first : ℤ) (before : List ℤ) (n : ℕ) {number segment : ℕ} → suis_from i zone first n ≡ refused number segment → refused number segment ≡ years_again i zone first before n
years_stop i zone first before n e = rw e

pub years_end : (i : Inputs) (zone first : ℤ) (before : List ℤ) (n : ℕ) {suis : List Sui} {from years : ℕ} → suis_from i zone first n ≡ answered suis → length (month_words suis) ≡ 3 * from → years ≡ length (listed_again i zone first before n) → answered (record { months = from; years = years }) ≡ years_again i zone first before n
years_end i zone first before n {suis} {from} {years} e c y =
    rw e (ap answered both)
  where
    third : from ≡ length (month_words suis) / 3
    third = omega (arith, c)

    both : ◌≡◌ {A = Again} (record { months = from; years = years }) (record { months = length (month_words suis) / 3; years = length (listed_again i zone first before n) })
    both = λ t. record { months = third t; years = y t }

-- what the walk's answer says
pub years_refused : (i : Inputs) (zone first : ℤ) (before : List ℤ) (n : ℕ) {number segment : ℕ} → refused number segment ≡ years_again i zone first before n → suis_from i zone first n ≡ refused number segment
years_refused i zone first before n e = go (suis_from i zone first n) e
  where
    go : (v : Verdict (List Sui)) {number segment : ℕ} → ◌≡◌ {A = Verdict Again} (refused number segment) (v then λ suis. answered (record { months = length (month_words suis) / 3; years = length (listed_again i zone first before n) })) → v ≡ refused number segment
    go (answered suis) e = answer_or_refusal (sym e)
    go (refused number segment) e = cc

pub record YearsFound (i : Inputs) (zone first : ℤ) (before : List ℤ) (n : ℕ) (a : Again) : Type 0 where
  pub suis : List Sui
  pub found : suis_from i zone first n ≡ answered suis
  pub so_many_months : length (month_words suis) / 3 ≡ a.months
  pub so_many_years : length (listed_again i zone first before n) ≡ a.years

pub years_found : (i : Inputs) (zone first : ℤ) (before : List ℤ) (n : ℕ) {a : Again} → answered a ≡ years_again i zone first before n → YearsFound i zone first before n a
years_found i zone first before n {a} e = go (suis_from i zone first n) refl e
  where
    go : (v : Verdict (List Sui)) → suis_from i zone first n ≡ v → answered a ≡ (v then λ suis. answered (record { months = length (month_words suis) / 3; years = length (listed_again i zone first before n) })) → YearsFound i zone first before n a
    go (answered suis) q e = let same = answers_apart e in record { suis = suis; found = q; so_many_months = sym (ap (λ (x : Again). x.months) same); so_many_years = sym (ap (λ (x : Again). x.years) same) }
    go (refused number segment) q e = answer_or_refusal e
