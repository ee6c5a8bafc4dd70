-- What stands in the records of suis that were found: year and number of months of the j-th, and its months, behind those of the suis before it. Assumes nothing.
use Rattle.std.specs.Prelude.{◌≡◌, List, [], ◌∷◌, ◌++◌, ℕ, zero, suc, ◌+◌, ◌-◌, ◌*◌, ◌≤◌, ◌<◌, ℤ, pos, nat_abs, ◌+ℤ◌, length, get_or, replicate}
use Rattle.std.proofs.Math.Path.{refl}
use Rattle.std.proofs.Common.{sym, ap, ◌∙◌, arith, length-append, get_or-take, get_or-append-add, length-take-le}
use Rattle.whole.specs.Distance.{next}
use Rattle.whole.specs.Solver.{⇑, ring}
use Rattle.whole.specs.Tabulated.{tabulate, length_tabulate}
use Rattle.refusals.specs.Verdict.{answered, then_answered}
use Rattle.inputs.specs.Inputs.{Inputs}
use Rattle.months.specs.declared.Month.{Month}
use Rattle.months.specs.declared.SuiDays.{SuiDays}
use Rattle.months.specs.declared.Sui.{Sui}
use Rattle.months.specs.Handles.{no_month}
use Rattle.months.specs.Months as Months
use Rattle.months.specs.Months.{numbered, sui_of}
use Rattle.months.specs.Answers.{no_sui}
use Rattle.months.proofs.theory.Suis.{month, sui_is}
use Rattle.sui.specs.Sui.{sui_days, sui_of_year}
use Rattle.content.specs.Content.{year_at, count_at, month_at, months_before}
use Rattle.built.specs.Build.{months_in, words_of, sui_words, month_words}
use Rattle.built.specs.theory.Words.{length_words_of}
use Rattle.built.specs.theory.Years.{SuisOf}

-- the j-th of some suis
abbrev pub sui_at : List Sui → ℕ → Sui
sui_at suis j = get_or suis j no_sui

-- ---- one record further is two words further
year_behind : (x y : ℤ) (words : List ℤ) (j : ℕ) → year_at (x ∷ y ∷ words) (suc j) ≡ year_at words j
year_behind x y words j = let e : 2 * suc j ≡ suc (suc (2 * j)) = omega arith in rw e

count_behind : (x y : ℤ) (words : List ℤ) (j : ℕ) → count_at (x ∷ y ∷ words) (suc j) ≡ count_at words j
count_behind x y words j = let e : 2 * suc j + 1 ≡ suc (suc (2 * j + 1)) = omega arith in rw e

-- ---- suis
pub year_at_lem : (first : ℤ) (suis : List Sui) (j : ℕ) → j < length suis → year_at (sui_words first suis) j ≡ first +ℤ pos j
unfolding sui_words
year_at_lem first [] j h = absurd (omega arith)
year_at_lem first (sui ∷ suis) zero h = ⇑ (first ∷ []) (search ring depth 9) refl
year_at_lem first (sui ∷ suis) (suc j) h = year_behind first (pos sui.count) (sui_words (first +ℤ pos 1) suis) j ∙ year_at_lem (first +ℤ pos 1) suis j (omega arith) ∙ sym (next first j)

pub count_at_lem : (first : ℤ) (suis : List Sui) (j : ℕ) → j < length suis → count_at (sui_words first suis) j ≡ pos (sui_at suis j).count
unfolding sui_words
count_at_lem first [] j h = absurd (omega arith)
count_at_lem first (sui ∷ suis) zero h = refl
count_at_lem first (sui ∷ suis) (suc j) h = count_behind first (pos sui.count) (sui_words (first +ℤ pos 1) suis) j ∙ count_at_lem (first +ℤ pos 1) suis j (omega arith)

-- ---- months
pub none_before : (words : List ℤ) → months_before words 0 ≡ 0
unfolding months_before
none_before words = refl

pub months_more : (words : List ℤ) (j : ℕ) → months_before words (suc j) ≡ months_before words j + nat_abs (count_at words j)
unfolding months_before
months_more words j = refl

-- the months of more than one sui: those of the first, and those behind
before_behind : (x y : ℤ) (words : List ℤ) (j : ℕ) → months_before (x ∷ y ∷ words) (suc j) ≡ nat_abs y + months_before words j
unfolding months_before
before_behind x y words zero = omega arith
before_behind x y words (suc j) = omega (arith, before_behind x y words j, ap nat_abs (count_behind x y words j))

-- month k of some, and of those behind them
month_here : (months : List Month) (rest : List ℤ) (k : ℕ) → k < length months → month_at (words_of months ++ rest) k ≡ get_or months k no_month
unfolding words_of
month_here [] rest k h = absurd (omega arith)
month_here (m ∷ months) rest zero h = refl
month_here (m ∷ months) rest (suc k) h =
    let a : 3 * suc k ≡ suc (suc (suc (3 * k))) = omega arith in
    let b : 3 * suc k + 1 ≡ suc (suc (suc (3 * k + 1))) = omega arith in
    let d : 3 * suc k + 2 ≡ suc (suc (suc (3 * k + 2))) = omega arith in
    rw (d, b, a) (month_here months rest k (omega arith))

month_behind : (months : List Month) (rest : List ℤ) (k : ℕ) → month_at (words_of months ++ rest) (length months + k) ≡ month_at rest k
month_behind months rest k =
    let long = length_words_of months in
    let a : 3 * (length months + k) ≡ length (words_of months) + 3 * k = omega arith in
    let b : 3 * (length months + k) + 1 ≡ length (words_of months) + (3 * k + 1) = omega arith in
    let d : 3 * (length months + k) + 2 ≡ length (words_of months) + (3 * k + 2) = omega arith in
    rw (d, b, a, get_or-append-add (words_of months) rest (3 * k) (pos 0), get_or-append-add (words_of months) rest (3 * k + 1) (pos 0), get_or-append-add (words_of months) rest (3 * k + 2) (pos 0))

-- an answered sui has as many months as it says; so have those of consecutive years
pub has_its_months : (year : ℤ) (days : SuiDays) {sui : Sui} → sui_of year days ≡ answered sui → sui.count ≤ length sui.months
unfolding numbered
has_its_months year days e =
    rw (← sui_is year days e)
    (omega (arith, length-append (tabulate (Months.month_at year days) days.months) (replicate (13 - days.months) no_month), length_tabulate (Months.month_at year days) days.months))

pub sui_has_its_months : (i : Inputs) (zone year : ℤ) {sui : Sui} → sui_of_year i zone year ≡ answered sui → sui.count ≤ length sui.months
sui_has_its_months i zone year {sui} e = let made = then_answered (sui_days i zone year) (sui_of year) sui e in has_its_months year made.0 made.2

abbrev pub Whole : List Sui → Type 0
Whole suis = (j : ℕ) → j < length suis → (sui_at suis j).count ≤ length (sui_at suis j).months

pub suis_whole : (i : Inputs) (zone first : ℤ) (n : ℕ) (suis : List Sui) → SuisOf i zone first n suis → Whole suis
suis_whole i zone first n suis s j h =
    let all = s.all in
    sui_has_its_months i zone (first +ℤ pos j) (s.each j (omega arith) no_sui)

pub month_at_lem : (first : ℤ) (suis : List Sui) → Whole suis → (j : ℕ) → j < length suis → (place : ℕ) → place < (sui_at suis j).count → month_at (month_words suis) (months_before (sui_words first suis) j + place) ≡ month (sui_at suis j) place
unfolding sui_words month_words
month_at_lem first [] w j h place l = absurd (omega arith)
month_at_lem first (sui ∷ suis) w zero h place l =
    let whole = length-take-le sui.count sui.months (w 0 (omega arith)) in
    let none = none_before (first ∷ pos sui.count ∷ sui_words (first +ℤ pos 1) suis) in
    let at : months_before (first ∷ pos sui.count ∷ sui_words (first +ℤ pos 1) suis) 0 + place ≡ place = omega arith in
    ap (month_at (words_of (months_in sui) ++ month_words suis)) at ∙ month_here (months_in sui) (month_words suis) place (omega arith) ∙ get_or-take sui.count sui.months place no_month l
month_at_lem first (sui ∷ suis) w (suc j) h place l =
    let whole = length-take-le sui.count sui.months (w 0 (omega arith)) in
    let rest = sui_words (first +ℤ pos 1) suis in
    let before = before_behind first (pos sui.count) rest j in
    let at : months_before (first ∷ pos sui.count ∷ rest) (suc j) + place ≡ length (months_in sui) + (months_before rest j + place) = omega arith in
    ap (month_at (words_of (months_in sui) ++ month_words suis)) at
    ∙ month_behind (months_in sui) (month_words suis) (months_before rest j + place)
    ∙ month_at_lem (first +ℤ pos 1) suis (λ k m. w (suc k) (omega arith)) j (omega arith) place l

-- all of them
pub length_month_words : (first : ℤ) (suis : List Sui) → Whole suis → length (month_words suis) ≡ 3 * months_before (sui_words first suis) (length suis)
unfolding sui_words month_words
length_month_words first [] w = unfold months_before in refl
length_month_words first (sui ∷ suis) w =
    let whole = length-take-le sui.count sui.months (w 0 (omega arith)) in
    omega (
      arith,
      length-append (words_of (months_in sui)) (month_words suis),
      length_words_of (months_in sui),
      before_behind first (pos sui.count) (sui_words (first +ℤ pos 1) suis) (length suis),
      length_month_words (first +ℤ pos 1) suis (λ k m. w (suc k) (omega arith)),
    )
