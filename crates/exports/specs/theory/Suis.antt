-- The months of a sui: a sui has all the months that it counts, and the segment of a refusal fits a word; what storing them says of each case. Assumes nothing but
-- what a statement says itself.
use Rattle.std.specs.Prelude.{◌≡◌, refl, not, List, [], ◌∷◌, ◌++◌, ℕ, ◌+◌, ◌*◌, ◌^◌, ◌<◌, ◌≤◌, ltb, ℤ, ◌-ℤ◌, Result, Ok, Err}
use Rattle.std.proofs.Math.Path.{ap}
use Rattle.std.proofs.Common.{◌∙◌, length-append, length-take-le}
use borrow.Author.Tests.{lt-ltb, le-ltb}
use native.Mathlib.Omega.{arith}
use Rattle.std.proofs.Math.IntN.{pos}
use Rattle.std.proofs.Math.ListN.{length, drop}
use Rattle.whole.specs.Lists.{placed}
use Rattle.whole.specs.Tabulated.{length_tabulate}
use Rattle.refusals.specs.declared.Refusal.{Refusal}
use Rattle.refusals.specs.Verdict.{Verdict, answered, refused, refusal, paper}
use Rattle.refusals.specs.Lent.{written_into}
use Rattle.marks.specs.Marks.{Mark}
use Rattle.marks.specs.Listed.{listed_marks}
use Rattle.inputs.specs.Inputs.{Inputs, sun, moon}
use Rattle.months.specs.declared.SuiDays.{SuiDays}
use Rattle.months.specs.declared.Sui.{Sui}
use Rattle.months.specs.Months.{moon_missing, twelve_or_thirteen, month_count, first_bad_month, lengths_judged, numbered, days_of, sui_of, sui_in}
use Rattle.months.specs.Limits.{year_in_range, lists_kept, months_of}
use Rattle.months.proofs.Theorems.{accepted_is_sui}
use Rattle.months.proofs.theory.Days.{found_twelve}
use Rattle.months.proofs.theory.Listed.{at_most_thirteen}
use Rattle.months.proofs.theory.Suis.{IsSui, days_of_sui, sui_is}
use Rattle.sui.specs.Sui.{one_solstice, solstices_of, new_moon_days_of, zhongqi_days_of, days_by_marks, sui_days, sui_of_year, sui_for}
use Rattle.sui.proofs.Theorems.{answered_is_sui}
use Rattle.built.specs.Build.{months_in}
use Rattle.built.specs.theory.Words.{length_words_of}
use Rattle.answers.specs.Months.{sui_words, sui_into}
use Rattle.answers.specs.Fits.{Fits, none, sui_size, answer, test, ◌and◌, and_then}
use Rattle.exports.specs.theory.Sky.{inputs_fit_in}

-- ---- what storing asks
pub record Whole (sui : Sui) : Type 0 where
  pub few : sui.count ≤ 13
  pub has_months : sui.count ≤ length sui.months

pub record Storable (v : Verdict Sui) : Type 0 where
  pub fits : Fits none v
  pub whole : (sui : Sui) → v ≡ answered sui → Whole sui

has_all : {year : ℤ} {moons zhongqi : List ℤ} {sui : Sui} → IsSui year moons zhongqi sui → Whole sui
unfolding numbered
has_all {year} {moons} {zhongqi} {sui} s =
    let made = days_of_sui year moons zhongqi s.rule in
    let days = made.0 in
    let few = at_most_thirteen days.months (found_twelve moons zhongqi made.1) in
    rw (← sui_is year days made.2) (record { few = few.1; has_months = simp (length-append, length_tabulate) (omega arith) })

-- ---- refusals by 8 to 10 name no segment
days_fit : (moons zhongqi : List ℤ) → Fits none (days_of moons zhongqi)
unfolding days_of
days_fit moons zhongqi = test (moon_missing moons zhongqi) 8 tt and test (not (twelve_or_thirteen (month_count moons zhongqi))) 9 tt and answer (omega arith)

sui_of_fits : (year : ℤ) (days : SuiDays) → Fits none (sui_of year days)
unfolding sui_of lengths_judged
sui_of_fits year days = test (ltb (first_bad_month days) days.months) 10 tt and answer (omega arith)

months_fit : (year : ℤ) (moons zhongqi : List ℤ) → Fits none (months_of year moons zhongqi)
unfolding months_of sui_in
months_fit year moons zhongqi = test (not (lists_kept year moons zhongqi)) 8 tt and and_then (days_fit moons zhongqi) (sui_of_fits year)

solstice_fits : (marks : List Mark) → Fits none (one_solstice marks)
unfolding one_solstice
solstice_fits [] = record { small = omega arith; numbered = tt }
solstice_fits (m ∷ []) = answer (omega arith)
solstice_fits (m ∷ n ∷ marks) = record { small = omega arith; numbered = tt }

module _ (i : Inputs) (zone : ℤ) where
  pub sui_of_year_fits : (year : ℤ) → Fits none (sui_of_year i zone year)
  unfolding sui_days days_by_marks
  sui_of_year_fits year =
      and_then
      (test (not (year_in_range year)) 8 tt
      and and_then (solstice_fits (solstices_of i.leap zone (listed_marks (sun i)) (year -ℤ pos 1)))
      (λ first. and_then (solstice_fits (solstices_of i.leap zone (listed_marks (sun i)) year))
      (λ last. days_fit (new_moon_days_of i.leap zone (listed_marks (moon i))) (zhongqi_days_of i.leap zone (listed_marks (sun i)) first last))))
      (sui_of_fits year)

  sui_fits : length i.sun_coefs < 2 ^ 63 → length i.moon_coefs < 2 ^ 63 → (year : ℤ) → Fits none (sui_for i zone year)
  unfolding sui_for
  sui_fits h k year = inputs_fit_in i zone h k and sui_of_year_fits year

-- ---- so what is found can be stored
pub months_storable : (year : ℤ) (moons zhongqi : List ℤ) → Storable (months_of year moons zhongqi)
months_storable year moons zhongqi = record { fits = months_fit year moons zhongqi; whole = λ sui e. has_all (accepted_is_sui year moons zhongqi e) }

pub sui_storable : (i : Inputs) → length i.sun_coefs < 2 ^ 63 → length i.moon_coefs < 2 ^ 63 → (zone year : ℤ) → Storable (sui_for i zone year)
sui_storable i h k zone year = record { fits = sui_fits i zone h k year; whole = λ sui e. has_all (answered_is_sui i zone year e).is_sui }

-- and what is stored has a record
pub stored_fits : {v : Verdict Sui} → Storable v → (room : ℕ) → Fits sui_size (sui_into v room)
unfolding sui_into
stored_fits {v = answered sui} s room = test (ltb room (length (sui_words sui))) 12 tt and answer (omega (arith, (s.whole sui refl).few))
stored_fits {v = refused number segment} s room = record { small = s.fits.small; numbered = s.fits.numbered }

-- ---- storing, case by case
pub word_count : (sui : Sui) → Whole sui → length (sui_words sui) ≡ 3 * sui.count
word_count sui w = length_words_of (months_in sui) ∙ ap (λ (n : ℕ). 3 * n) (length-take-le sui.count sui.months w.has_months)

module _ (found : Result Sui Refusal) (out : List ℤ) where
  abbrev pub Promises : Verdict Sui → List ℤ → Type 0
  Promises stored last = (stored ≡ sui_into (paper found) (length out)) × (last ≡ written_into (sui_into (paper found) (length out)) sui_words out)

  -- what was found is a refusal
  pub store_refused : (r : Refusal) → found ≡ Err r → Promises (refusal r) out
  unfolding sui_into
  store_refused r e = rw e (refl, refl)

  -- or a sui, for which there is room or not
  module _ (sui : Sui) (is_found : found ≡ Ok sui) (s : Storable (paper found)) where
    pub is_whole : Whole sui
    is_whole = s.whole sui (rw is_found)

    pub store_short : length out < 3 * sui.count → Promises (refused 12 0) out
    unfolding sui_into
    store_short h =
        let many = word_count sui is_whole in
        let short = lt-ltb (length out) (length (sui_words sui)) (omega arith) in
        rw (is_found, short) (refl, refl)

    pub store_all : {last : List ℤ} → 3 * sui.count ≤ length out → last ≡ placed 0 (sui_words sui) out → Promises (answered sui) last
    unfolding sui_into
    store_all h p =
        let many = word_count sui is_whole in
        let fits = le-ltb (length out) (length (sui_words sui)) (omega arith) in
        let behind : 0 + length (sui_words sui) ≡ length (sui_words sui) = omega arith in
        rw (is_found, fits) (refl, p ∙ ap (λ (n : ℕ). sui_words sui ++ drop n out) behind)
