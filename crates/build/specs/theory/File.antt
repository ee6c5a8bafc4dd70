-- From the words of the suis that were found to the file: they are a lawful content, and its bytes are those of the years. Assumes nothing.
use Rattle.std.specs.Prelude.{◌≡◌, true, List, [], ◌∷◌, ◌++◌, ℕ, zero, suc, ◌+◌, ◌*◌, ◌/◌, ◌≤◌, ◌<◌, ℤ, ◌+ℤ◌, length, take, drop}
use Rattle.std.proofs.Math.Path.{refl}
use Rattle.std.proofs.Common.{sym, ap, ◌∙◌, arith, length-append, take_at, length-take-le}
use Rattle.std.proofs.Math.IntN.{pos}
use Rattle.whole.specs.Ranges.{Within}
use Rattle.whole.specs.Solver.{⇑, ring}
use Rattle.refusals.specs.Verdict.{Verdict, answered, refused, ◌then◌, then_answered, answers_apart, answer_or_refusal}
use Rattle.refusals.specs.Lent.{written_into}
use Rattle.inputs.specs.Inputs.{Inputs}
use Rattle.inputs.specs.Known.{Known}
use Rattle.months.specs.declared.Sui.{Sui}
use Rattle.sui.specs.Sui.{sui_of_year}
use Rattle.suis.specs.theory.Next.{next_year}
use Rattle.content.specs.Content.{content, lawful}
use Rattle.almanac.specs.Answers.{bytes_into, bytes_counted, all_bytes}
use Rattle.built.specs.Build.{suis_from, words_of, months_in as months_of, sui_words, month_words, bytes_of_years, bytes_by, content_by, suis_by}
use Rattle.build.specs.theory.Put.{months_in}
use Rattle.built.specs.theory.Words.{length_sui_words, length_words_of, month_words_snoc}
use Rattle.built.specs.theory.Years.{SuisOf, suis_are, suis_refused}
use Rattle.built.specs.theory.Records.{sui_has_its_months, suis_whole, length_month_words}
use Rattle.built.specs.theory.Lawful.{content_is_lawful}

-- ---- what the number of months tells
pub years_refused : (v : Verdict (List Sui)) {number segment : ℕ} → refused number segment ≡ months_in v → v ≡ refused number segment
years_refused (answered suis) e = answer_or_refusal (sym e)
years_refused (refused number segment) e = cc

pub years_found : (v : Verdict (List Sui)) {count : ℕ} → answered count ≡ months_in v → (suis : List Sui) × (v ≡ answered suis) × (length (month_words suis) / 3 ≡ count)
years_found (answered suis) e = (suis, refl, sym (answers_apart e))
years_found (refused number segment) e = answer_or_refusal e

-- n suis have at most 13 n months
pub months_few : (i : Inputs) (zone first : ℤ) → Known i → (n : ℕ) {suis : List Sui} → suis_from i zone first n ≡ answered suis → length (month_words suis) ≤ 39 * n
unfolding suis_by month_words
months_few i zone first known zero {suis} e = let none : [] ≡ suis = answers_apart e in rw (← none) (omega arith)
months_few i zone first known (suc n) {suis} e =
    let last = then_answered (suis_from i zone first n) (λ before. sui_of_year i zone (first +ℤ pos n) then λ sui. answered (before ++ (sui ∷ []))) suis e in
    let one = then_answered (sui_of_year i zone (first +ℤ pos n)) (λ sui. answered (last.0 ++ (sui ∷ []))) suis last.2 in
    let sui = one.0 in
    let has : length (words_of (months_of sui)) ≡ 3 * sui.count = length_words_of (months_of sui) ∙ ap (λ (k : ℕ). 3 * k) (length-take-le sui.count sui.months (sui_has_its_months i zone (first +ℤ pos n) one.1)) in
    let all : length (month_words suis) ≡ length (month_words last.0) + length (words_of (months_of sui)) = ap (λ (l : List Sui). length (month_words l)) (sym (answers_apart one.2)) ∙ ap length (month_words_snoc last.0 sui) ∙ length-append (month_words last.0) (words_of (months_of sui)) in
    omega (arith, all, has, (next_year i zone known (first +ℤ pos n) one.1).thirteen_at_most, months_few i zone first known n last.1)

module _ (i : Inputs) (zone first : ℤ) (n : ℕ) (file : List ℕ) where
  -- the two promises of building the years
  abbrev pub Promises : Verdict ℕ → List ℕ → Type 0
  Promises v last = (v ≡ bytes_counted (bytes_of_years i zone first n (length file))) × (last ≡ written_into (bytes_of_years i zone first n (length file)) all_bytes file)

  pub years_stop : {number segment : ℕ} → suis_from i zone first n ≡ refused number segment → Promises (refused number segment) file
  unfolding bytes_by content_by
  years_stop e = rw e (refl, refl)

  -- where the first sui cannot begin
  pub first_stops : {number segment : ℕ} → 0 < n → sui_of_year i zone first ≡ refused number segment → Promises (refused number segment) file
  unfolding suis_by
  first_stops some e =
      let here : first +ℤ pos 0 ≡ first = ⇑ (first ∷ []) (search ring depth 9) refl in
      years_stop (suis_refused i zone first 0 n refl (ap (sui_of_year i zone) here ∙ e) some)

  module _ {suis : List Sui} (found : suis_from i zone first n ≡ answered suis) where
    each : SuisOf i zone first n suis
    each = suis_are i zone first n found

    pub sui_length : length (sui_words first suis) ≡ 2 * n
    sui_length = length_sui_words first suis ∙ ap (λ (k : ℕ). 2 * k) each.all

    -- the words of the suis stand in front
    pub front_suis : {l : List ℤ} (l₀ : List ℤ) → l ≡ sui_words first suis ++ drop (length (sui_words first suis)) l₀ → take (2 * n) l ≡ sui_words first suis
    front_suis {l} l₀ e = ap (take (2 * n)) e ∙ take_at (sui_words first suis) (drop (length (sui_words first suis)) l₀) (2 * n) sui_length

    -- and those of their months
    pub month_length_lem : {m : ℕ} → length (month_words suis) / 3 ≡ m → length (month_words suis) ≡ 3 * m
    month_length_lem e = omega (arith, length_month_words first suis (suis_whole i zone first n suis each))

    pub front_months : {m : ℕ} {l : List ℤ} (l₀ : List ℤ) → length (month_words suis) / 3 ≡ m → l ≡ month_words suis ++ drop (length (month_words suis)) l₀ → take (3 * m) l ≡ month_words suis
    front_months {m} {l} l₀ c e = ap (take (3 * m)) e ∙ take_at (month_words suis) (drop (length (month_words suis)) l₀) (3 * m) (month_length_lem c)

    module _ {s m : List ℤ} (are_suis : s ≡ sui_words first suis) (are_months : m ≡ month_words suis) where
      pub words_lawful : Known i → Within 1000 zone → 0 < n → n ≤ 128 → lawful (content i.leap s m) ≡ true
      words_lawful k small some few = rw (are_suis, are_months) (content_is_lawful i zone k small first n suis each some few)

      pub words_written : {v : Verdict ℕ} {last : List ℕ} → (v ≡ bytes_counted (bytes_into (content i.leap s m) (length file))) × (last ≡ written_into (bytes_into (content i.leap s m) (length file)) all_bytes file) → Promises v last
      unfolding bytes_by content_by
      words_written p = rw (found, ← are_suis, ← are_months) p
