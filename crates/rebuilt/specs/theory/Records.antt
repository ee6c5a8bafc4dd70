-- The months' words of consecutive suis: those of the suis before a sui, then its own, stand at the front of all. Assumes nothing.
use Rattle.std.specs.Prelude.{◌≡◌, ℕ, zero, suc, ◌*◌, ◌<◌, ◌≤◌, ℤ, ◌+ℤ◌}
use Rattle.std.proofs.Math.Path.{refl, ap}
use Rattle.std.proofs.Common.{sym, ap₂, ◌∙◌, arith, length-take-le}
use mathlib.Core.List.{List, [], ◌∷◌, ◌++◌, append_assoc, append-nil}
use Rattle.std.proofs.Math.IntN.{pos, nat_abs}
use Rattle.std.proofs.Math.ListN.{length, length-append}
use Rattle.whole.specs.Below.{below}
use Rattle.refusals.specs.Verdict.{answered, answers_apart, then_answered, ◌then◌}
use Rattle.inputs.specs.Inputs.{Inputs}
use Rattle.months.specs.declared.Sui.{Sui}
use Rattle.months.specs.Answers.{no_sui}
use Rattle.sui.specs.Sui.{sui_of_year}
use Rattle.content.specs.Content.{count_at, months_before}
use Rattle.built.specs.Build.{months_in, words_of, sui_words, month_words, suis_by, suis_from}
use Rattle.built.specs.theory.Records.{sui_at, none_before, months_more, count_at_lem, sui_has_its_months}
use Rattle.built.specs.theory.Words.{length_words_of, month_words_snoc}
use Rattle.built.specs.theory.Years.{suis_are}

module _ (i : Inputs) (zone first : ℤ) where
  -- ---- the last of some suis, and those before it
  pub record LastOf (n : ℕ) (suis : List Sui) : Type 0 where
    pub before : List Sui
    pub sui : Sui
    pub are_before : suis_from i zone first n ≡ answered before
    pub is_sui : sui_of_year i zone (first +ℤ pos n) ≡ answered sui
    pub words : month_words suis ≡ month_words before ++ words_of (months_in sui)

  pub last_of : (n : ℕ) {suis : List Sui} → suis_from i zone first (suc n) ≡ answered suis → LastOf n suis
  unfolding suis_by
  last_of n {suis} e =
      let found = then_answered (suis_from i zone first n) (λ suis. sui_of_year i zone (first +ℤ pos n) then λ sui. answered (suis ++ (sui ∷ []))) suis e in
      let last = then_answered (sui_of_year i zone (first +ℤ pos n)) (λ sui. answered (found.0 ++ (sui ∷ []))) suis found.2 in
      record {
        before = found.0;
        sui = last.0;
        are_before = found.1;
        is_sui = last.1;
        words = ap month_words (sym (answers_apart last.2)) ∙ month_words_snoc found.0 last.0;
      }

  -- ---- those before sui j, and sui j, at the front of all
  pub words_in_turn : (j n : ℕ) {suis done : List Sui} {sui : Sui} → suis_from i zone first n ≡ answered suis → suis_from i zone first j ≡ answered done → sui_of_year i zone (first +ℤ pos j) ≡ answered sui → j < n → (rest : List ℤ) × (month_words suis ≡ month_words done ++ (words_of (months_in sui) ++ rest))
  words_in_turn j zero e d f h = absurd (omega arith)
  words_in_turn j (suc n) {suis} {done} {sui} e d f h =
      let l = last_of n e in
      let own = words_of (months_in sui) in
      let more = words_of (months_in l.sui) in
      below j n h
      (λ less. let front = words_in_turn j n l.are_before d f less in (
        front.0 ++ more,
        l.words
            ∙ ap (λ (w : List ℤ). w ++ more) front.1
            ∙ append_assoc (month_words done) (own ++ front.0) more
            ∙ ap (λ (w : List ℤ). month_words done ++ w) (append_assoc own front.0 more),
      ))
      (λ q.
      let same : l.before ≡ done = answers_apart (sym l.are_before ∙ ap (suis_from i zone first) (sym q) ∙ d) in
      let last : l.sui ≡ sui = answers_apart (sym l.is_sui ∙ ap (λ (k : ℕ). sui_of_year i zone (first +ℤ pos k)) (sym q) ∙ f) in (
        [],
        l.words
            ∙ ap₂ (λ (before : List Sui) (s : Sui). month_words before ++ words_of (months_in s)) same last
            ∙ ap (λ (w : List ℤ). month_words done ++ w) (sym (append-nil own)),
      ))

  -- ---- the suis of fewer years were found too
  pub fewer_found : (j n : ℕ) {suis : List Sui} → suis_from i zone first n ≡ answered suis → j ≤ n → (done : List Sui) × (suis_from i zone first j ≡ answered done)
  fewer_found j zero {suis} e h = let same : j ≡ 0 = omega arith in (suis, ap (suis_from i zone first) same ∙ e)
  fewer_found j (suc n) {suis} e h = below j (suc n) (omega arith) (λ l. fewer_found j n (last_of n e).are_before (omega arith)) (λ q. (suis, ap (suis_from i zone first) q ∙ e))

  -- ---- three words for each month of a sui, and of the suis before sui j
  pub own_words : (j : ℕ) {sui : Sui} → sui_of_year i zone (first +ℤ pos j) ≡ answered sui → length (words_of (months_in sui)) ≡ 3 * sui.count
  own_words j {sui} f = length_words_of (months_in sui) ∙ ap (λ (n : ℕ). 3 * n) (length-take-le sui.count sui.months (sui_has_its_months i zone (first +ℤ pos j) f))

  pub words_before : (n : ℕ) {suis : List Sui} → suis_from i zone first n ≡ answered suis → (j : ℕ) {done : List Sui} → suis_from i zone first j ≡ answered done → j ≤ n → length (month_words done) ≡ 3 * months_before (sui_words first suis) j
  words_before n {suis} e zero {done} d h =
      let none : [] ≡ done = unfold suis_by in answers_apart d in
      let nothing : length (month_words []) ≡ 0 = unfold month_words in refl in
      omega (arith, ap (λ (suis : List Sui). length (month_words suis)) none, nothing, none_before (sui_words first suis))
  words_before n {suis} e (suc j) {done} d h =
      let s = suis_are i zone first n e in
      let l = last_of j d in
      let before = words_before n e j l.are_before (omega arith) in
      let same : sui_at suis j ≡ l.sui = answers_apart (sym (s.each j (omega arith) no_sui) ∙ l.is_sui) in
      let months : nat_abs (count_at (sui_words first suis) j) ≡ l.sui.count = ap nat_abs (count_at_lem first suis j (omega (arith, s.all))) ∙ ap (λ (s : Sui). s.count) same in
      omega (arith, ap length l.words, length-append (month_words l.before) (words_of (months_in l.sui)), before, own_words j l.is_sui, months, months_more (sui_words first suis) j)
