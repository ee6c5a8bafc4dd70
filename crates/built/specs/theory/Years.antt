-- The suis of consecutive years: one more year's sui comes behind them, the first refusal is that of the whole, and each of them is the sui of its year.
-- Assumes nothing.
use Rattle.std.specs.Prelude.{◌≡◌, refl, ℤ, ◌+ℤ◌, length, get_or}
use Rattle.std.proofs.Math.Path.{sym, ap}
use Rattle.std.proofs.Common.{◌∙◌, arith}
use mathlib.Core.List.{List, [], ◌∷◌, ◌++◌}
use Prim.Native.Nat.{ℕ, zero, suc, ◌<◌}
use Rattle.std.proofs.Math.IntN.{pos}
use Rattle.std.proofs.Math.ListN.{length-append, get_or-append}
use Rattle.std.proofs.lemmas.List.{get_or_at}
use Rattle.whole.specs.Below.{below}
use Rattle.refusals.specs.Verdict.{answered, refused, then_answered, answers_apart, ◌then◌}
use Rattle.inputs.specs.Inputs.{Inputs}
use Rattle.sui.specs.Sui.{sui_of_year}
use Rattle.months.specs.declared.Sui.{Sui}
use Rattle.built.specs.Build.{suis_from, suis_by}

module _ (i : Inputs) (zone first : ℤ) where
  -- ---- one more year
  pub suis_next : (n : ℕ) {suis : List Sui} {sui : Sui} → suis_from i zone first n ≡ answered suis → sui_of_year i zone (first +ℤ pos n) ≡ answered sui → suis_from i zone first (suc n) ≡ answered (suis ++ (sui ∷ []))
  unfolding suis_by
  suis_next n e f = rw (e, f)

  -- the sui of year j is refused, and those before it are not: then the whole is refused with it
  pub suis_refused : (j n : ℕ) {suis : List Sui} {number segment : ℕ} → suis_from i zone first j ≡ answered suis → sui_of_year i zone (first +ℤ pos j) ≡ refused number segment → j < n → suis_from i zone first n ≡ refused number segment
  unfolding suis_by
  suis_refused j zero e f h = absurd (omega arith)
  suis_refused j (suc n) {suis} {number} {segment} e f h = below j n h (λ l. rw (suis_refused j n {suis = suis} e f l)) (λ q. here (rw q at e) (rw q at f))
    where
      here : suis_from i zone first n ≡ answered suis → sui_of_year i zone (first +ℤ pos n) ≡ refused number segment → (suis_from i zone first n then λ suis. sui_of_year i zone (first +ℤ pos n) then λ sui. answered (suis ++ (sui ∷ []))) ≡ refused number segment
      here e f = rw (e, f)

  -- ---- what answered suis are: as many as years, and the j-th is the sui of year j
  pub record SuisOf (n : ℕ) (suis : List Sui) : Type 0 where
    pub all : length suis ≡ n
    pub each : (j : ℕ) → j < n → (d : Sui) → sui_of_year i zone (first +ℤ pos j) ≡ answered (get_or suis j d)

  pub suis_are : (n : ℕ) {suis : List Sui} → suis_from i zone first n ≡ answered suis → SuisOf n suis
  unfolding suis_by
  suis_are zero e = rw (← answers_apart e) (record { all = refl; each = λ j h d. absurd (omega arith) })
  suis_are (suc n) {suis} e =
      let before = then_answered (suis_from i zone first n) (λ suis. sui_of_year i zone (first +ℤ pos n) then λ sui. answered (suis ++ (sui ∷ []))) suis e in
      let last = then_answered (sui_of_year i zone (first +ℤ pos n)) (λ sui. answered (before.0 ++ (sui ∷ []))) suis before.2 in
      rw (← answers_apart last.2) (joined before.0 last.0 (suis_are n before.1) last.1)
    where
      joined : (suis : List Sui) (sui : Sui) → SuisOf n suis → sui_of_year i zone (first +ℤ pos n) ≡ answered sui → SuisOf (suc n) (suis ++ (sui ∷ []))
      joined suis sui s f =
          let long = s.all in
          record {
            all = length-append suis (sui ∷ []) ∙ omega arith;
            each = λ j h d. below j n h
                (λ l. s.each j l d ∙ ap answered (sym (get_or-append suis (sui ∷ []) d j (omega arith))))
                (λ q. ap (λ (k : ℕ). sui_of_year i zone (first +ℤ pos k)) q ∙ f ∙ ap answered (sym (get_or_at suis sui [] d j (long ∙ sym q))));
          }
