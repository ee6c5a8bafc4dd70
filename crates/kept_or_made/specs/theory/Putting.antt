-- What is put where: one word, and the promises of putting a sui again, case by case. Assumes nothing.
use Rattle.std.specs.Prelude.{◌≡◌, refl, Bool, true, false, cond, List, [], ◌∷◌, ◌++◌, ℕ, suc, ◌+◌, ◌<◌, ℤ, pos, length, set, take, drop}
use Rattle.std.proofs.Common.{sym, ap, ◌∙◌, arith}
use Rattle.std.proofs.Math.Seq.{append_snoc}
use Rattle.std.proofs.lemmas.List.{set_split}
use Rattle.whole.specs.Lists.{placed, placed_none}
use Rattle.whole.specs.Evaluated.{same_words}
use Rattle.refusals.specs.Verdict.{Verdict, answered, refused, refused_then, answered_then, answer_or_refusal}
use Rattle.months.specs.declared.Sui.{Sui}
use Rattle.months.specs.declared.SuiDays.{SuiDays}
use Rattle.months.specs.Months.{sui_of}
use Rattle.build.specs.theory.Put.{year_words, sui_months}
use Rattle.kept_or_made.specs.declared.inner.years.Again.{Again}
use Rattle.rebuilt.specs.Rebuild.{days_words}
use Rattle.kept_or_made.specs.Again.{again_count, again_months, put_answered, months_at_place, year_count, year_months, year_listed, year_again}

-- where there is nothing to put, and where there is something
module _ {A : Type 0} (words : A → List ℤ) (at : ℕ) (l : List ℤ) where
  pub nothing_put : {v : Verdict A} {number segment : ℕ} → v ≡ refused number segment → put_answered v words at l ≡ l
  nothing_put e = ap (λ (v : Verdict A). put_answered v words at l) e

  pub something_put : {v : Verdict A} {a : A} → v ≡ answered a → put_answered v words at l ≡ placed at (words a) l
  something_put e = ap (λ (v : Verdict A). put_answered v words at l) e

-- one word put
pub one_put : (l : List ℤ) (at : ℕ) (z : ℤ) → at < length l → set l at z ≡ placed at (z ∷ []) l
one_put l at z h =
    let behind : suc at ≡ at + 1 = omega arith in
    set_split l at z h ∙ ap (λ (k : ℕ). take at l ++ z ∷ drop k l) behind ∙ sym (append_snoc (take at l) z (drop (at + 1) l))

-- a year listed, or not
module _ (year : ℤ) (kept : List ℤ) (years : ℕ) where
  abbrev pub Listed : Bool → ℕ → List ℤ → Type 0
  Listed same count kept' = (count ≡ years + length (cond same (year ∷ []) [])) × (kept' ≡ placed years (cond same (year ∷ []) []) kept)

  pub listed_when : {same : Bool} → same ≡ true → years < length kept → Listed same (years + 1) (set kept years year)
  listed_when e h = rw e (refl, one_put kept years year h)

  pub not_listed_when : {same : Bool} → same ≡ false → Listed same years kept
  not_listed_when e = rw e (omega arith, placed_none kept years)

-- ---- a sui put again
module _ (year : ℤ) (months : ℕ) (copied : List ℤ) (v : Verdict Sui) (at from : ℕ) (suis words : List ℤ) where
  abbrev pub Promises : Bool → Verdict ℕ → List ℤ → List ℤ → Type 0
  Promises same count suis' words' =
      (count ≡ again_count same months v)
      × ((suis' ≡ put_answered (again_count same months v) (λ n. year ∷ pos n ∷ []) at suis) × (words' ≡ put_answered (again_months same copied v) (λ w. w) from words))

  pub copied_when : {same : Bool} → same ≡ true → {suis' words' : List ℤ} → suis' ≡ placed at (year ∷ pos months ∷ []) suis → words' ≡ placed from copied words → Promises same (answered months) suis' words'
  copied_when e p q = rw e (refl, (p, q))

  pub refused_when : {same : Bool} → same ≡ false → {number segment : ℕ} → v ≡ refused number segment → Promises same (refused number segment) suis words
  refused_when e f = rw (e, f) (refl, (refl, refl))

  pub made_when : {same : Bool} → same ≡ false → {sui : Sui} → v ≡ answered sui → {suis' words' : List ℤ} → suis' ≡ placed at (year_words year sui) suis → words' ≡ placed from (sui_months sui) words → Promises same (answered sui.count) suis' words'
  made_when e f p q = rw (e, f) (refl, (p, q))

-- ---- a year put again: its sui's records, and its year where it is kept
module _ (year : ℤ) (v : Verdict SuiDays) (before : List ℤ) (file : List ℕ) (at years place from : ℕ) (suis words kept : List ℤ) where
  abbrev pub YearPromises : Verdict Again → List ℤ → List ℤ → List ℤ → Type 0
  YearPromises result suis' words' kept' =
      (result ≡ year_again year v before years)
      × ((suis' ≡ put_answered (year_count year v before) (λ n. year ∷ pos n ∷ []) place suis)
      × ((words' ≡ put_answered (year_months year v before file at) (λ w. w) from words) × (kept' ≡ put_answered (year_count year v before) (λ n. year_listed year v before) years kept)))

  pub no_days_lem : {number segment : ℕ} → v ≡ refused number segment → YearPromises (refused number segment) suis words kept
  no_days_lem e = rw e (refl, (refl, (refl, refl)))

  module _ {days : SuiDays} (e : v ≡ answered days) {same : Bool} (s : same ≡ same_words before (days_words days)) where
    abbrev count : Verdict ℕ
    count = again_count same days.months (sui_of year days)

    abbrev months : Verdict (List ℤ)
    months = again_months same (months_at_place file at days.months) (sui_of year days)

    pub no_sui_lem : {number segment : ℕ} → refused number segment ≡ count → {suis' words' : List ℤ} → suis' ≡ put_answered count (λ n. year ∷ pos n ∷ []) place suis → words' ≡ put_answered months (λ w. w) from words → YearPromises (refused number segment) suis' words' kept
    no_sui_lem q p₁ p₂ = rw (e, ← s) (refused_then (λ n. answered (record { months = n; years = years + length (cond same (year ∷ []) []) })) q, (p₁, (p₂, unlisted count q)))
      where
        unlisted : {number segment : ℕ} (c : Verdict ℕ) → refused number segment ≡ c → kept ≡ put_answered c (λ n. cond same (year ∷ []) []) years kept
        unlisted (answered n) q = answer_or_refusal (sym q)
        unlisted (refused number segment) q = refl

    pub sui_put : {n : ℕ} → answered n ≡ count → {suis' words' kept' : List ℤ} {listed : ℕ} → suis' ≡ put_answered count (λ n. year ∷ pos n ∷ []) place suis → words' ≡ put_answered months (λ w. w) from words → Listed year kept years same listed kept' → YearPromises (answered (record { months = n; years = listed })) suis' words' kept'
    sui_put {n} q {suis'} {words'} {kept'} {listed} p₁ p₂ l = rw (e, ← s) (ap (λ (k : ℕ). answered (again n k)) l.0 ∙ answered_then (λ m. answered (again m (years + length (cond same (year ∷ []) [])))) q, (p₁, (p₂, l.1 ∙ listed_there count q)))
      where
        again : ℕ → ℕ → Again
        again m k = record { months = m; years = k }

        listed_there : {n : ℕ} (c : Verdict ℕ) → answered n ≡ c → placed years (cond same (year ∷ []) []) kept ≡ put_answered c (λ n. cond same (year ∷ []) []) years kept
        listed_there (answered n) q = refl
        listed_there (refused number segment) q = answer_or_refusal q
