-- What a sui's answer tells: the sui that was found, or why there is none; and the promises of putting a year, from the verdict. Assumes nothing.
use Rattle.std.specs.Prelude.{◌≡◌, refl, List, ℕ, ℤ, Result, Ok, Err}
use Rattle.std.proofs.Common.{sym}
use Rattle.whole.specs.Lists.{placed}
use Rattle.refusals.specs.declared.Refusal.{Refusal}
use Rattle.refusals.specs.Verdict.{Verdict, answered, refused, refusal, answers_apart, answer_or_refusal, answered_is, refused_is, paper}
use Rattle.months.specs.declared.Sui.{Sui}
use Rattle.build.specs.theory.Put.{months_of, year_words, sui_months, put_when}

pub sui_answered : (r : Result Sui Refusal) (v : Verdict Sui) {sui : Sui} → paper r ≡ v → r ≡ Ok sui → v ≡ answered sui
sui_answered r v e q = answered_is e q

pub sui_refused : (r : Result Sui Refusal) (v : Verdict Sui) (q : Refusal) → paper r ≡ v → r ≡ Err q → v ≡ refusal q
sui_refused r v q e is = refused_is e is

-- the same by the number of its months
pub year_refused : (v : Verdict Sui) {number segment : ℕ} → refused number segment ≡ months_of v → v ≡ refused number segment
year_refused (answered sui) e = answer_or_refusal (sym e)
year_refused (refused number segment) e = cc

pub year_found : (v : Verdict Sui) {count : ℕ} → answered count ≡ months_of v → (sui : Sui) × (v ≡ answered sui) × (sui.count ≡ count)
year_found (answered sui) e = (sui, refl, sym (answers_apart e))
year_found (refused number segment) e = answer_or_refusal e

-- the three promises of putting a year
module _ (v : Verdict Sui) (year : ℤ) (at from : ℕ) (suis months : List ℤ) where
  abbrev pub Promises : Verdict ℕ → List ℤ → List ℤ → Type 0
  Promises count suis' months' = (count ≡ months_of v) × ((suis' ≡ put_when v (year_words year) at suis) × (months' ≡ put_when v sui_months from months))

  pub nothing_put : {number segment : ℕ} → v ≡ refused number segment → Promises (refused number segment) suis months
  nothing_put e = rw e (refl, (refl, refl))

  pub all_put : {sui : Sui} {suis' months' : List ℤ} → v ≡ answered sui → suis' ≡ placed at (year_words year sui) suis → months' ≡ placed from (sui_months sui) months → Promises (answered sui.count) suis' months'
  all_put e p q = rw e (refl, (p, q))
