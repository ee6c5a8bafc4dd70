-- The cases of `refused_in_taken`. Assumes nothing.
use Rattle.std.specs.Prelude.{◌≡◌, true, false, List, ℕ, ◌/◌, ◌≤◌, ◌<◌, ℤ, length, take, drop, Result, Ok, Err, Option, None}
use Rattle.std.specs.Result.{is_err}
use Rattle.std.proofs.Common.{lt-ltb, le-ltb}
use Rattle.std.proofs.lemmas.Bool.{false≢true, true≢false}
use Rattle.refusals.specs.declared.Refusal.{Refusal}
use Rattle.refusals.specs.Verdict.{Verdict, answered, refused, paper}
use Rattle.clock.specs.Clock.{is_zone}
use Rattle.clock.specs.Answers.{zone_judged}
use Rattle.series.specs.declared.Body.{Body}
use Rattle.layout.specs.declared.inner.Places.{Places}
use Rattle.layout.specs.Layout.{places, inputs_at}
use Rattle.building.specs.Building.{all_taken}
use Rattle.building.specs.Refused.{◌leads_to◌, blamed, refused_of, refused_in_rest, refused_in_words, refused_in_taken}

-- ---- one link of the chain: a check that refuses ends it, one that accepts goes on
pub ends : (q : Result (Unit {0}) Refusal) {u : Verdict (Unit {0})} (f : Unit {0} → Option Body) → paper q ≡ u → is_err q ≡ true → None ≡ u leads_to f
ends (Ok a) f p e = absurd (false≢true e)
ends (Err r) f p e = rw (← p)

pub goes_on : (q : Result (Unit {0}) Refusal) {u : Verdict (Unit {0})} (f : Unit {0} → Option Body) → paper q ≡ u → is_err q ≡ false → f tt ≡ u leads_to f
goes_on (Ok tt) f p e = rw (← p)
goes_on (Err r) f p e = absurd (true≢false e)

pub blames : (q : Result (Unit {0}) Refusal) {u : Verdict (Unit {0})} (series rest : Option Body) → paper q ≡ u → is_err q ≡ true → series ≡ blamed u series rest
blames (Ok a) series rest p e = absurd (false≢true e)
blames (Err r) series rest p e = rw (← p)

pub clears : (q : Result (Unit {0}) Refusal) {u : Verdict (Unit {0})} (series rest : Option Body) → paper q ≡ u → is_err q ≡ false → rest ≡ blamed u series rest
clears (Ok a) series rest p e = rw (← p)
clears (Err r) series rest p e = absurd (true≢false e)

-- ---- the layout
module _ (ws : List ℤ) where
  pub rest_broken : {number segment : ℕ} → places ws ≡ refused number segment → None ≡ refused_in_rest ws
  unfolding refused_in_rest
  rest_broken e = rw e

  pub rest_found : {p : Places} → places ws ≡ answered p → refused_in_rest ws ≡ refused_of (inputs_at ws p)
  unfolding refused_in_rest
  rest_found e = rw e

  pub too_few : length ws < 2 → None ≡ refused_in_words ws
  unfolding refused_in_words
  too_few h = rw (lt-ltb (length ws) 2 h)

  pub enough : 2 ≤ length ws → refused_in_words ws ≡ refused_in_rest (drop 2 ws)
  unfolding refused_in_words
  enough h = rw (le-ltb (length ws) 2 h)

module _ (ws : List ℤ) (bytes : ℕ) (zone : ℤ) where
  pub no_zone : is_zone zone ≡ false → None ≡ refused_in_taken ws bytes zone
  unfolding refused_in_taken zone_judged
  no_zone z = rw z

  module _ (z : is_zone zone ≡ true) where
    pub not_taken : all_taken ws bytes ≡ false → None ≡ refused_in_taken ws bytes zone
    unfolding refused_in_taken zone_judged
    not_taken e = rw (z, e)

    pub taken : all_taken ws bytes ≡ true → refused_in_taken ws bytes zone ≡ refused_in_words (take (bytes / 8) ws)
    unfolding refused_in_taken zone_judged
    taken e = rw (z, e)
