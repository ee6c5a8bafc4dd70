-- `replacing::replace_segment` meets its contract: what was put in is judged, and where it is refused the words that stood there are put back. Assumes nothing.
use Rattle.std.specs.Prelude.{Result, Ok, Err}
use Rattle.std.specs.Result.{is_err}
use Rattle.std.proofs.Common.{◌≡◌, ℕ, ◌<◌, List, length, true, false, refl, sym, ap, ap₂, ◌∙◌, arith, rules}
use lib.IntN.{ℤ}
use Rattle.refusals.specs.declared.Refusal.{Refusal}
use Rattle.refusals.specs.Verdict.{paper}
use Rattle.series.specs.Series.{Series, series, segments}
use Rattle.series.specs.Acceptance.{series_judged}
use Rattle.replacing.specs.Replaced.{replaced, series_with}
use Rattle.replacing.specs.theory.Put.{put_back}
use Rattle.replacing.specs.theory.Cases.{no_segment, new_refused, new_accepted, Promises, where_refused, where_answered}
use Rattle.replacing.proofs.replace_segment.Goals as goal
use Rattle.replacing.proofs.replace_segment.Goals.{After-accept-judged}

-- what is promised, by what the judge of the new series returned
module _ (s : Series) (k : ℕ) (part : List ℤ) (inside : k < segments s.coefs) {held : List ℤ} where
  where_put_back : (judged : Result (Unit {0}) Refusal) → paper judged ≡ series_judged (series_with s k part) → is_err judged ≡ true → held ≡ s.coefs → Promises s k part (paper judged) held
  where_put_back (Ok a) p e h = let z : ◌≡◌ {A = ℕ} 0 1 = cc in absurd (omega arith)
  where_put_back (Err r) p e h = where_refused s k part (new_refused s k part inside (sym p)) h

  where_put : (judged : Result (Unit {0}) Refusal) → paper judged ≡ series_judged (series_with s k part) → is_err judged ≡ false → held ≡ replaced s.coefs k part → Promises s k part (paper judged) held
  where_put (Ok a) p e h = where_answered s k part (new_accepted s k part inside (sym p)) h
  where_put (Err r) p e h = let z : ◌≡◌ {A = ℕ} 0 1 = cc in absurd (omega arith)

pub returns-then-coefs-number-clause-result_value : goal.returns-then-coefs-number-clause-result_value
returns-then-coefs-number-clause-result_value c =
    let a = c.args in
    let s = series a.body a.start.0 a.coefs.now in
    (where_refused s a.number a.part (no_segment s a.number a.part c.if-coefs-number.true) refl).0

pub returns-then-coefs-number-clause-coefs_after : goal.returns-then-coefs-number-clause-coefs_after
returns-then-coefs-number-clause-coefs_after c =
    let a = c.args in
    let s = series a.body a.start.0 a.coefs.now in
    (where_refused s a.number a.part (no_segment s a.number a.part c.if-coefs-number.true) refl).1

judged : (c : After-accept-judged) → (let a = c.args in paper c.accept-judged.result ≡ series_judged (series_with (series a.body a.start.0 a.coefs.now) a.number a.part))
judged c =
    let a = c.args in
    c.accept-judged.ensures ∙ ap (λ (coefs : List ℤ). series_judged (series a.body a.start.0 coefs)) c.put.ensures

pub returns-then-is_err-clause-result_value : goal.returns-then-is_err-clause-result_value
returns-then-is_err-clause-result_value c =
    let a = c.args in
    let s = series a.body a.start.0 a.coefs.now in
    let by_judge = judged (goal.at.returns-then-is_err-clause-result_value c).After-accept-judged in
    (where_put_back s a.number a.part c.if-coefs-number.false c.accept-judged.result by_judge (sym c.is_err.ensures.value ∙ c.if-is_err.true) refl).0

pub returns-then-is_err-clause-coefs_after : goal.returns-then-is_err-clause-coefs_after
returns-then-is_err-clause-coefs_after c =
    let a = c.args in
    let s = series a.body a.start.0 a.coefs.now in
    let fourteen : length a.part ≡ 14 = search rules in
    let by_judge = judged (goal.at.returns-then-is_err-clause-coefs_after c).After-accept-judged in
    let as_before =
    c.put-then-is_err.ensures
    ∙ ap₂ (λ (coefs part : List ℤ). replaced coefs a.number part) c.put.ensures c.part_of-before.ensures
    ∙ put_back a.coefs.now a.number a.part fourteen c.if-coefs-number.false in
    (where_put_back s a.number a.part c.if-coefs-number.false c.accept-judged.result by_judge (sym c.is_err.ensures.value ∙ c.if-is_err.true) as_before).1

pub returns-else-is_err-clause-result_value : goal.returns-else-is_err-clause-result_value
returns-else-is_err-clause-result_value c =
    let a = c.args in
    let s = series a.body a.start.0 a.coefs.now in
    let by_judge = judged (goal.at.returns-else-is_err-clause-result_value c).After-accept-judged in
    (where_put s a.number a.part c.if-coefs-number.false c.accept-judged.result by_judge (sym c.is_err.ensures.value ∙ c.if-is_err.false) c.put.ensures).0

pub returns-else-is_err-clause-coefs_after : goal.returns-else-is_err-clause-coefs_after
returns-else-is_err-clause-coefs_after c =
    let a = c.args in
    let s = series a.body a.start.0 a.coefs.now in
    let by_judge = judged (goal.at.returns-else-is_err-clause-coefs_after c).After-accept-judged in
    (where_put s a.number a.part c.if-coefs-number.false c.accept-judged.result by_judge (sym c.is_err.ensures.value ∙ c.if-is_err.false) c.put.ensures).1
