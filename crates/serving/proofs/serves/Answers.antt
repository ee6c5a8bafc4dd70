-- `serving::serves` meets its contract. Assumes nothing.
use Rattle.std.proofs.Common.{◌≡◌, ℕ, ◌^◌, ◌<◌, true, sym, ap, ◌∙◌, arith}
use lib.IntN.{ℤ}
use Rattle.whole.specs.Distance.{distance_from}
use Rattle.refusals.specs.Verdict.{passed_on, answered, refused_first, accepted_first, accepted_is}
use Rattle.series.specs.Series.{Series, series, covers}
use Rattle.series.specs.Acceptance.{Accepted}
use Rattle.series.proofs.theory.Span.{covers_says, span_short, distance_in_span}
use Rattle.served.specs.declared.Side.TheVariants.{Near, Long}
use Rattle.served.specs.Served.{serves}
use Rattle.served.proofs.theory.Cases.{near_serves, long_serves, none_serves}
use Rattle.serving.proofs.serves.Goals as goal

-- a series that covers a second has it at a short distance from its start
at_hand : (s : Series) (second : ℤ) → Accepted s → covers s second ≡ true → distance_from s.start second < 2 ^ 63
at_hand s second e h = omega (arith, distance_in_span s e (covers_says s h), span_short s e)

pub returns-in_err-accept : goal.returns-in_err-accept
unfolding serves
returns-in_err-accept c =
    passed_on c.from_residual.result c.in_err-accept.field-0.0 c.from_residual.ensures.1 (refused_first _ c.accept.ensures c.in_err-accept.was)

pub returns-in_err-accept-2 : goal.returns-in_err-accept-2
unfolding serves
returns-in_err-accept-2 c =
    passed_on c.from_residual-in_err-accept-2.result c.in_err-accept-2.field-0.0 c.from_residual-in_err-accept-2.ensures.1 (refused_first _ c.accept-2.ensures c.in_err-accept-2.was ∙ accepted_first _ c.accept.ensures c.in_ok-accept.was)

pub segment_at-requires-clause-second_bound : goal.segment_at-requires-clause-second_bound
segment_at-requires-clause-second_bound c =
    let a = c.args in
    at_hand (series a.body a.nearstart.0 a.near.now) a.second.0 (accepted_is c.accept.ensures c.in_ok-accept.was) (sym c.covers.ensures ∙ c.if-covers.true)

pub returns-then-covers : goal.returns-then-covers
returns-then-covers c =
    let a = c.args in
    ap (λ (k : ℕ). answered (record { side = Near; segment = k })) c.segment_at.ensures
    ∙ sym (near_serves (series a.body a.nearstart.0 a.near.now) (series a.body a.longstart.0 a.long.now) a.second.0 (accepted_is c.accept.ensures c.in_ok-accept.was) (accepted_is c.accept-2.ensures c.in_ok-accept-2.was) (sym c.covers.ensures ∙ c.if-covers.true))

-- near does not cover the second, and long is asked
pub segment_at-requires-then-covers-2-clause-second_bound : goal.segment_at-requires-then-covers-2-clause-second_bound
segment_at-requires-then-covers-2-clause-second_bound c =
    let a = c.args in
    at_hand (series a.body a.longstart.0 a.long.now) a.second.0 (accepted_is c.accept-2.ensures c.in_ok-accept-2.was) (sym c.covers-2.ensures ∙ c.if-covers-2.true)

pub returns-then-covers-2 : goal.returns-then-covers-2
returns-then-covers-2 c =
    let a = c.args in
    ap (λ (k : ℕ). answered (record { side = Long; segment = k })) c.segment_at-then-covers-2.ensures
    ∙ sym (long_serves (series a.body a.nearstart.0 a.near.now) (series a.body a.longstart.0 a.long.now) a.second.0 (accepted_is c.accept.ensures c.in_ok-accept.was) (accepted_is c.accept-2.ensures c.in_ok-accept-2.was) (sym c.covers.ensures ∙ c.if-covers.false) (sym c.covers-2.ensures ∙ c.if-covers-2.true))

pub returns : goal.returns
returns c =
    let a = c.args in
    sym (none_serves (series a.body a.nearstart.0 a.near.now) (series a.body a.longstart.0 a.long.now) a.second.0 (accepted_is c.accept.ensures c.in_ok-accept.was) (accepted_is c.accept-2.ensures c.in_ok-accept-2.was) (sym c.covers.ensures ∙ c.if-covers.false) (sym c.covers-2.ensures ∙ c.if-covers-2.false))
