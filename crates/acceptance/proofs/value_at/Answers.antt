-- `acceptance::value_at` meets its contract. Assumes nothing.
use mathlib.Core.Path.{sym, ap, ◌∙◌}
use mathlib.Core.Bool.{not}
use lib.IntN.{ℤ}
use Rattle.refusals.specs.Verdict.{answered, refused_first, passed_on, accepted_first, accepted_is, test_refuses, test_passes}
use Rattle.whole.specs.Ranges.{back}
use Rattle.series.specs.Series.{Series, series}
use Rattle.series.specs.Acceptance.{Accepted, value_of}
use Rattle.series.proofs.theory.Span.{covers_says}
use Rattle.acceptance.proofs.value_at.Goals as goal
use Rattle.acceptance.proofs.value_at.Goals.{In_ok-accept}

abbrev Told : Type 0
Told = In_ok-accept

abbrev series_of : Told → Series
series_of told = let a = told.args in series a.body a.start.0 a.coefs.now

is_accepted_lem : (told : Told) → Accepted (series_of told)
is_accepted_lem told = accepted_is told.accept.ensures told.in_ok-accept.was

pub returns-in_err-accept : goal.returns-in_err-accept
unfolding value_of
returns-in_err-accept c =
    passed_on c.from_residual.result c.in_err-accept.field-0.0 c.from_residual.ensures.1 (refused_first _ c.accept.ensures c.in_err-accept.was)

pub covers-requires : goal.covers-requires
covers-requires c = is_accepted_lem c

pub returns-then-not-covers : goal.returns-then-not-covers
unfolding value_of
returns-then-not-covers c =
    test_refuses 6 _ (ap not (sym c.covers.ensures ∙ c.if-not-covers.true)) ∙ accepted_first _ c.accept.ensures c.in_ok-accept.was

pub value-requires : goal.value-requires
value-requires c = record { accepted = is_accepted_lem c.before.before; in_span = covers_says (series_of c.before.before) (sym c.covers.ensures ∙ c.if-not-covers.false) }

pub returns : goal.returns
unfolding value_of
returns c =
    ap (λ (v : ℤ). answered v) (back c.value.result c.value.type_inv ∙ c.value.ensures)
    ∙ test_passes 6 _ (ap not (sym c.covers.ensures ∙ c.if-not-covers.false))
    ∙ accepted_first _ c.accept.ensures c.in_ok-accept.was
