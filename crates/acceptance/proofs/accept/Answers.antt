-- `acceptance::accept` meets its contract: the shape, and then the segments. Assumes nothing.
use mathlib.Core.Path.{◌∙◌}
use Rattle.refusals.specs.Verdict.{refused_first, passed_on, accepted_first}
use Rattle.series.specs.Acceptance.{series_judged}
use Rattle.acceptance.proofs.accept.Goals as goal

pub returns-in_err-shape : goal.returns-in_err-shape
unfolding series_judged
returns-in_err-shape c =
    passed_on c.from_residual.result c.in_err-shape.field-0.0 c.from_residual.ensures.1 (refused_first _ c.shape.ensures c.in_err-shape.was)

pub returns : goal.returns
unfolding series_judged
returns c =
    c.each_segment.ensures ∙ accepted_first _ c.shape.ensures c.in_ok-shape.was
