-- `corrected::inner::accept_again` meets its contract: the shape, and then the part of the segments that changed. Assumes nothing.
use mathlib.Core.Path.{sym, ◌∙◌}
use native.Mathlib.Omega.{arith}
use Rattle.refusals.specs.Verdict.{refused_first, passed_on, accepted_first, accepted_is}
use Rattle.series.specs.Series.{series, segments}
use Rattle.series.specs.Acceptance.{series_judged}
use Rattle.series.proofs.theory.Known.{shape_known}
use Rattle.corrected.specs.theory.Judged.{around_changed, segments_accepted, judged_by_part}
use Rattle.corrected.proofs.inner.accept_again.Goals as goal

pub returns-in_err-shape : goal.returns-in_err-shape
unfolding series_judged
returns-in_err-shape c =
    passed_on c.from_residual.result c.in_err-shape.field-0.0 c.from_residual.ensures.1 (refused_first _ c.shape.ensures c.in_err-shape.was)

pub returns : goal.returns
unfolding series_judged
returns c =
    let args = c.args in
    let old = args.old.now in
    let new = args.coefs.now in
    let shared = c.requires.shared in
    let shape = c.shape.ensures in
    let some = (shape_known (series args.body args.start.0 new) (accepted_is shape c.in_ok-shape.was)).1.0 in
    let bounds = c.end_of-to.ensures in
    let around = around_changed (segments new) args.part.first args.part.end c.begin_of-from.result c.end_of-to.result some shared.in_order shared.inside c.begin_of-from.ensures bounds.upper_bound bounds.lower_bound (λ l. omega (arith, bounds.lower_bound_2 l)) in
    c.judged_part.ensures
    ∙ sym (judged_by_part args.body old new args.part.first args.part.end (segments_accepted (series args.body args.oldstart.0 old) c.requires.accepted) shared around)
    ∙ accepted_first _ shape c.in_ok-shape.was
