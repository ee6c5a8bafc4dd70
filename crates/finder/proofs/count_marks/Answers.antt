-- `finder::count_marks` meets its contract. Assumes nothing.
use mathlib.Core.Path.{sym, ap, ◌∙◌}
use Rattle.refusals.specs.Verdict.{passed_on, answered, paper}
use Rattle.finder.proofs.count_marks.Goals as goal

pub count-requires : goal.count-requires
count-requires c = sym c.accept.ensures ∙ ap paper c.in_ok-accept.was

pub returns : goal.returns
returns c =
    let judgement = sym c.accept.ensures ∙ ap paper c.in_ok-accept.was in
    rw judgement (ap answered c.count.ensures)

pub returns-in_err-accept : goal.returns-in_err-accept
returns-in_err-accept c =
    let judgement = sym c.accept.ensures ∙ ap paper c.in_err-accept.was in
    passed_on c.from_residual.result c.in_err-accept.field-0.0 c.from_residual.ensures.1 (rw judgement)
