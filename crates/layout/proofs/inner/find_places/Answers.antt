-- `layout::inner::find_places` meets its contract. Assumes nothing.
use borrow.Author.Tests.{lt-ltb, le-ltb}
use mathlib.Core.Path.{sym, ap, ◌∙◌}
use Rattle.layout.specs.Layout.{places}
use Rattle.refusals.specs.Verdict.{passed_on, refused_then, answered_then, test_refuses, test_passes, paper}
use Rattle.layout.proofs.inner.find_places.Goals as goal

pub returns-in_err-sun : goal.returns-in_err-sun
unfolding places
returns-in_err-sun c =
    passed_on c.from_residual.result c.in_err-sun.field-0.0 c.from_residual.ensures.1 (refused_then _ (ap paper (sym c.in_err-sun.was) ∙ c.section_end.ensures))

pub returns-in_err-moon : goal.returns-in_err-moon
unfolding places
returns-in_err-moon c =
    passed_on c.from_residual-in_err-moon.result c.in_err-moon.field-0.0 c.from_residual-in_err-moon.ensures.1
    (refused_then _ (ap paper (sym c.in_err-moon.was) ∙ c.section_end-2.ensures)
    ∙ answered_then _ (ap paper (sym c.in_ok-sun.was) ∙ c.section_end.ensures))

pub returns-in_err-end : goal.returns-in_err-end
unfolding places
returns-in_err-end c =
    passed_on c.from_residual-in_err-end.result c.in_err-end.field-0.0 c.from_residual-in_err-end.ensures.1
    (refused_then _ (ap paper (sym c.in_err-end.was) ∙ c.section_end-3.ensures)
    ∙ answered_then _ (ap paper (sym c.in_ok-moon.was) ∙ c.section_end-2.ensures)
    ∙ answered_then _ (ap paper (sym c.in_ok-sun.was) ∙ c.section_end.ensures))

pub returns-then-end-words : goal.returns-then-end-words
unfolding places
returns-then-end-words c =
    test_refuses 13 _ (lt-ltb _ _ c.if-end-words.true)
    ∙ answered_then _ (ap paper (sym c.in_ok-end.was) ∙ c.section_end-3.ensures)
    ∙ answered_then _ (ap paper (sym c.in_ok-moon.was) ∙ c.section_end-2.ensures)
    ∙ answered_then _ (ap paper (sym c.in_ok-sun.was) ∙ c.section_end.ensures)

pub returns : goal.returns
unfolding places
returns c =
    test_passes 13 _ (le-ltb _ _ c.if-end-words.false)
    ∙ answered_then _ (ap paper (sym c.in_ok-end.was) ∙ c.section_end-3.ensures)
    ∙ answered_then _ (ap paper (sym c.in_ok-moon.was) ∙ c.section_end-2.ensures)
    ∙ answered_then _ (ap paper (sym c.in_ok-sun.was) ∙ c.section_end.ensures)
