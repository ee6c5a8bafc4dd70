-- `reader::check_file` meets its contract. Assumes nothing.
use mathlib.Core.Path.{sym, ◌∙◌}
use native.Mathlib.Omega.{arith}
use Rattle.refusals.specs.Verdict.{answered_is, refused_is, passed_on}
use Rattle.almanac.specs.theory.Whole.{found}
use Rattle.almanac.specs.theory.Checked.{file_lawful, file_unlawful, file_uncounted}
use Rattle.reader.proofs.check_file.Goals as goal

pub lawful_at-requires : goal.lawful_at-requires
lawful_at-requires c =
    let told = answered_is c.counts_of.ensures c.in_ok-n.was in
    omega (arith, (found _ _ told).ends)

pub returns-in_err-n : goal.returns-in_err-n
returns-in_err-n c =
    passed_on c.from_residual.result c.in_err-n.field-0.0 c.from_residual.ensures.1 (file_uncounted _ _ _ (sym (refused_is c.counts_of.ensures c.in_err-n.was)))

pub returns-then-not-lawful_at : goal.returns-then-not-lawful_at
returns-then-not-lawful_at c =
    let told = answered_is c.counts_of.ensures c.in_ok-n.was in
    file_unlawful _ _ (sym told) (sym c.lawful_at.ensures ∙ c.if-not-lawful_at.true)

pub returns : goal.returns
returns c =
    let told = answered_is c.counts_of.ensures c.in_ok-n.was in
    file_lawful _ _ (sym told) (sym c.lawful_at.ensures ∙ c.if-not-lawful_at.false)
