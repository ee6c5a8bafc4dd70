-- `rebuild::old::years_in` meets its contract. Assumes nothing.
use Rattle.refusals.specs.Verdict.{passed_on, paper}
use mathlib.Core.Path.{sym, ap, ◌∙◌}
use native.Mathlib.Omega.{arith}
use Rattle.whole.specs.Ranges.{back}
use Rattle.almanac.proofs.theory.Reader.{checked}
use Rattle.rebuild.specs.theory.Judging.{no_years, years_read}
use Rattle.rebuild.proofs.old.years_in.Goals as goal

pub overflow_mul-n : goal.overflow_mul-n
overflow_mul-n c =
    let k = checked _ _ (ap paper (sym c.in_ok-n.was) ∙ c.check_file.ensures) in
    record { fits = omega (arith, k.entries_few) }

pub overflow_add-n : goal.overflow_add-n
overflow_add-n c =
    let k = checked _ _ (ap paper (sym c.in_ok-n.was) ∙ c.check_file.ensures) in
    record { fits = omega (arith, k.entries_few) }

pub overflow_add-n-2 : goal.overflow_add-n-2
overflow_add-n-2 c =
    let k = checked _ _ (ap paper (sym c.in_ok-n.was) ∙ c.check_file.ensures) in
    record { fits = omega (arith, k.entries_few) }

pub signed4_at-requires : goal.signed4_at-requires
signed4_at-requires c =
    let k = checked _ _ (ap paper (sym c.in_ok-n.was) ∙ c.check_file.ensures) in
    omega (arith, k.ends)

pub returns-in_err-n : goal.returns-in_err-n
returns-in_err-n c =
    passed_on c.from_residual.result c.in_err-n.field-0.0 c.from_residual.ensures.1 (no_years c.args.file.now (ap paper (sym c.in_err-n.was) ∙ c.check_file.ensures))

pub returns : goal.returns
returns c =
    let k = checked _ _ (ap paper (sym c.in_ok-n.was) ∙ c.check_file.ensures) in
    years_read c.args.file.now k (back c.signed4_at.result c.signed4_at.type_inv ∙ c.signed4_at.ensures)
