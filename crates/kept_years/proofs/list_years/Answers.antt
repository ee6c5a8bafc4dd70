-- `kept_years::list_years` meets its contract. Assumes nothing.
use mathlib.Core.Path.{sym}
use native.Mathlib.Omega.{arith}
use Rattle.refusals.specs.Verdict.{answered_is, refused_is, passed_on}
use Rattle.almanac.proofs.theory.Reader.{Checked, checked}
use Rattle.kept_years.specs.theory.Listed.{not_listed, is_listed_lem, passing_on}
use Rattle.kept_years.proofs.list_years.Goals as goal
use Rattle.kept_years.proofs.list_years.Goals.{In_ok-n}

-- what is known of the file once its counts are told
known : (told : In_ok-n) → Checked told.args.file.now told.in_ok-n.n
known told = checked _ _ (sym (answered_is told.check_file.ensures told.in_ok-n.was))

pub put_suis-requires : goal.put_suis-requires
put_suis-requires c =
    let k = known (goal.at.put_suis-requires c).In_ok-n in record { months_in_bounds = omega (arith, k.ends); suis_bound = k.suis_few }

pub returns-in_err-n : goal.returns-in_err-n
returns-in_err-n c =
    let a = c.args in
    let promised = not_listed a.file.now a.years.now a.out.now (sym (refused_is c.check_file.ensures c.in_err-n.was)) in
    record { result_value = passed_on c.from_residual.result c.in_err-n.field-0.0 c.from_residual.ensures.1 promised.0; out_after = promised.1 }

pub returns : goal.returns
returns c =
    let a = c.args in
    let k = known (goal.at.returns c).In_ok-n in
    let put = c.put_suis.ensures in
    let promised = passing_on a.file.now a.years.now a.out.now (is_listed_lem a.file.now a.years.now a.out.now c.in_ok-n.n k) (put.result_value, put.out_after) in
    record { result_value = promised.0; out_after = promised.1 }
