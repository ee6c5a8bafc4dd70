-- `dates::date_of` meets its contract. Assumes nothing.
use Rattle.refusals.specs.Verdict.{answered}
use Rattle.dates.specs.Answers.{has_date}
use Rattle.dates.proofs.theory.Judged.{date_refused, date_found}
use mathlib.Core.Path.{◌≡◌, sym, ap, ◌∙◌}
use mathlib.Core.Bool.{true}
use Rattle.dates.proofs.date_of.Goals as goal
use Rattle.dates.proofs.date_of.Goals.{Else-not-has_date}

pub returns-then-not-has_date : goal.returns-then-not-has_date
returns-then-not-has_date c =
    let judged = c.before in
    date_refused judged.before.args.day (sym judged.has_date.ensures ∙ c.if-not-has_date.true)

dated : (c : Else-not-has_date) → has_date c.before.before.args.day.0 ≡ true
dated c = sym c.before.has_date.ensures ∙ c.if-not-has_date.false

pub date_for-requires : goal.date_for-requires
date_for-requires c = dated c

pub returns : goal.returns
returns c =
    let judged = c.before.before in
    ap answered c.date_for.ensures ∙ date_found judged.before.args.day (dated c.before)
