-- `month_rule::limits::days_kept` meets its contract. Assumes nothing.
use mathlib.Core.Path.{sym, ◌∙◌}
use Rattle.months.specs.Limits.{rising, in_range, days_kept}
use Rattle.months.proofs.theory.Kept.{first_fails, first_passes}
use Rattle.month_rule.proofs.limits.days_kept.Goals as goal

pub returns-then-not-rising : goal.returns-then-not-rising
unfolding days_kept
returns-then-not-rising c =
    let days = c.args.days.now in
    first_fails (rising days) (in_range days) (sym c.rising.ensures ∙ c.if-not-rising.true)

pub returns : goal.returns
unfolding days_kept
returns c =
    let days = c.args.days.now in
    first_passes (rising days) (in_range days) c.in_range.result (sym c.rising.ensures ∙ c.if-not-rising.false) c.in_range.ensures
