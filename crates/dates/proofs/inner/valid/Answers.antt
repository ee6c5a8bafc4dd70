-- `dates::inner::valid` meets its contract. Assumes nothing.
use mathlib.Core.Path.{◌≡◌, sym, ◌∙◌}
use native.Mathlib.Omega.{arith}
use lib.IntN.{pos}
use Rattle.whole.specs.Ranges.{back}
use Rattle.whole.specs.Tests.{in_range, in_range_says}
use Rattle.dates.specs.Calendar.{valid_date}
use Rattle.dates.proofs.inner.valid.Goals as goal
use Rattle.dates.proofs.inner.valid.Goals.{After-in_range}

at_month : (c : After-in_range) → in_range (pos 1) (pos 12) c.args.date.month ≡ c.in_range.result
at_month c = sym (rw (back c.args.date.month (omega arith)) at c.in_range.ensures)

pub returns-then-not-in_range : goal.returns-then-not-in_range
unfolding valid_date
returns-then-not-in_range c = rw (at_month (goal.at.returns-then-not-in_range c).After-in_range ∙ c.if-not-in_range.true)

pub month_length-requires : goal.month_length-requires
month_length-requires c =
    let m = c.args.date.month in
    rw (back m (omega arith)) (in_range_says (pos 1) (pos 12) m (at_month (goal.at.month_length-requires c).After-in_range ∙ c.if-not-in_range.false))

pub returns : goal.returns
unfolding valid_date
returns c =
    let date = c.args.date in
    rw (at_month (goal.at.returns c).After-in_range ∙ c.if-not-in_range.false)
    (rw (back c.month_length.result c.month_length.type_inv, c.month_length.ensures, back date.year (omega arith), back date.month (omega arith), back date.day (omega arith)) at c.in_range-2.ensures)
