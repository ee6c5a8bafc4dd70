-- `conversion::inner::next_entry` meets its contract. Assumes nothing.
use native.Mathlib.Omega.{arith}
use mathlib.Core.Path.{◌≡◌, sym, ◌∙◌}
use lib.Signed.{le_z}
use mir.Syntax.{w64}
use mir.Val.{to_z, of_z}
use mir.Facts.{to_z-of_z}
use Rattle.whole.specs.Ranges.{back}
use Rattle.whole.specs.Tests.{less, not_less}
use Rattle.clock.specs.Leap.{utc_day, next_entry}
use Rattle.conversion.proofs.inner.next_entry.Goals as goal
use Rattle.conversion.proofs.inner.next_entry.Goals.{After-struct_told-2-1, After-utc_day}

at_day : (c : After-utc_day) → utc_day c.args.day.0 ≡ c.utc_day.result
at_day c = sym c.utc_day.ensures

pub returns-then-not-utc_day : goal.returns-then-not-utc_day
unfolding next_entry
returns-then-not-utc_day c = rw (at_day (goal.at.returns-then-not-utc_day c).After-utc_day ∙ c.if-not-utc_day.true)

-- the days, as they are read
at_days : (c : After-struct_told-2-1) →
    (le_z (to_z w64 (of_z w64 c.args.day.0)) (to_z w64 (of_z w64 c.args.d.0)) ≡ le_z c.args.day.0 c.args.d.0)
at_days c =
    rw (back c.args.day.0 (omega arith), back c.args.d.0 (omega arith))

pub returns-then-day-d : goal.returns-then-day-d
unfolding next_entry
returns-then-day-d c =
    rw (at_day (goal.at.returns-then-day-d c).After-utc_day ∙ c.if-not-utc_day.false, not_less c.args.d.0 c.args.day.0 (sym (at_days (goal.at.returns-then-day-d c).After-struct_told-2-1) ∙ c.if-day-d.true))

pub returns : goal.returns
unfolding next_entry
returns c =
    rw (at_day (goal.at.returns c).After-utc_day ∙ c.if-not-utc_day.false, less c.args.d.0 c.args.day.0 (sym (at_days (goal.at.returns c).After-struct_told-2-1) ∙ c.if-day-d.false))
    (rw (to_z-of_z c.ranges.o, to_z-of_z c.ranges.offset) at c.one_more.ensures)
