-- `month_rule::inner::sui_of` meets its contract. In the needs, `start` is the function's entry. Assumes nothing.
use mathlib.Core.Path.{◌≡◌}
use mathlib.Core.Bool.{true, false}
use borrow.Author.Tests.{lt-ltb, le-ltb}
use lib.Dec.{ltb}
use mir.Facts.{to_z-of_z}
use Prim.Native.Nat.{◌≤◌}
use Rattle.months.specs.Months.{first_bad_month}
use Rattle.months.proofs.theory.Listed.{at_most_thirteen}
use Rattle.months.proofs.theory.Leap.{sui_bad_length, sui_numbered}
use Rattle.month_rule.proofs.inner.sui_of.Goals as goal
use Rattle.month_rule.proofs.inner.sui_of.Goals.{Else-first_bad_month-months, Start}

at_few : (c : Start) → c.args.days.months ≤ 13
at_few c = (at_most_thirteen c.args.days.months c.requires.sui_days.count).1

-- every month is 29 or 30 days long
at_good : (c : Else-first_bad_month-months) → (let days = c.args.days in ltb (first_bad_month days) days.months ≡ false)
at_good c = let days = c.args.days in rw (← c.first_bad_month.ensures) (le-ltb c.first_bad_month.result days.months c.if-first_bad_month-months.false)

pub first_bad_month-requires : goal.first_bad_month-requires
first_bad_month-requires c = record { months_bound = at_few (goal.at.first_bad_month-requires c).Start; all = c.requires.all }

pub returns-then-first_bad_month-months : goal.returns-then-first_bad_month-months
returns-then-first_bad_month-months c =
    let days = c.args.days in
    let bad : ltb (first_bad_month days) days.months ≡ true = rw (← c.first_bad_month.ensures) (lt-ltb c.first_bad_month.result days.months c.if-first_bad_month-months.true) in
    sui_bad_length days c.args.year bad

pub leap_month-requires : goal.leap_month-requires
leap_month-requires c = c.requires.sui_days

pub numbered-requires : goal.numbered-requires
numbered-requires c =
    record { within = rw (to_z-of_z c.ranges.year) c.requires.within; months_bound = at_few (goal.at.numbered-requires c).Start; all = c.requires.all; leap_value = c.leap_month.ensures }

pub returns : goal.returns
returns c =
    rw (rw (to_z-of_z c.ranges.year) at c.numbered.ensures) (sui_numbered c.args.days c.args.year (at_good (goal.at.returns c).Else-first_bad_month-months))
