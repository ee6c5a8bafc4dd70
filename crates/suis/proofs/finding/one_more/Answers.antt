-- `suis::finding::one_more` meets its contract. In the needs, `start` is the function's entry. Assumes nothing.
use mathlib.Core.Path.{◌≡◌}
use mathlib.Core.Bool.{true, false}
use Prim.Native.Nat.{◌+◌}
use borrow.Author.Tests.{lt-ltb, le-ltb, lt-leb, le-leb}
use lib.IntN.{pos}
use lib.ListN.{length, get_or}
use lib.Dec.{ltb}
use lib.Signed.{lt_z}
use mir.Syntax.{w64}
use mir.Val.{SFits}
use mir.Facts.{to_z-of_z}
use Rattle.suis.specs.Ahead.{one_more}
use borrow.Author.Rules.{rules}
use Rattle.suis.proofs.finding.one_more.Goals as goal
use Rattle.suis.proofs.finding.one_more.Goals.{Else-day-days, Else-days-j}

-- day j is in the list ..
listed : (c : Else-days-j) → ltb c.args.j (length c.args.days.now) ≡ true
listed c = lt-ltb c.args.j (length c.args.days.now) c.if-days-j.false

-- .. and not after the day
by_day : (c : Else-day-days) → (let a = c.args in lt_z a.day (get_or a.days.now a.j (pos 0)) ≡ false)
by_day c =
    let a = c.args in
    let f : SFits w64 (get_or a.days.now a.j (pos 0)) = search rules in
    rw (to_z-of_z c.ranges.day, to_z-of_z f) at c.if-day-days.false

pub returns-then-days-j : goal.returns-then-days-j
unfolding one_more
returns-then-days-j c = let a = c.args in rw (le-ltb a.j (length a.days.now) c.if-days-j.true)

pub returns-then-day-days : goal.returns-then-day-days
unfolding one_more
returns-then-day-days c =
    let a = c.args in
    let f : SFits w64 (get_or a.days.now a.j (pos 0)) = search rules in
    rw (listed c.before.before, rw (to_z-of_z c.ranges.day, to_z-of_z f) at c.if-day-days.true)

pub returns-then-days-j-2 : goal.returns-then-days-j-2
unfolding one_more
returns-then-days-j-2 c =
    let a = c.args in
    rw (listed c.before.before.before, by_day c.before, le-leb (length a.days.now) (a.j + 1) c.if-days-j-2.true)

pub returns : goal.returns
unfolding one_more
returns c =
    let a = c.args in
    let f : SFits w64 (get_or a.days.now (a.j + 1) (pos 0)) = search rules in
    rw (to_z-of_z c.ranges.day, to_z-of_z f, listed c.before.before.before.before, by_day c.before.before, lt-leb (length a.days.now) (a.j + 1) c.if-days-j-2.false)
