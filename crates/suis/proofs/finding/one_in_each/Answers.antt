-- `suis::finding::one_in_each` meets its contract. In the needs, `start` is the function's entry. Assumes nothing.
use mathlib.Core.Path.{◌≡◌, sym, ◌∙◌}
use native.Mathlib.Omega.{arith}
use lib.IntN.{pos, ◌+ℤ◌}
use mir.Syntax.{w64}
use mir.Val.{SFits, of_z, to_z}
use mir.Facts.{to_z-of_z}
use Rattle.whole.specs.Booleans.{first_fails}
use Rattle.whole.specs.Ranges.{fits, within, bounds, back}
use Rattle.sui.specs.theory.Solstices.{eve}
use Rattle.suis.specs.Ahead.{one_more}
use borrow.Author.Rules.{rules}
use Rattle.suis.proofs.finding.one_in_each.Goals as goal
use Rattle.suis.proofs.finding.one_in_each.Goals.{After-add, After-one_more, After-one_more-2}

at_one : (c : After-one_more) → (let a = c.args in c.one_more.result ≡ one_more a.solstices.now 0 (eve a.year))
at_one c =
    let day = c.eve-last.result.0 in
    let f : SFits w64 day = search rules in
    rw (to_z-of_z f, rw (to_z-of_z c.ranges.year) at c.eve-last.ensures) at c.one_more.ensures

at_year : (c : After-add) → to_z w64 (of_z w64 c.add.result) ≡ c.args.year +ℤ pos 1
at_year c = back c.add.result c.add.type_inv ∙ (rw (to_z-of_z c.ranges.year) at c.add.ensures)

at_two : (c : After-one_more-2) → (let a = c.args in c.one_more-2.result ≡ one_more a.solstices.now 1 (eve (a.year +ℤ pos 1)))
at_two c =
    let day = c.eve-next.result.0 in
    let f : SFits w64 day = search rules in
    rw (to_z-of_z f, rw (at_year c.before.before.before) at c.eve-next.ensures) at c.one_more-2.ensures

pub eve-last-requires : goal.eve-last-requires
eve-last-requires c = rw (to_z-of_z c.ranges.year) (record { within = omega (arith, c.requires.within) })

pub returns-then-not-one_more : goal.returns-then-not-one_more
returns-then-not-one_more c =
    let a = c.args in
    let none = sym (at_one c.before) ∙ c.if-not-one_more.true in
    sym (first_fails (one_more a.solstices.now 0 (eve a.year)) (one_more a.solstices.now 1 (eve (a.year +ℤ pos 1))) none)

pub add-requires : goal.add-requires
add-requires c = let small = c.requires in rw (to_z-of_z c.ranges.year) (fits (search bounds) tt)

pub eve-next-requires : goal.eve-next-requires
eve-next-requires c = let small = c.requires in rw (at_year c) (within (search bounds) tt)

pub returns : goal.returns
returns c =
    let one = sym (at_one c.before.before.before.before.before) ∙ c.if-not-one_more.false in
    at_two c ∙ rw one
