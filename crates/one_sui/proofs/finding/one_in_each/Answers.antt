-- `one_sui::finding::one_in_each` meets its contract. In the needs, `start` is the function's entry. Assumes nothing.
use mathlib.Core.Path.{◌≡◌, sym, ◌∙◌}
use Prim.Native.Nat.{ℕ, ◌+◌}
use native.Mathlib.Omega.{arith}
use lib.Dec.{eqb}
use lib.IntN.{ℤ, pos, ◌+ℤ◌, ◌-ℤ◌}
use mir.Syntax.{w64}
use mir.Val.{of_z, to_z}
use mir.Facts.{to_z-of_z}
use Rattle.whole.specs.Booleans.{first_fails}
use Rattle.whole.specs.Ranges.{fits, within, bounds, back}
use Rattle.series.specs.declared.Body.TheVariants.{Sun}
use Rattle.series.specs.Series.{series}
use Rattle.sui.specs.theory.Solstices.{eve}
use Rattle.turns.specs.Searched.{by_small, count_small}
use Rattle.turns.specs.Listed.{turns_by}
use Rattle.one_sui.proofs.finding.one_in_each.Goals as goal
use Rattle.one_sui.proofs.finding.one_in_each.Goals.{After-add, After-one_more, After-one_more-2, Start}

-- how many solstices come by an eve
abbrev by_eve : Start → ℤ → ℕ
by_eve start year = turns_by start.args.leap.now (series Sun start.args.start.0 start.args.coefs.now) start.args.zone (eve year)

before_is : (start : Start) → start.args.before ≡ by_eve start (start.args.year -ℤ pos 1)
before_is start = start.requires.before_value

at_one : (c : After-one_more) → (c.one_more.result ≡ eqb (by_eve c.before.before c.args.year) (by_eve c.before.before (c.args.year -ℤ pos 1) + 1))
at_one c = rw (to_z-of_z c.ranges.zone, rw (to_z-of_z c.ranges.year) at c.eve-last.ensures, before_is c.before.before) at c.one_more.ensures

at_year : (c : After-add) → to_z w64 (of_z w64 c.add.result) ≡ c.args.year +ℤ pos 1
at_year c = back c.add.result c.add.type_inv ∙ (rw (to_z-of_z c.ranges.year) at c.add.ensures)

at_two : (c : After-one_more-2) → (c.one_more-2.result ≡ eqb (by_eve c.before.before.before.before.before.before (c.args.year +ℤ pos 1)) (by_eve c.before.before.before.before.before.before (c.args.year -ℤ pos 1) + 1 + 1))
at_two c =
    rw (to_z-of_z c.ranges.zone, rw (at_year c.before.before) at c.eve-next.ensures, before_is c.before.before.before.before.before.before) at c.one_more-2.ensures

pub eve-last-requires : goal.eve-last-requires
eve-last-requires c = rw (to_z-of_z c.ranges.year) (record { within = omega (arith, c.requires.within.within) })

pub returns-then-not-one_more : goal.returns-then-not-one_more
returns-then-not-one_more c =
    let none = sym (at_one c.before) ∙ c.if-not-one_more.true in
    sym (first_fails (eqb (by_eve c.before.before.before c.args.year) (by_eve c.before.before.before (c.args.year -ℤ pos 1) + 1)) (eqb (by_eve c.before.before.before (c.args.year +ℤ pos 1)) (by_eve c.before.before.before (c.args.year -ℤ pos 1) + 1 + 1)) none)

pub add-requires : goal.add-requires
add-requires c = let small = c.requires.within in rw (to_z-of_z c.ranges.year) (fits (search bounds) tt)

pub eve-next-requires : goal.eve-next-requires
eve-next-requires c = let small = c.requires.within in rw (at_year c) (within (search bounds) tt)

pub overflow_add-before : goal.overflow_add-before
overflow_add-before c = record { fits = omega (arith, before_is c.before.before.before.before.before, by_small c.requires.searched (eve (c.args.year -ℤ pos 1)), count_small c.requires.searched) }

pub returns : goal.returns
returns c =
    let one = sym (at_one c.before.before.before.before) ∙ c.if-not-one_more.false in
    at_two c ∙ rw one
