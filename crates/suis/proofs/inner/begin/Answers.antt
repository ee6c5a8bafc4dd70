-- `suis::inner::begin` meets its contract. In the needs, `start` is the function's entry. Assumes nothing.
use mathlib.Core.Path.{◌≡◌, sym, ap, ap₂, ◌∙◌}
use mathlib.Core.Bool.{true}
use Prim.Native.Nat.{ℕ, ◌-◌, ◌<◌}
use native.Mathlib.Omega.{arith}
use lib.IntN.{pos, ◌-ℤ◌}
use mir.Syntax.{w64}
use mir.Val.{of_z, to_z}
use mir.Facts.{to_z-of_z}
use Rattle.whole.specs.Ranges.{Within, fits, within, bounds, back}
use Rattle.refusals.specs.Verdict.{answered}
use Rattle.series.specs.declared.Body.TheVariants.{Sun, Moon}
use Rattle.series.specs.Series.{Series, series}
use Rattle.months.specs.Limits.{year_in_range}
use Rattle.months.proofs.theory.Kept.{year_small}
use Rattle.times.specs.declared.Day.{Day}
use Rattle.turns.specs.Listed.{turns_of, turns_by}
use Rattle.turns.specs.Searched.{count_is}
use Rattle.suis.specs.Ahead.{solstices_before, new_moons_by}
use Rattle.suis.specs.theory.Begun.{begun_out, begun_no_solstice, begun_no_moon, begun_at}
use Rattle.suis.proofs.inner.begin.Goals as goal
use Rattle.suis.proofs.inner.begin.Goals.{After-in_range, After-subtract, After-turns_by-by, After-turns_by-solstice, Else-listed-solstice, Else-not-in_range, Start}

abbrev sun_of : Start → Series
sun_of start = series Sun start.args.sunstart.0 start.args.sun.now

abbrev moon_of : Start → Series
moon_of start = series Moon start.args.moonstart.0 start.args.moon.now

-- how many solstices come before, and how many new moons by the first
abbrev place_of : Start → ℕ
place_of start = solstices_before start.args.leap.now (sun_of start) (moon_of start) start.args.zone start.args.year

abbrev by_of : Start → ℕ
by_of start = new_moons_by start.args.leap.now (sun_of start) (moon_of start) start.args.zone start.args.year

at_range : (c : After-in_range) → c.in_range.result ≡ year_in_range c.args.year
unfolding year_in_range
at_range c = rw (to_z-of_z c.ranges.year) at c.in_range.ensures

at_year : (c : Else-not-in_range) → year_in_range c.args.year ≡ true
at_year c = sym (at_range c.before) ∙ c.if-not-in_range.false

at_small : (c : Else-not-in_range) → Within 2500 c.args.year
at_small c = year_small c.args.year (at_year c)

at_last : (c : After-subtract) → to_z w64 (of_z w64 c.subtract.result) ≡ c.args.year -ℤ pos 1
at_last c = back c.subtract.result c.subtract.type_inv ∙ (rw (to_z-of_z c.ranges.year) at c.subtract.ensures)

at_place : (c : After-turns_by-solstice) → c.turns_by-solstice.result ≡ place_of c.before.before.before.before.before
at_place c =
    rw (to_z-of_z c.ranges.zone, rw (at_last c.before.before) at c.eve-before.ensures) at c.turns_by-solstice.ensures

-- a solstice is listed there
abbrev Listed : Type 0
Listed = Else-listed-solstice

abbrev start_of : Listed → Start
start_of c = c.before.before.before.before.before.before

is_listed_lem : (c : Listed) → place_of (start_of c) < turns_of (sun_of (start_of c))
is_listed_lem c = omega (arith, c.if-listed-solstice.false, at_place c.before, count_is (start_of c).requires.searched)

at_by : (c : After-turns_by-by) → c.turns_by-by.result ≡ by_of (start_of c.before.before)
at_by c =
    let start = start_of c.before.before in
    let day = rw (to_z-of_z start.ranges.zone, at_place c.before.before.before) at c.day_of_turn-day.ensures in
    (rw (to_z-of_z start.ranges.zone) at c.turns_by-by.ensures) ∙ ap (λ (d : Day). turns_by start.args.leap.now (moon_of start) start.args.zone d.0) day

pub returns-then-not-in_range : goal.returns-then-not-in_range
returns-then-not-in_range c =
    begun_out c.args.leap.now (sun_of c.before.before) (moon_of c.before.before) c.args.zone c.args.year (sym (at_range c.before) ∙ c.if-not-in_range.true)

pub subtract-requires : goal.subtract-requires
subtract-requires c =
    let small = at_small c in
    rw (to_z-of_z c.ranges.year) (fits (search bounds) tt)

pub eve-before-requires : goal.eve-before-requires
eve-before-requires c =
    let small = at_small c.before in
    rw (at_last c) (within (search bounds) tt)

pub returns-then-listed-solstice : goal.returns-then-listed-solstice
returns-then-listed-solstice c =
    begun_no_solstice c.args.leap.now (sun_of c.before.before.before.before.before.before) (moon_of c.before.before.before.before.before.before) c.args.zone c.args.year (at_year c.before.before.before.before) (omega (arith, c.if-listed-solstice.true, at_place c.before, count_is c.requires.searched))

pub returns-then-by-eq0 : goal.returns-then-by-eq0
returns-then-by-eq0 c =
    let start = start_of c.before.before.before in
    begun_no_moon start.args.leap.now (sun_of start) (moon_of start) start.args.zone start.args.year (at_year c.before.before.before.before.before.before.before) (is_listed_lem c.before.before.before) (omega (arith, c.if-by-eq0.true, at_by c.before))

pub returns : goal.returns
returns c =
    let start = start_of c.before.before.before in
    ap₂ (λ (k m : ℕ). answered (record { solstice = k; newmoon = m - 1 })) (at_place c.before.before.before.before) (at_by c.before)
    ∙ begun_at start.args.leap.now (sun_of start) (moon_of start) start.args.zone start.args.year (at_year c.before.before.before.before.before.before.before) (is_listed_lem c.before.before.before) (λ e. c.if-by-eq0.false (at_by c.before ∙ e))
