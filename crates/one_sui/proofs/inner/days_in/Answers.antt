-- `one_sui::inner::days_in` meets its contract. In the needs, `start` is the function's entry. Assumes nothing.
use mathlib.Core.Path.{◌≡◌, sym, ap, ap₂, ◌∙◌}
use mathlib.Core.List.{List}
use mathlib.Core.Bool.{true}
use Prim.Native.Nat.{ℕ, ◌*◌}
use native.Mathlib.Omega.{arith}
use lib.IntN.{ℤ, pos, ◌+ℤ◌, ◌-ℤ◌}
use mir.Syntax.{w64}
use mir.Val.{of_z, to_z}
use mir.Facts.{to_z-of_z}
use Rattle.whole.specs.Ranges.{Within, fits, within, bounds, fits_of, back}
use Rattle.series.specs.Series.{Series}
use Rattle.inputs.specs.Inputs.{Inputs, inputs, sun, moon}
use Rattle.months.specs.Limits.{year_in_range}
use Rattle.months.specs.Months.{days_of}
use Rattle.months.proofs.theory.Kept.{year_small}
use Rattle.refusals.specs.Verdict.{paper, answered_then, refused_then}
use Rattle.turns.specs.declared.inner.TurnList.{TurnList}
use Rattle.turns.specs.Listed.{turn_index_of, turn_after, turn_days, turns_by}
use Rattle.sui.specs.theory.Solstices.{eve}
use Rattle.sui.specs.theory.Found.{one_in_each, zhongqi_from}
use Rattle.sui.proofs.theory.Found.{found_when, missing_when, out_of_range, sui_days_are, two_listed, to_the_second}
use Rattle.turns.specs.Searched.{Searched, turn_fits, circles_small}
use Rattle.one_sui.proofs.inner.days_in.Goals as goal
use Rattle.one_sui.proofs.inner.days_in.Goals.{After-in_range, After-one_in_each, After-subtract, After-turn_index-index, After-turns_by-before, After-turns_of-turns, Else-not-in_range, Else-not-one_in_each, Start}

abbrev inputs_of : Start → Inputs
inputs_of start = let a = start.args in inputs a.leap.now a.sunstart.0 a.sun.now a.moonstart.0 a.moon.now

abbrev sun_of : Start → Series
sun_of start = sun (inputs_of start)

-- how many solstices lie before the year before
abbrev before_of : Start → ℕ
before_of start = turns_by start.args.leap.now (sun_of start) start.args.zone (eve (start.args.year -ℤ pos 1))

at_range : (c : After-in_range) → c.in_range.result ≡ year_in_range c.args.year
unfolding year_in_range
at_range c = rw (to_z-of_z c.ranges.year) at c.in_range.ensures

at_year : (c : Else-not-in_range) → year_in_range c.args.year ≡ true
at_year c = sym (at_range c.before) ∙ c.if-not-in_range.false

at_small : (c : Else-not-in_range) → Within 2500 c.args.year
at_small c = year_small c.args.year (at_year c)

at_turns : (c : After-turns_of-turns) → (Searched c.args.leap.now (sun_of c.before.before.before) c.args.zone c.turns_of-turns.result)
at_turns c = record { ready = c.requires.known.sun_ready; zone_small = c.requires.within; are_turns = c.turns_of-turns.ensures }

at_last : (c : After-subtract) → to_z w64 (of_z w64 c.subtract.result) ≡ c.args.year -ℤ pos 1
at_last c = back c.subtract.result c.subtract.type_inv ∙ (rw (to_z-of_z c.ranges.year) at c.subtract.ensures)

at_before : (c : After-turns_by-before) → c.turns_by-before.result ≡ before_of c.before.before.before.before.before.before
at_before c =
    rw (to_z-of_z c.ranges.zone, rw (at_last c.before.before) at c.eve-first.ensures) at c.turns_by-before.ensures

at_one : (c : After-one_in_each) → (c.one_in_each.result ≡ one_in_each c.args.leap.now (sun_of c.before.before.before.before.before.before.before) c.args.zone c.args.year)
at_one c = rw (to_z-of_z c.ranges.zone, to_z-of_z c.ranges.year) at c.one_in_each.ensures

abbrev Found : Type 0
Found = Else-not-one_in_each

abbrev year_at_lem : Found → Else-not-in_range
year_at_lem c = c.before.before.before.before.before.before

abbrev start_of : Found → Start
start_of c = (year_at_lem c).before.before

found_one : (c : Found) → (let start = start_of c in one_in_each start.args.leap.now (sun_of start) start.args.zone start.args.year ≡ true)
found_one c = sym (at_one c.before) ∙ c.if-not-one_in_each.false

-- the first solstice's index
abbrev turns_at : Found → After-turns_of-turns
turns_at c = c.before.before.before.before.before

index_made : (c : Found) → (turns_at c).turns_of-turns.result.first +ℤ pos (24 * c.turns_by-before.result) ≡ turn_index_of (sun_of (start_of c)) (before_of (start_of c))
index_made c = ap₂ (λ (j : ℤ) (n : ℕ). j +ℤ pos (24 * n)) (ap (λ (t : TurnList). t.first) (turns_at c).turns_of-turns.ensures) (at_before c.before.before)

at_index : (c : After-turn_index-index) → (let start = start_of c.before.before in to_z w64 (of_z w64 c.turn_index-index.result) ≡ turn_index_of (sun_of start) (before_of start))
at_index c =
    let f = fits_of (turns_at c.before.before).turns_of-turns.result.first (omega arith) in
    back c.turn_index-index.result c.turn_index-index.type_inv ∙ (rw (to_z-of_z f) at c.turn_index-index.ensures) ∙ index_made c.before.before

pub returns-then-not-in_range : goal.returns-then-not-in_range
returns-then-not-in_range c =
    let out = sym (at_range (goal.at.returns-then-not-in_range c).After-in_range) ∙ c.if-not-in_range.true in
    (out_of_range (inputs_of (goal.at.returns-then-not-in_range c).Start) c.args.zone c.requires.known c.args.year out)

pub turns_of-turns-requires : goal.turns_of-turns-requires
turns_of-turns-requires c = c.requires.known.sun_ready.is_accepted

pub subtract-requires : goal.subtract-requires
subtract-requires c =
    let small = at_small c.before in
    rw (to_z-of_z c.ranges.year) (fits (search bounds) tt)

pub eve-first-requires : goal.eve-first-requires
eve-first-requires c =
    let small = at_small c.before.before in
    rw (at_last c) (within (search bounds) tt)

pub turns_by-before-requires : goal.turns_by-before-requires
turns_by-before-requires c = rw (to_z-of_z c.ranges.zone) (at_turns c.before.before)

pub one_in_each-requires : goal.one_in_each-requires
one_in_each-requires c =
    rw (to_z-of_z c.ranges.zone, to_z-of_z c.ranges.year) (record { searched = at_turns c.before.before.before; within = at_small c.before.before.before.before; before_value = at_before c })

pub returns-then-not-one_in_each : goal.returns-then-not-one_in_each
returns-then-not-one_in_each c =
    let a = c.args in
    let none = sym (at_one (goal.at.returns-then-not-one_in_each c).After-one_in_each) ∙ c.if-not-one_in_each.true in
    (refused_then (λ (j : ℤ). days_of (turn_days a.leap.now (moon (inputs_of (goal.at.returns-then-not-one_in_each c).Start)) a.zone) (zhongqi_from a.leap.now (sun_of (goal.at.returns-then-not-one_in_each c).Start) a.zone j)) (missing_when a.leap.now (sun_of (goal.at.returns-then-not-one_in_each c).Start) a.zone a.year none)
    ∙ sym (sui_days_are (inputs_of (goal.at.returns-then-not-one_in_each c).Start) a.zone c.requires.known a.year (at_year (goal.at.returns-then-not-one_in_each c).Else-not-in_range)))

pub turn_index-index-requires : goal.turn_index-index-requires
turn_index-index-requires c =
    let start = start_of c.before.before in
    let a = start.args in
    let e = start.requires.known.sun_ready.is_accepted in
    let listed = two_listed a.leap.now a.sunstart.0 a.sun.now a.zone a.year (found_one c.before.before) in
    let f = fits_of (turns_at c.before.before).turns_of-turns.result.first (omega arith) in record { k_bound = omega (arith, at_before c.before.before.before.before, circles_small (sun_of start) e (before_of start) (omega arith)); sfits = rw (to_z-of_z f, index_made c.before.before) (turn_fits (sun_of start) e (before_of start) (omega arith)) }

pub zhongqi_days-zhongqi-requires : goal.zhongqi_days-zhongqi-requires
zhongqi_days-zhongqi-requires c =
    let start = start_of c.before.before in
    let a = start.args in
    rw (at_index c, to_z-of_z start.ranges.zone)
    (record { ready = start.requires.known.sun_ready; within = start.requires.within; coefs_bound = turn_after (sun_of start) (before_of start); pos_bound = to_the_second a.leap.now a.sunstart.0 a.sun.now a.zone a.year (found_one c.before.before) })

pub days_from-requires : goal.days_from-requires
days_from-requires c = let start = start_of c.before.before.before in rw (to_z-of_z start.ranges.zone) (record { ready = start.requires.known.moon_ready; within = start.requires.within })

pub returns : goal.returns
returns c =
    let start = start_of c.before.before.before.before in
    let a = start.args in
    let zhongqi : c.zhongqi_days-zhongqi.result ≡ zhongqi_from a.leap.now (sun_of start) a.zone (turn_index_of (sun_of start) (before_of start)) = rw (at_index c.before.before, to_z-of_z start.ranges.zone) at c.zhongqi_days-zhongqi.ensures in
    let days : paper c.days_from.result ≡ days_of (turn_days a.leap.now (moon (inputs_of start)) a.zone) c.zhongqi_days-zhongqi.result = rw (to_z-of_z start.ranges.zone) at c.days_from.ensures in
    days
    ∙ ap (λ (l : List ℤ). (days_of (turn_days a.leap.now (moon (inputs_of start)) a.zone) l)) zhongqi
    ∙ (answered_then (λ (j : ℤ). days_of (turn_days a.leap.now (moon (inputs_of start)) a.zone) (zhongqi_from a.leap.now (sun_of start) a.zone j)) (found_when a.leap.now (sun_of start) a.zone a.year (found_one c.before.before.before.before))
    ∙ sym (sui_days_are (inputs_of start) a.zone start.requires.known a.year (at_year (year_at_lem c.before.before.before.before))))
