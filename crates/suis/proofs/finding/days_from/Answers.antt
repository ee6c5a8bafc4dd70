-- `suis::finding::days_from` meets its contract. In the needs, `start` is the function's entry. Assumes nothing.
use lib.ListN.{length}
use mathlib.Core.Path.{◌≡◌, sym, ap, ◌∙◌}
use mathlib.Core.Bool.{true}
use mathlib.Core.List.{List}
use Prim.Native.Nat.{suc, ◌<◌}
use lib.IntN.{ℤ}
use mir.Facts.{to_z-of_z}
use Rattle.refusals.specs.Verdict.{paper, answered_then, refused_then}
use Rattle.series.specs.Series.{Series}
use Rattle.inputs.specs.Inputs.{Inputs, inputs, sun, moon}
use Rattle.months.specs.Limits.{year_in_range}
use Rattle.months.specs.Months.{days_of}
use Rattle.months.proofs.theory.Kept.{year_small}
use Rattle.turns.specs.Listed.{turn_index_of, turn_days, turns_of}
use Rattle.sui.specs.theory.Found.{one_in_each, zhongqi_from}
use Rattle.sui.proofs.theory.Found.{found_when, missing_when, out_of_range, sui_days_are}
use Rattle.suis.specs.theory.Each.{each_is, both_listed}
use Rattle.suis.specs.theory.Next.{first_is_turn, solstices_in_order}
use Rattle.suis.proofs.finding.days_from.Goals as goal
use Rattle.suis.proofs.finding.days_from.Goals.{After-in_range, After-one_in_each, Else-not-in_range, Else-not-one_in_each, Start}

abbrev inputs_of : Start → Inputs
inputs_of start = let a = start.args in inputs a.leap.now a.sunstart.0 a.sun.now a.moonstart.0 a.moon.now

abbrev sun_of : Start → Series
sun_of start = sun (inputs_of start)

abbrev index_of : Start → ℤ
index_of start = turn_index_of (sun_of start) start.args.place

at_range : (c : After-in_range) → c.in_range.result ≡ year_in_range c.args.year
unfolding year_in_range
at_range c = rw (to_z-of_z c.ranges.year) at c.in_range.ensures

at_year : (c : Else-not-in_range) → year_in_range c.args.year ≡ true
at_year c = sym (at_range c.before) ∙ c.if-not-in_range.false

at_each : (c : After-one_in_each) → (c.one_in_each.result ≡ one_in_each c.args.leap.now (sun_of c.before.before.before) c.args.zone c.args.year)
at_each c =
    let a = c.args in
    (rw (to_z-of_z c.ranges.year) at c.one_in_each.ensures) ∙ each_is a.leap.now a.sunstart.0 a.sun.now a.zone a.year c.requires.solstices_ahead c.requires.is_place c.requires.is_known.sun_ready

abbrev Found : Type 0
Found = Else-not-one_in_each

abbrev start_of : Found → Start
start_of c = c.before.before.before.before

found_one : (c : Found) → (let start = start_of c in one_in_each start.args.leap.now (sun_of start) start.args.zone start.args.year ≡ true)
found_one c = sym (at_each c.before) ∙ c.if-not-one_in_each.false

-- both solstices are listed, and the lent zhongqi days are those from the first to the second
listed : (c : Found) → suc (start_of c).args.place < turns_of (sun_of (start_of c))
listed c = let start = start_of c in let a = start.args in both_listed a.leap.now a.sunstart.0 a.sun.now a.zone a.year start.requires.solstices_ahead start.requires.is_place (found_one c)

at_zhongqi : (c : Found) → (let start = start_of c in start.args.zhongqi.now ≡ zhongqi_from start.args.leap.now (sun_of start) start.args.zone (index_of start))
at_zhongqi c = (start_of c).requires.are_zhongqi (listed c)

pub returns-then-not-in_range : goal.returns-then-not-in_range
returns-then-not-in_range c =
    let out = sym (at_range (goal.at.returns-then-not-in_range c).After-in_range) ∙ c.if-not-in_range.true in
    (out_of_range (inputs_of (goal.at.returns-then-not-in_range c).Start) c.args.zone c.requires.is_known c.args.year out)

pub one_in_each-requires : goal.one_in_each-requires
one_in_each-requires c = rw (to_z-of_z c.ranges.year) (year_small c.args.year (at_year c))

pub returns-then-not-one_in_each : goal.returns-then-not-one_in_each
returns-then-not-one_in_each c =
    let a = c.args in
    let none = sym (at_each (goal.at.returns-then-not-one_in_each c).After-one_in_each) ∙ c.if-not-one_in_each.true in
    (refused_then (λ (j : ℤ). days_of (turn_days a.leap.now (moon (inputs_of (goal.at.returns-then-not-one_in_each c).Start)) a.zone) (zhongqi_from a.leap.now (sun_of (goal.at.returns-then-not-one_in_each c).Start) a.zone j)) (missing_when a.leap.now (sun_of (goal.at.returns-then-not-one_in_each c).Start) a.zone a.year none)
    ∙ sym (sui_days_are (inputs_of (goal.at.returns-then-not-one_in_each c).Start) a.zone c.requires.is_known a.year (at_year (goal.at.returns-then-not-one_in_each c).Else-not-in_range)))

pub days_within-requires : goal.days_within-requires
days_within-requires c =
    let start = start_of c in
    let a = start.args in
    let first = first_is_turn (inputs_of start) a.zone a.place in
    rw (to_z-of_z start.ranges.zone) (rw (at_zhongqi c, first) (record { searched = start.requires.moons_searched; zhongqi_len = ap length (sym (at_zhongqi c)) ∙ start.requires.thirteen; pos_bound = rw first at (solstices_in_order (inputs_of start) a.zone a.place start.requires.is_known (listed c)); nonzero = start.requires.some_moons; ahead = start.requires.moons_ahead }))

pub returns : goal.returns
returns c =
    let start = start_of c.before in
    let a = start.args in
    let moons = turn_days a.leap.now (moon (inputs_of start)) a.zone in
    let days : paper c.days_within.result ≡ days_of moons a.zhongqi.now = rw (to_z-of_z start.ranges.zone) at c.days_within.ensures in
    let index = ap (turn_index_of (sun_of start)) start.requires.is_place in
    days
    ∙ ap (λ (l : List ℤ). (days_of moons l)) (at_zhongqi c.before)
    ∙ ap (λ (j : ℤ). (days_of moons (zhongqi_from a.leap.now (sun_of start) a.zone j))) index
    ∙ (answered_then (λ (j : ℤ). days_of moons (zhongqi_from a.leap.now (sun_of start) a.zone j)) (found_when a.leap.now (sun_of start) a.zone a.year (found_one c.before))
    ∙ sym (sui_days_are (inputs_of start) a.zone start.requires.is_known a.year (at_year c.before.before.before)))
