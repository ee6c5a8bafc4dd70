-- `build::years::put_years` meets its contract. The loop's invariant is `AtYear`. Assumes nothing.
use Rattle.std.specs.Prelude.{Ok, Err}
use mathlib.Core.Path.{◌≡◌, refl, sym, ap, ◌∙◌}
use mathlib.Core.List.{List}
use Prim.Native.Nat.{ℕ, ◌+◌, ◌*◌, ◌≤◌, ◌<◌}
use native.Mathlib.Omega.{arith}
use lib.IntN.{ℤ, pos, ◌+ℤ◌}
use lib.ListN.{length}
use mir.Syntax.{w64}
use mir.Val.{of_z, to_z}
use mir.Facts.{to_z-of_z}
use Rattle.whole.specs.Ranges.{Within, fits<, bounds, back}
use Rattle.refusals.specs.Verdict.{passed_on, Verdict, answered, refusal, answer_or_refusal, paper}
use Rattle.inputs.specs.Inputs.{Inputs, inputs, sun}
use Rattle.refusals.specs.declared.Refusal.{Refusal}
use Rattle.months.proofs.theory.Kept as Kept
use Rattle.months.specs.declared.Sui.{Sui}
use Rattle.turns.specs.Listed.{turns_few}
use Rattle.sui.specs.Sui.{sui_of_year}
use Rattle.suis.specs.Ahead.{YearIn}
use Rattle.suis.specs.theory.Next.{next_year}
use Rattle.build.specs.theory.Put.{months_of, months_in}
use Rattle.build.specs.theory.Answered.{year_refused, year_found}
use Rattle.build.specs.theory.Walk.{AtYear, walk_starts, walk_goes_on, walk_ends, walk_stops, year_in, sui_room, month_room}
use Rattle.build.proofs.years.put_years.Goals as goal
use Rattle.build.proofs.years.put_years.Goals.{After-add-year, After-put_year, After-signed, At-loop-j, Start}

abbrev Loop : Type 0
Loop = At-loop-j

abbrev inputs_of : Start → Inputs
inputs_of start = let a = start.args in inputs a.leap.now a.sunstart.0 a.sun.now a.moonstart.0 a.moon.now

abbrev AtTurn : Start → ℕ → ℕ → List ℤ → List ℤ → Type 0
AtTurn start j from suis months =
    let a = start.args in
    AtYear (inputs_of start) a.zone a.suns a.moons a.first a.n a.solstices.now a.newmoons.now a.zhongqi.now a.suis.now a.months.now a.places.solstice j from suis months

at_turn : (c : Loop) → AtTurn c.before c.loop-j.j c.loop-j.from c.loop-j.suis c.loop-j.months
at_turn c = rw (to_z-of_z c.ranges.zone, to_z-of_z c.ranges.first) at c.loop-j.invariant

-- the numbers of the turn are small
few : (c : Loop) → (c.args.n ≤ 128) × (c.loop-j.from ≤ 13 * c.loop-j.j) × (c.loop-j.j ≤ c.args.n)
few c = let t = at_turn c in (t.walks.begun.few_years, t.walked.reached.few, t.in_turn)

-- year j
year_small : (start : Start) → Within 2500 start.args.first
year_small start = Kept.year_small start.args.first start.requires.walks.begun.begins.year_in_range

at_signed : (c : After-signed) → to_z w64 (of_z w64 c.signed.result) ≡ pos c.loop-j.j
at_signed c = back c.signed.result c.signed.type_inv ∙ c.signed.ensures

at_added : (c : After-add-year) → to_z w64 (of_z w64 c.add-year.result) ≡ c.args.first +ℤ pos c.loop-j.j
at_added c = back c.add-year.result c.add-year.type_inv ∙ (rw (to_z-of_z c.ranges.first, at_signed c.before) at c.add-year.ensures)

-- what finding its sui asks
year_of : (c : Loop) → c.loop-j.j < c.args.n → (let a = c.args in YearIn (inputs_of c.before) a.zone a.suns a.moons (a.first +ℤ pos c.loop-j.j) (a.places.solstice + c.loop-j.j) c.loop-j.j c.loop-j.from a.solstices.now a.newmoons.now a.zhongqi.now)
year_of c h = let a = c.args in let t = at_turn c in rw t.is_place at (year_in (inputs_of c.before) a.zone a.suns a.moons t.places a.first a.n t.walks.begun t.walked.reached h t.walks)

-- the room for it
rooms : (c : Loop) → (length c.loop-j.suis ≡ length c.args.suis.now) × (length c.loop-j.months ≡ length c.args.months.now)
rooms c =
    let a = c.args in
    let t = at_turn c in (
      sui_room (inputs_of c.before) a.zone a.suns a.moons t.places a.first a.n t.walks.begun a.suis.now a.months.now t.walked c.requires.n_in_bounds t.in_turn,
      month_room (inputs_of c.before) a.zone a.suns a.moons t.places a.first a.n t.walks.begun a.suis.now a.months.now t.walked c.requires.n_in_bounds_2 t.in_turn,
    )

abbrev Put : Type 0
Put = After-put_year

abbrev loop_of : Put → Loop
loop_of c = c.before.before.before.before.before.before

abbrev taken_of : (c : Put) → (loop_of c).loop-j.j < (loop_of c).before.args.n
taken_of c = c.loop-j-test.true

-- the sui of year j
abbrev sui_of : Loop → Verdict Sui
sui_of c = sui_of_year (inputs_of c.before) c.args.zone (c.args.first +ℤ pos c.loop-j.j)

says : (c : Put) → (paper c.put_year.result ≡ months_of (sui_of (loop_of c)))
says c = (rw (to_z-of_z {w = w64} (loop_of c).before.ranges.zone, at_added c.before.before.before) at c.put_year.ensures).result_value

-- refused, by why
refused_by : (c : Put) {r : Refusal} → c.put_year.result ≡ Err r → sui_of (loop_of c) ≡ refusal r
refused_by c {r} e = year_refused (sui_of (loop_of c)) (sym (ap paper e) ∙ says c)

-- found, with so many months
found_with : (c : Put) {count : ℕ} → c.put_year.result ≡ Ok count → (sui : Sui) × (sui_of (loop_of c) ≡ answered sui) × (sui.count ≡ count)
found_with c e = year_found (sui_of (loop_of c)) (sym (ap paper e) ∙ says c)

pub loop-j-init : goal.loop-j-init
loop-j-init c =
    let w = c.requires.walks in
    let a = c.args in
    rw (to_z-of_z c.ranges.zone, to_z-of_z c.ranges.first)
    (record { places = a.places; walks = w; is_place = refl; walked = walk_starts (inputs_of c) a.zone a.suns a.moons a.places a.first a.n w.begun a.suis.now a.months.now; in_turn = omega arith })

pub signed-requires : goal.signed-requires
signed-requires c = omega (arith, few c.before)

pub add-year-requires : goal.add-year-requires
add-year-requires c = let small = year_small c.before.before.before in rw (to_z-of_z c.ranges.first, at_signed c) (fits< (search bounds) (omega (arith, few c.before.before)))

pub overflow_add-place : goal.overflow_add-place
overflow_add-place c =
    let t = at_turn c.before.before.before in
    let a = c.args in
    record { fits = omega (arith, few c.before.before.before, t.is_place, t.walks.solstices_ahead.inside, turns_few (sun (inputs_of c.before.before.before.before)) t.walks.begun.is_known.sun_ready.is_accepted) }

pub put_year-requires : goal.put_year-requires
put_year-requires c =
    let taken = c.loop-j-test.true in
    rw (to_z-of_z c.ranges.zone, at_added c.before.before)
    (record { year_in = year_of c.before.before.before.before.before taken; j_bound = omega (arith, few c.before.before.before.before.before, taken); from_bound = omega (arith, few c.before.before.before.before.before, taken); j_in_bounds = omega (arith, few c.before.before.before.before.before, taken, rooms c.before.before.before.before.before, c.requires.n_in_bounds); from_in_bounds = omega (arith, few c.before.before.before.before.before, taken, rooms c.before.before.before.before.before, c.requires.n_in_bounds_2) })

pub returns-in_err-count : goal.returns-in_err-count
returns-in_err-count c =
    let put = (goal.at.returns-in_err-count c).After-put_year in
    let loop = loop_of put in
    let a = loop.args in
    let t = at_turn loop in
    let stops = walk_stops (inputs_of loop.before) a.zone a.suns a.moons t.places a.first a.n t.walks.begun a.suis.now a.months.now t.walked (refused_by put c.in_err-count.was) (taken_of put) in
    record {
      result_value = passed_on c.from_residual.result c.in_err-count.field-0.0 c.from_residual.ensures.1 (sym (ap months_in stops));
      suis_after = λ found e. answer_or_refusal (sym e ∙ stops);
      months_after = λ found e. answer_or_refusal (sym e ∙ stops);
    }

pub overflow_add-from : goal.overflow_add-from
overflow_add-from c =
    let put = (goal.at.overflow_add-from c).After-put_year in
    let loop = loop_of put in
    let found = found_with put c.in_ok-count.was in
    let next = next_year (inputs_of loop.before) loop.args.zone (at_turn loop).walks.begun.is_known (loop.args.first +ℤ pos loop.loop-j.j) found.1 in
    record { fits = omega (arith, few loop, found.2, next.thirteen_at_most) }

pub loop-j-preserved : goal.loop-j-preserved
loop-j-preserved c =
    let put = (goal.at.loop-j-preserved c).After-put_year in
    let loop = loop_of put in
    let start = loop.before in
    let a = start.args in
    let t = at_turn loop in
    let turn = taken_of put in
    let found = found_with put c.in_ok-count.was in
    let told = rw (to_z-of_z start.ranges.zone, at_added put.before.before.before, found.1) at c.put_year.ensures in
    let goes_on = walk_goes_on (inputs_of start) a.zone a.suns a.moons t.places a.first a.n t.walks.begun a.suis.now a.months.now t.walked found.1 (omega (arith, turn, start.requires.n_in_bounds)) (omega (arith, turn, few loop, start.requires.n_in_bounds_2)) told.suis_after told.months_after in
    rw (to_z-of_z start.ranges.zone, to_z-of_z start.ranges.first) (record { places = t.places; walks = t.walks; is_place = t.is_place; walked = rw found.2 at goes_on; in_turn = omega (arith, turn) })

pub returns : goal.returns
returns c =
    let loop = (goal.at.returns c).At-loop-j in
    let a = c.args in
    let t = at_turn loop in
    let all : c.loop-j.j ≡ a.n = omega (arith, c.loop-j-test.false, t.in_turn) in
    let ends = walk_ends (inputs_of loop.before) a.zone a.suns a.moons t.places a.first a.n t.walks.begun a.suis.now a.months.now t.walked all in
    record { result_value = ends.0; suis_after = ends.1.0; months_after = ends.1.1 }
