-- `kept_or_made::inner::days::keep_days` meets its contract. The loop's invariant: the suis of the years before year j are found, and their days stand in front.
-- Assumes nothing.
use Rattle.std.specs.Prelude.{Ok}
use mathlib.Core.Path.{◌≡◌, refl, sym, ap, ◌∙◌}
use mathlib.Core.List.{List}
use Prim.Native.Nat.{ℕ, ◌+◌, ◌*◌, ◌≤◌, ◌<◌}
use native.Mathlib.Omega.{arith}
use lib.IntN.{ℤ, pos, ◌+ℤ◌}
use mir.Syntax.{w64}
use mir.Val.{of_z, to_z}
use mir.Facts.{to_z-of_z}
use Rattle.whole.specs.Lists.{placed}
use Rattle.whole.specs.Ranges.{Within, fits<, bounds, back}
use Rattle.inputs.specs.Inputs.{Inputs, inputs, sun}
use Rattle.months.specs.declared.SuiDays.{SuiDays}
use Rattle.months.proofs.theory.Kept as Kept
use Rattle.turns.specs.Listed.{turns_few}
use Rattle.sui.specs.Sui.{sui_days}
use Rattle.suis.specs.Ahead.{YearIn}
use Rattle.build.specs.theory.Walk.{reach_starts, reach_goes_on, year_in}
use Rattle.rebuilt.specs.Rebuild.{days_words}
use Rattle.kept_or_made.specs.OldDays.{AtOld, DaysOf, days_of_years, days_of_lem, moons_long, zhongqi_long, nothing_put, year_put}
use Rattle.kept_or_made.proofs.inner.days.keep_days.Goals as goal
use Rattle.kept_or_made.proofs.inner.days.keep_days.Goals.{After-add-year, After-signed, At-loop-j, Start}
use Rattle.refusals.specs.Verdict.{answered, answered_is, answers_apart, results_apart}

abbrev Loop : Type 0
Loop = At-loop-j

abbrev inputs_of : Start → Inputs
inputs_of start = let a = start.args in inputs a.leap.now a.sunstart.0 a.sun.now a.moonstart.0 a.moon.now

at_turn : (c : Loop) → (let a = c.args in AtOld (inputs_of c.before) a.zone a.suns a.moons a.first a.n a.solstices.now a.newmoons.now a.zhongqi.now a.out.now a.places.solstice c.loop-j.j c.loop-j.from c.loop-j.out)
at_turn c = rw (to_z-of_z c.ranges.zone, to_z-of_z c.ranges.first) at c.loop-j.invariant

-- the numbers of the turn are small
few : (c : Loop) → (c.args.n ≤ 128) × ((c.loop-j.from ≤ 13 * c.loop-j.j) × (c.loop-j.j ≤ c.args.n))
few c = let t = at_turn c in (t.walks.begun.few_years, (t.reached.few, t.in_turn))

-- year j
year_small : (start : Start) → Within 2500 start.args.first
year_small start = Kept.year_small start.args.first start.requires.walks.begun.begins.year_in_range

at_signed : (c : After-signed) → to_z w64 (of_z w64 c.signed.result) ≡ pos c.loop-j.j
at_signed c = back c.signed.result c.signed.type_inv ∙ c.signed.ensures

at_added : (c : After-add-year) → to_z w64 (of_z w64 c.add-year.result) ≡ c.args.first +ℤ pos c.loop-j.j
at_added c = back c.add-year.result c.add-year.type_inv ∙ (rw (to_z-of_z {w = w64} c.ranges.first, back c.signed.result c.signed.type_inv ∙ c.signed.ensures) at c.add-year.ensures)

-- what finding its days asks
year_of : (c : Loop) → c.loop-j.j < c.args.n → (let a = c.args in YearIn (inputs_of c.before) a.zone a.suns a.moons (a.first +ℤ pos c.loop-j.j) (a.places.solstice + c.loop-j.j) c.loop-j.j c.loop-j.from a.solstices.now a.newmoons.now a.zhongqi.now)
year_of c h = let a = c.args in let t = at_turn c in rw t.is_place at (year_in (inputs_of c.before) a.zone a.suns a.moons t.places a.first a.n t.walks.begun t.reached h t.walks)

days_there : (c : Loop) → c.loop-j.j < c.args.n → DaysOf (inputs_of c.before) c.args.zone (c.args.first +ℤ pos c.loop-j.j)
days_there c h = let a = c.args in let t = at_turn c in days_of_lem (inputs_of c.before) a.zone a.first t.walks.begun.is_known a.n t.all c.loop-j.j h

-- the days that are answered are those of year j
at_days : (c : Loop) (taken : c.loop-j.j < c.args.n) {days : SuiDays} → sui_days (inputs_of c.before) c.args.zone (c.args.first +ℤ pos c.loop-j.j) ≡ answered days → days ≡ (days_there c taken).days
at_days c taken e = answers_apart (sym e ∙ (days_there c taken).are_days)

pub loop-j-init : goal.loop-j-init
loop-j-init c =
    let w = c.requires.walks in
    let a = c.args in
    rw (to_z-of_z c.ranges.zone, to_z-of_z c.ranges.first)
    (record {
      places = a.places;
      walks = w;
      is_place = refl;
      all = c.requires.all_found;
      reached = reach_starts (inputs_of c) a.zone a.suns a.moons a.places a.first a.n w.begun;
      put = nothing_put (inputs_of c) a.zone a.first w.begun.is_known a.n c.requires.all_found a.out.now;
      in_turn = omega arith;
    })

pub add-year-requires : goal.add-year-requires
add-year-requires c =
    let at = goal.at.add-year-requires c in
    let small = year_small at.Start in
    rw (to_z-of_z c.ranges.first, at_signed at.After-signed) (fits< (search bounds) (omega (arith, few at.At-loop-j)))

pub overflow_add-place : goal.overflow_add-place
overflow_add-place c =
    let loop = (goal.at.overflow_add-place c).At-loop-j in
    let t = at_turn loop in
    record { fits = omega (arith, few loop, t.is_place, t.walks.solstices_ahead.inside, turns_few (sun (inputs_of loop.before)) t.walks.begun.is_known.sun_ready.is_accepted) }

pub days_after-requires : goal.days_after-requires
days_after-requires c =
    let at = goal.at.days_after-requires c in
    rw (to_z-of_z c.ranges.zone, at_added at.After-add-year) (year_of at.At-loop-j c.loop-j-test.true)

pub unwrap-days-requires : goal.unwrap-days-requires
unwrap-days-requires c =
    let at = goal.at.unwrap-days-requires c in
    let is = days_there at.At-loop-j c.loop-j-test.true in
    let said = rw (to_z-of_z {w = w64} c.ranges.zone, at_added at.After-add-year) at c.days_after.ensures in
    rw (results_apart c.days_after.result (Ok is.days) (said ∙ is.are_days)) refl

pub days_words-words-requires : goal.days_words-words-requires
days_words-words-requires c =
    let at = goal.at.days_words-words-requires c in
    let is = days_there at.At-loop-j c.loop-j-test.true in
    let said = rw (to_z-of_z {w = w64} c.ranges.zone, at_added at.After-add-year) at c.days_after.ensures in
    let known = c.requires.walks.begun.is_known in
    rw (at_days at.At-loop-j c.loop-j-test.true (answered_is said c.unwrap-days.ensures)) (record { months_bound = is.few_months; moons_len = moons_long (inputs_of at.Start) c.args.zone known _ is.are_days; zhongqi_len = zhongqi_long (inputs_of at.Start) c.args.zone known _ is.are_days })

pub overflow_add-from : goal.overflow_add-from
overflow_add-from c =
    let at = goal.at.overflow_add-from c in
    let loop = at.At-loop-j in
    let said = rw (to_z-of_z {w = w64} c.ranges.zone, at_added at.After-add-year) at c.days_after.ensures in
    let days = at_days loop c.loop-j-test.true (answered_is said c.unwrap-days.ensures) in
    record { fits = omega (arith, few loop, ap (λ (d : SuiDays). d.months) days, (days_there loop c.loop-j-test.true).few_months) }

pub loop-j-preserved : goal.loop-j-preserved
unfolding days_there
loop-j-preserved c =
    let at = goal.at.loop-j-preserved c in
    let loop = at.At-loop-j in
    let i = inputs_of at.Start in
    let a = c.args in
    let t = at_turn loop in
    let taken = c.loop-j-test.true in
    let is = days_there loop taken in
    let said = rw (to_z-of_z {w = w64} c.ranges.zone, at_added at.After-add-year) at c.days_after.ensures in
    let days = at_days loop taken (answered_is said c.unwrap-days.ensures) in
    let months = ap (λ (d : SuiDays). d.months) days ∙ is.same_count in
    let out = c.put_words.ensures ∙ ap (λ (l : List ℤ). placed (28 * loop.loop-j.j) l loop.loop-j.out) (c.days_words-words.ensures ∙ ap days_words days) ∙ year_put i a.zone a.first t.walks.begun.is_known a.n t.all a.out.now loop.loop-j.j taken (omega (arith, taken, c.requires.n_in_bounds)) t.put in
    rw (to_z-of_z c.ranges.zone, to_z-of_z c.ranges.first, months) (record {
      places = t.places;
      walks = t.walks;
      is_place = t.is_place;
      all = t.all;
      reached = reach_goes_on i a.zone a.suns a.moons t.places a.first a.n t.walks.begun t.reached is.is_sui;
      put = out;
      in_turn = omega (arith, taken);
    })

pub returns : goal.returns
returns c =
    let a = c.args in
    let t = at_turn c.before in
    let all : c.loop-j.j ≡ a.n = omega (arith, c.loop-j-test.false, t.in_turn) in
    t.put ∙ ap (λ (k : ℕ). placed 0 (days_of_years (inputs_of c.before.before) a.zone a.first k) a.out.now) all
