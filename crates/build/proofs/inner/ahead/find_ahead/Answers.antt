-- `build::inner::ahead::find_ahead` meets its contract. In the needs, `start` is the function's entry. Assumes nothing.
use mathlib.Core.Path.{◌≡◌, sym, ap, subst, ◌∙◌}
use mathlib.Core.List.{◌++◌}
use Prim.Native.Nat.{ℕ, ◌+◌, ◌*◌, ◌≤◌, ◌<◌}
use native.Mathlib.Omega.{arith}
use native.Mathlib.Decide.{dec_lt}
use lib.IntN.{ℤ}
use lib.ListN.{length, take, drop, length-append}
use lib.Seq.{length-take-le}
use mir.Facts.{to_z-of_z}
use Rattle.whole.specs.Lists.{placed_length}
use Rattle.whole.specs.Tabulated.{tabulate, length_tabulate}
use Rattle.inputs.specs.Inputs.{Inputs, inputs, sun, moon}
use Rattle.turns.specs.theory.Counting.{by_small}
use Rattle.turns.specs.Listed.{turn_day, turns_of}
use Rattle.turns.specs.Searched.{Searched, count_is}
use Rattle.suis.specs.Ahead.{Ahead, zhongqi_of, solstices_before}
use Rattle.suis.specs.theory.Lookups.{Fewer, fewer_says, ahead_made, ahead_any}
use Rattle.suis.specs.theory.Zhongqi.{length_zhongqi, zhongqi_made}
use Rattle.build.proofs.inner.ahead.find_ahead.Goals as goal
use Rattle.build.proofs.inner.ahead.find_ahead.Goals.{After-days_ahead, After-days_ahead-2, After-fewer-m, After-fewer-s, After-fewer-suis, Start}

abbrev inputs_of : Start → Inputs
inputs_of start = let a = start.args in inputs a.leap.now a.sunstart.0 a.sun.now a.moonstart.0 a.moon.now

solstice_listed : (start : Start) → start.args.places.solstice ≤ start.args.suns.count
solstice_listed start = omega (arith, count_is start.requires.begins.suns_searched, start.requires.begins.begins.is_place, start.requires.begins.begins.is_listed)

moon_listed : (start : Start) → start.args.places.newmoon ≤ start.args.moons.count
moon_listed start =
    let a = start.args in
    let i = inputs_of start in
    let at = start.requires.begins.begins in
    omega (arith, count_is start.requires.begins.moons_searched, at.is_moon, by_small (turn_day a.leap.now (moon i) a.zone) (turn_day a.leap.now (sun i) a.zone (solstices_before a.leap.now (sun i) (moon i) a.zone a.first)) (turns_of (moon i)))

-- as many days as there are, up to what n suis can need
suns_ahead : (c : After-fewer-s) → (Fewer (turns_of (sun (inputs_of c.before))) c.args.places.solstice (c.args.n + 2) c.fewer-s.result)
suns_ahead c =
    let listed = count_is c.requires.begins.suns_searched in
    rw (← listed, c.fewer-s.ensures) (fewer_says c.args.suns.count c.args.places.solstice (c.args.n + 2) (solstice_listed c.before))

moons_ahead : (c : After-fewer-m) → (Fewer (turns_of (moon (inputs_of c.before.before.before.before.before))) c.args.places.newmoon (13 * c.args.n + 2) c.fewer-m.result)
moons_ahead c =
    let listed = count_is c.requires.begins.moons_searched in
    rw (← listed, c.fewer-m.ensures) (fewer_says c.args.moons.count c.args.places.newmoon (13 * c.args.n + 2) (moon_listed c.before.before.before.before.before))

-- those found, and the zhongqi between them
abbrev Suns : Type 0
Suns = After-days_ahead

abbrev Moons : Type 0
Moons = After-days_ahead-2

solstices_ahead : (c : Suns) → (let a = c.args in Ahead a.leap.now (sun (inputs_of c.before.before.before)) a.zone a.places.solstice (a.n + 2) (take c.fewer-s.result c.days_ahead.new.out))
solstices_ahead c = ahead_made _ (suns_ahead c.before.before) (rw (to_z-of_z c.ranges.zone) at c.days_ahead.ensures)

found_long : (c : Suns) → c.fewer-s.result ≤ length c.days_ahead.new.out
found_long c =
    let a = c.args in
    let days : ℕ → ℤ = λ k. turn_day a.leap.now (sun (inputs_of c.before.before.before)) a.zone (a.places.solstice + k) in
    let s = c.fewer-s.result in
    let filled = rw (to_z-of_z c.ranges.zone) at c.days_ahead.ensures in
    omega (arith, ap length filled ∙ length-append (tabulate days s) (drop s a.solstices.now), length_tabulate days s)

found_some : (c : After-fewer-s) → 1 ≤ c.fewer-s.result
found_some c =
    let few = suns_ahead c in
    go few (dec_lt c.fewer-s.result (c.args.n + 2))
  where
    go : (Fewer (turns_of (sun (inputs_of c.before))) c.args.places.solstice (c.args.n + 2) c.fewer-s.result) → Dec (c.fewer-s.result < c.args.n + 2) → 1 ≤ c.fewer-s.result
    go few (yes short) = omega (arith, few.or_all short, c.requires.begins.begins.is_place, c.requires.begins.begins.is_listed)
    go few (no long) = omega arith

-- the days of the new moons, of this function's own zone
moons_told : (c : Moons) →
    (let a = c.args in
    let few = c.fewer-m.result in
    c.days_ahead-2.new.out ≡ tabulate (λ k. turn_day a.leap.now (moon (inputs_of c.before.before.before.before.before.before.before)) a.zone (a.places.newmoon + k)) few ++ drop few a.newmoons.now)
moons_told c =
    let a = c.args in
    let few = c.fewer-m.result in
    c.days_ahead-2.ensures ∙ ap (λ (zone : ℤ). tabulate (λ k. turn_day a.leap.now (moon (inputs_of c.before.before.before.before.before.before.before)) zone (a.places.newmoon + k)) few ++ drop few a.newmoons.now) (to_z-of_z c.ranges.zone)

-- as many suis as they enclose
enclosed : (c : After-fewer-suis) → Fewer c.fewer-s.result 1 c.args.n c.fewer-suis.result
enclosed c = rw c.fewer-suis.ensures (fewer_says c.fewer-s.result 1 c.args.n (found_some c.before.before.before.before.before.before.before.before))

pub fewer-s-requires : goal.fewer-s-requires
fewer-s-requires c = solstice_listed c

pub days_ahead-requires : goal.days_ahead-requires
days_ahead-requires c =
    let few = suns_ahead c.before in
    rw (to_z-of_z c.ranges.zone) (record { searched = c.requires.begins.suns_searched; n_bound = omega (arith, few.listed_all, count_is c.requires.begins.suns_searched); n_in_bounds = omega (arith, few.not_more, c.requires.n_in_bounds) })

pub fewer-m-requires : goal.fewer-m-requires
fewer-m-requires c = moon_listed c.before.before.before.before

pub days_ahead-requires-2 : goal.days_ahead-requires-2
days_ahead-requires-2 c =
    let few = moons_ahead c.before in
    let searched = subst (λ (zone : ℤ). Searched c.args.leap.now (moon (inputs_of c.before.before.before.before.before.before)) zone c.args.moons) (sym (to_z-of_z c.ranges.zone)) c.requires.begins.moons_searched in record { searched = searched; n_bound = omega (arith, few.listed_all, count_is c.requires.begins.moons_searched); n_in_bounds = omega (arith, few.not_more, c.requires.n_in_bounds_2) }

pub fewer-suis-requires : goal.fewer-suis-requires
fewer-suis-requires c = found_some c.before.before.before.before.before.before.before

pub slice_bounds-zhongqi_ahead-end : goal.slice_bounds-zhongqi_ahead-end
slice_bounds-zhongqi_ahead-end c = found_long c.before.before.before.before.before.before

pub slice_bounds-zhongqi_ahead-end-2 : goal.slice_bounds-zhongqi_ahead-end-2
slice_bounds-zhongqi_ahead-end-2 c = sym (length-take-le _ _ (found_long c.before.before.before.before.before.before))

pub zhongqi_ahead-requires : goal.zhongqi_ahead-requires
zhongqi_ahead-requires c =
    let between = enclosed c.before in
    rw (to_z-of_z c.ranges.zone) (record { searched = c.requires.begins.suns_searched; ahead = ahead_any (solstices_ahead c.before.before.before.before.before.before.before); m_in_bounds = rw (length-take-le _ _ (found_long c.before.before.before.before.before.before.before)) (omega (arith, between.listed_all)); m_in_bounds_2 = omega (arith, between.not_more, c.requires.n_in_bounds_3) })

pub returns : goal.returns
returns c =
    let a = c.args in
    let filled = rw (to_z-of_z c.ranges.zone) at c.zhongqi_ahead.ensures in
    let between = enclosed c.before.before.before in
    let suis = c.fewer-suis.result in
    let all = zhongqi_of a.leap.now (sun (inputs_of c.before.before.before.before.before.before.before.before.before.before.before.before)) a.zone a.places.solstice suis in record {
      solstices_bound = ((suns_ahead c.before.before.before.before.before.before.before.before.before.before.before).not_more, (moons_ahead c.before.before.before.before.before.before.before).not_more);
      walks = record {
        begun = c.requires.begins;
        solstices_ahead = solstices_ahead c.before.before.before.before.before.before.before.before.before;
        moons_ahead = ahead_made _ (moons_ahead c.before.before.before.before.before.before.before) (moons_told c.before.before.before.before.before);
        zhongqi_room = omega (arith, ap length filled ∙ placed_length a.zhongqi.now all 0 (omega (arith, length_zhongqi a.leap.now (sun (inputs_of c.before.before.before.before.before.before.before.before.before.before.before.before)) a.zone a.places.solstice suis, between.not_more, c.requires.n_in_bounds_3)), c.requires.n_in_bounds_3);
        zhongqi_ahead = zhongqi_made a.leap.now (sun (inputs_of c.before.before.before.before.before.before.before.before.before.before.before.before)) a.zone a.places.solstice _ (suns_ahead c.before.before.before.before.before.before.before.before.before.before.before) between filled;
      };
    }
