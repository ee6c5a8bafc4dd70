-- `found_again::inner::find_by` meets its contract. In the needs, `start` is the function's entry. Assumes nothing.
use mathlib.Core.Path.{◌≡◌, sym, ap, subst, ◌∙◌}
use Prim.Native.Nat.{ℕ, ◌+◌, ◌*◌, ◌≤◌, ◌<◌}
use native.Mathlib.Omega.{arith}
use native.Mathlib.Decide.{dec_lt}
use lib.IntN.{ℤ}
use lib.ListN.{length, take, drop, length-append}
use lib.Seq.{length-take-le}
use mir.Syntax.{w64}
use mir.Val.{of_z, to_z}
use mir.Facts.{to_z-of_z}
use Rattle.whole.specs.Lists.{placed_length}
use Rattle.whole.specs.Ranges.{back}
use Rattle.whole.specs.Tabulated.{tabulate, length_tabulate}
use Rattle.series.specs.declared.Body.TheVariants.{Sun, Moon}
use Rattle.series.specs.Series.{series}
use Rattle.inputs.specs.Inputs.{Inputs, inputs, sun, moon}
use Rattle.turns.specs.Listed.{turn_day, turns_of}
use Rattle.turns.specs.Searched.{count_is}
use Rattle.suis.specs.Ahead.{Ahead, zhongqi_of, fewer}
use Rattle.suis.specs.theory.Lookups.{Fewer, fewer_says, ahead_made, ahead_any}
use Rattle.suis.specs.theory.Zhongqi.{length_zhongqi, zhongqi_made}
use Rattle.corrected.specs.Shared.{Stays}
use Rattle.found_again.specs.theory.Begun.{solstice_listed, moon_listed}
use Rattle.found_again.specs.theory.Kept.{days_kept_lem, zhongqi_kept}
use Rattle.found_again.proofs.inner.find_by.Goals as goal
use Rattle.found_again.proofs.inner.find_by.Lts as lts
use Rattle.found_again.proofs.inner.find_by.Reads as reads
use Rattle.found_again.proofs.inner.find_by.Tie as tie

abbrev Start : Type 0
Start = lts.Start tie.the-claims reads.Pre reads.Post tie.handed_clauses

abbrev SunsCounted : Type 0
SunsCounted = lts.After-fewer tie.the-claims reads.Pre reads.Post tie.handed_clauses

abbrev Suns : Type 0
Suns = lts.After-days_again tie.the-claims reads.Pre reads.Post tie.handed_clauses

abbrev MoonsCounted : Type 0
MoonsCounted = lts.After-fewer2 tie.the-claims reads.Pre reads.Post tie.handed_clauses

abbrev Moons : Type 0
Moons = lts.After-days_again2 tie.the-claims reads.Pre reads.Post tie.handed_clauses

abbrev Counted : Type 0
Counted = lts.After-fewer3 tie.the-claims reads.Pre reads.Post tie.handed_clauses

abbrev start_of : SunsCounted → Start
start_of c = c.before.before.before

abbrev suns_counted : Suns → SunsCounted
suns_counted c = c.before.before.before.before

abbrev suns_of : MoonsCounted → Suns
suns_of c = c.before.before

abbrev moons_counted : Moons → MoonsCounted
moons_counted c = c.before.before.before.before

abbrev moons_of : Counted → Moons
moons_of c = c.before.before

abbrev inputs_of : Start → Inputs
inputs_of start = let a = start.args in inputs a.leap.now a.sunstart.0 a.sun.now a.moonstart.0 a.moon.now

sun_stays : (c : lts.After-days_again-arg tie.the-claims reads.Pre reads.Post tie.handed_clauses) → (let a = c.args in Stays (series Sun a.sunstart.0 a.oldsun.now) (series Sun a.sunstart.0 a.sun.now) (to_z w64 (of_z w64 c.moved_marks-sunmoved.result.low)) (to_z w64 (of_z w64 c.moved_marks-sunmoved.result.high)))
sun_stays c = rw (back c.moved_marks-sunmoved.result.low (omega arith), back c.moved_marks-sunmoved.result.high (omega arith)) c.moved_marks-sunmoved.ensures

moon_stays : (c : lts.After-days_again-arg2 tie.the-claims reads.Pre reads.Post tie.handed_clauses) → (let a = c.args in Stays (series Moon a.moonstart.0 a.oldmoon.now) (series Moon a.moonstart.0 a.moon.now) (to_z w64 (of_z w64 c.moved_marks-moonmoved.result.low)) (to_z w64 (of_z w64 c.moved_marks-moonmoved.result.high)))
moon_stays c = rw (back c.moved_marks-moonmoved.result.low (omega arith), back c.moved_marks-moonmoved.result.high (omega arith)) c.moved_marks-moonmoved.ensures

suns_ahead : (c : SunsCounted) → (let start = start_of c in Fewer (turns_of (sun (inputs_of start))) start.args.places.solstice (start.args.n + 2) c.fewer-s.result)
suns_ahead c =
    let start = start_of c in
    let a = start.args in
    let begun = start.requires.begins in
    let all = turns_of (sun (inputs_of start)) in
    let found : c.fewer-s.result ≡ fewer all a.places.solstice (a.n + 2) = c.fewer-s.ensures ∙ ap (λ (listed : ℕ). fewer listed a.places.solstice (a.n + 2)) (count_is begun.suns_searched) in
    subst (λ (few : ℕ). Fewer all a.places.solstice (a.n + 2) few) (sym found) (fewer_says all a.places.solstice (a.n + 2) (omega (arith, solstice_listed begun)))

moons_ahead : (c : MoonsCounted) → (let start = start_of (suns_counted (suns_of c)) in Fewer (turns_of (moon (inputs_of start))) start.args.places.newmoon (13 * start.args.n + 2) c.fewer-m.result)
moons_ahead c =
    let start = start_of (suns_counted (suns_of c)) in
    let a = start.args in
    let begun = start.requires.begins in
    let all = turns_of (moon (inputs_of start)) in
    let found : c.fewer-m.result ≡ fewer all a.places.newmoon (13 * a.n + 2) = c.fewer-m.ensures ∙ ap (λ (listed : ℕ). fewer listed a.places.newmoon (13 * a.n + 2)) (count_is begun.moons_searched) in
    subst (λ (few : ℕ). Fewer all a.places.newmoon (13 * a.n + 2) few) (sym found) (fewer_says all a.places.newmoon (13 * a.n + 2) (omega (arith, moon_listed begun)))

-- those found, and the zhongqi between them
solstices_ahead : (c : Suns) → (let start = start_of (suns_counted c) in let a = start.args in Ahead a.leap.now (sun (inputs_of start)) a.zone a.places.solstice (a.n + 2) (take (suns_counted c).fewer-s.result c.days_again.new.out))
solstices_ahead c = let start = start_of (suns_counted c) in ahead_made _ (suns_ahead (suns_counted c)) (rw (to_z-of_z start.ranges.zone) at c.days_again.ensures)

found_long : (c : Suns) → (suns_counted c).fewer-s.result ≤ length c.days_again.new.out
found_long c =
    let start = start_of (suns_counted c) in
    let a = start.args in
    let days : ℕ → ℤ = λ k. turn_day a.leap.now (sun (inputs_of start)) a.zone (a.places.solstice + k) in
    let s = (suns_counted c).fewer-s.result in
    let filled = rw (to_z-of_z start.ranges.zone) at c.days_again.ensures in
    omega (arith, ap length filled ∙ length-append (tabulate days s) (drop s a.solstices.now), length_tabulate days s)

found_some : (c : SunsCounted) → 1 ≤ c.fewer-s.result
found_some c = go (suns_ahead c) (dec_lt c.fewer-s.result ((start_of c).args.n + 2))
  where
    go : (let start = start_of c in Fewer (turns_of (sun (inputs_of start))) start.args.places.solstice (start.args.n + 2) c.fewer-s.result) → Dec (c.fewer-s.result < (start_of c).args.n + 2) → 1 ≤ c.fewer-s.result
    go few (yes short) = omega (arith, few.or_all short, solstice_listed (start_of c).requires.begins)
    go few (no long) = omega arith

-- as many suis as they enclose
enclosed : (c : Counted) → (let found = suns_counted (suns_of (moons_counted (moons_of c))) in Fewer found.fewer-s.result 1 (start_of found).args.n c.fewer-suis.result)
enclosed c =
    let found = suns_counted (suns_of (moons_counted (moons_of c))) in
    let n = (start_of found).args.n in
    subst (λ (few : ℕ). Fewer found.fewer-s.result 1 n few) (sym c.fewer-suis.ensures) (fewer_says found.fewer-s.result 1 n (found_some found))

pub moved_marks-sunmoved-requires : goal.moved_marks-sunmoved-requires
moved_marks-sunmoved-requires c = record { accepted = c.requires.walks.begun.is_known.sun_ready.is_accepted; accepted_2 = c.requires.begins.is_known.sun_ready.is_accepted; shared = c.requires.shared }

pub moved_marks-moonmoved-requires : goal.moved_marks-moonmoved-requires
moved_marks-moonmoved-requires c = record { accepted = c.requires.walks.begun.is_known.moon_ready.is_accepted; accepted_2 = c.requires.begins.is_known.moon_ready.is_accepted; shared = c.requires.shared_2 }

pub overflow_add-n : goal.overflow_add-n
overflow_add-n c = record { fits = omega (arith, c.requires.begins.few_years) }

pub fewer-s-requires : goal.fewer-s-requires
fewer-s-requires c = let begun = c.requires.begins in omega (arith, count_is begun.suns_searched, solstice_listed begun)

pub days_again-requires : goal.days_again-requires
days_again-requires c =
    let start = start_of c.before.before.before.before in
    let a = start.args in
    let few = suns_ahead c.before.before.before.before in
    let begun = start.requires.begins in
    rw (to_z-of_z start.ranges.zone) (record { searched = begun.suns_searched; n_bound = omega (arith, few.listed_all, count_is begun.suns_searched); days_kept = days_kept_lem a.leap.now Sun a.sunstart.0 a.oldsun.now a.sun.now a.zone (sun_stays c.before.before.before) a.oldplaces.solstice a.places.solstice start.requires.solstice_value start.requires.walks.solstices_ahead; n_in_bounds = omega (arith, few.not_more, start.requires.n_in_bounds) })

pub overflow_mul-n : goal.overflow_mul-n
overflow_mul-n c = record { fits = omega (arith, (start_of (suns_counted c.before.before)).requires.begins.few_years) }

pub overflow_add-n-2 : goal.overflow_add-n-2
overflow_add-n-2 c = record { fits = omega (arith, (start_of (suns_counted c.before.before)).requires.begins.few_years) }

pub fewer-m-requires : goal.fewer-m-requires
fewer-m-requires c = let begun = (start_of (suns_counted c.before.before)).requires.begins in omega (arith, count_is begun.moons_searched, moon_listed begun)

pub days_again-requires-2 : goal.days_again-requires-2
days_again-requires-2 c =
    let start = start_of (suns_counted (suns_of c.before.before.before.before)) in
    let a = start.args in
    let few = moons_ahead c.before.before.before.before in
    let begun = start.requires.begins in
    rw (to_z-of_z start.ranges.zone) (record { searched = begun.moons_searched; n_bound = omega (arith, few.listed_all, count_is begun.moons_searched); days_kept = days_kept_lem a.leap.now Moon a.moonstart.0 a.oldmoon.now a.moon.now a.zone (moon_stays c.before.before.before) a.oldplaces.newmoon a.places.newmoon start.requires.newmoon_after start.requires.walks.moons_ahead; n_in_bounds = omega (arith, few.not_more, start.requires.n_in_bounds_2) })

pub fewer-suis-requires : goal.fewer-suis-requires
fewer-suis-requires c = found_some (suns_counted (suns_of (moons_counted c.before.before)))

pub slice_bounds-zhongqi_again-end : goal.slice_bounds-zhongqi_again-end
slice_bounds-zhongqi_again-end c = found_long (suns_of (moons_counted (moons_of c.before)))

pub slice_bounds-zhongqi_again-end-2 : goal.slice_bounds-zhongqi_again-end-2
slice_bounds-zhongqi_again-end-2 c = sym (length-take-le _ _ (found_long (suns_of (moons_counted (moons_of c.before)))))

pub zhongqi_again-requires : goal.zhongqi_again-requires
zhongqi_again-requires c =
    let suns = suns_of (moons_counted (moons_of c.before.before.before.before)) in
    let start = start_of (suns_counted suns) in
    let a = start.args in
    let between = enclosed c.before.before.before.before in
    let walks = start.requires.walks in
    rw (to_z-of_z start.ranges.zone) (record { searched = start.requires.begins.suns_searched; ahead = ahead_any (solstices_ahead suns); m_in_bounds = rw (length-take-le _ _ (found_long suns)) (omega (arith, between.listed_all)); zhongqi_kept = zhongqi_kept a.leap.now a.sunstart.0 a.oldsun.now a.sun.now a.zone (sun_stays suns.before.before.before) a.oldplaces.solstice a.places.solstice start.requires.solstice_value c.fewer-suis.result (λ j h listed. walks.zhongqi_ahead j (omega (arith, between.not_more)) listed); m_in_bounds_2 = omega (arith, between.not_more, walks.zhongqi_room); m_in_bounds_3 = omega (arith, between.not_more, start.requires.n_in_bounds_3) })

pub returns : goal.returns
returns c =
    let moons = moons_of c.before.before.before.before.before in
    let suns = suns_of (moons_counted moons) in
    let start = start_of (suns_counted suns) in
    let a = start.args in
    let filled = rw (to_z-of_z start.ranges.zone) at c.zhongqi_again.ensures in
    let between = enclosed c.before.before.before.before.before in
    let suis = c.fewer-suis.result in
    let all = zhongqi_of a.leap.now (sun (inputs_of start)) a.zone a.places.solstice suis in
    let room = start.requires.n_in_bounds_3 in record {
      solstices_bound = ((suns_ahead (suns_counted suns)).not_more, (moons_ahead (moons_counted moons)).not_more);
      walks_2 = record {
        begun = start.requires.begins;
        solstices_ahead = solstices_ahead suns;
        moons_ahead = ahead_made _ (moons_ahead (moons_counted moons)) (rw (to_z-of_z start.ranges.zone) at moons.days_again-2.ensures);
        zhongqi_room = omega (arith, ap length filled ∙ placed_length a.zhongqi.now all 0 (omega (arith, length_zhongqi a.leap.now (sun (inputs_of start)) a.zone a.places.solstice suis, between.not_more, room)), room);
        zhongqi_ahead = zhongqi_made a.leap.now (sun (inputs_of start)) a.zone a.places.solstice _ (suns_ahead (suns_counted suns)) between filled;
      };
    }
