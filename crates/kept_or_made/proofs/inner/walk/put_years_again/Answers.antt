-- `kept_or_made::inner::walk::put_years_again` meets its contract. The loop's invariant: the suis of the years before year j are found and put, and their years are listed where
-- they are kept. Assumes nothing.
use mathlib.Core.Path.{◌≡◌, refl, sym, ap, ◌∙◌}
use mathlib.Core.Bool.{true}
use mathlib.Core.List.{List, [], ◌∷◌, ◌++◌}
use Prim.Native.Nat.{ℕ, ◌+◌, ◌-◌, ◌*◌, ◌≤◌, ◌<◌}
use native.Mathlib.Omega.{arith}
use native.Mathlib.Nat.{zero-add}
use lib.IntN.{ℤ, pos, nat_abs, ◌+ℤ◌}
use lib.ListN.{length, get_or, take, drop}
use mir.Syntax.{w64}
use mir.Val.{of_z, to_z}
use mir.Facts.{to_z-of_z}
use Rattle.whole.specs.Evaluated.{same_words}
use Rattle.whole.specs.Parts.{→≤}
use Rattle.whole.specs.Lists.{placed, placed_length}
use Rattle.whole.specs.Ranges.{Within, fit_hyp, fits<, bounds, back}
use Rattle.refusals.specs.Verdict.{passed_on, Verdict, answered, refused, answered_then, answer_or_refusal, paper}
use Rattle.inputs.specs.Inputs.{Inputs, inputs, sun}
use Rattle.months.specs.declared.Sui.{Sui}
use Rattle.months.specs.declared.SuiDays.{SuiDays}
use Rattle.months.proofs.theory.Kept as Kept
use Rattle.turns.specs.Listed.{turns_few}
use Rattle.sui.specs.Sui.{sui_days, sui_of_year}
use Rattle.suis.specs.Ahead.{YearIn}
use Rattle.suis.specs.theory.Next.{next_year}
use Rattle.built.specs.Build.{suis_from}
use Rattle.build.specs.theory.Answered.{year_refused, year_found}
use Rattle.build.specs.theory.Put.{sui_months}
use Rattle.build.specs.theory.Walk.{walk_starts, walk_goes_on, walk_ends, walk_stops, year_in, sui_room, month_room}
use Rattle.rebuilt.specs.Rebuild.{days_words}
use Rattle.kept_or_made.specs.Again.{year_again, year_count, year_months, year_listed, listed_again}
use Rattle.kept_or_made.specs.theory.Putting.{something_put}
use Rattle.kept_or_made.specs.theory.Walking.{Kept as Kept-by, AtAgain, fresh_count, fresh_months, again_refused, again_answered, listed_few, none_listed, year_listed_lem, more_listed, none_counted, years_stop, years_end}
use Rattle.kept_or_made.specs.declared.inner.years.Again.{Again}
use Rattle.kept_or_made.proofs.inner.walk.put_years_again.Goals as goal
use Rattle.kept_or_made.proofs.inner.walk.put_years_again.Goals.{After-add-year, After-signed, At-loop-j}

abbrev Loop : Type 0
Loop = At-loop-j

abbrev inputs_of : Loop → Inputs
inputs_of c = let a = c.args in inputs a.leap.now a.sunstart.0 a.sun.now a.moonstart.0 a.moon.now

at_turn : (c : Loop) → (let a = c.args in AtAgain (inputs_of c) a.zone a.suns a.moons a.first a.n a.solstices.now a.newmoons.now a.zhongqi.now a.before.now a.old.now a.at a.suis.now a.months.now a.kept.now a.places.solstice c.loop-j.j c.loop-j.from c.loop-j.copied c.loop-j.years c.loop-j.suis c.loop-j.months c.loop-j.kept)
at_turn c = rw (to_z-of_z {w = w64} c.ranges.zone, to_z-of_z {w = w64} c.ranges.first) at c.loop-j.invariant

-- the numbers of the turn are small
few : (c : Loop) → (c.args.n ≤ 128) × ((c.loop-j.from ≤ 13 * c.loop-j.j) × (c.loop-j.j ≤ c.args.n))
few c = let t = at_turn c in (t.walks.begun.few_years, (t.walked.reached.few, t.in_turn))

copied_few : (c : Loop) → (c.loop-j.copied ≤ 13 * c.loop-j.j) × (c.args.at ≤ 20000)
copied_few c = let t = at_turn c in (omega (arith, t.is_copied, t.copies.few_before c.loop-j.j t.in_turn), t.copies.small)

years_few : (c : Loop) → c.loop-j.years ≤ c.loop-j.j
years_few c = let t = at_turn c in let a = c.args in omega (arith, t.is_years, listed_few (inputs_of c) a.zone a.first a.before.now c.loop-j.j)

-- year j
year_small : (c : Loop) → Within 2500 c.args.first
year_small c = Kept.year_small c.args.first c.requires.walks.begun.begins.year_in_range

at_signed : (c : After-signed) → to_z w64 (of_z w64 c.signed.result) ≡ pos c.loop-j.j
at_signed c = back c.signed.result c.signed.type_inv ∙ c.signed.ensures

at_added : (c : After-add-year) → to_z w64 (of_z w64 c.add-year.result) ≡ c.args.first +ℤ pos c.loop-j.j
at_added c = back c.add-year.result c.add-year.type_inv ∙ (rw (to_z-of_z {w = w64} c.ranges.first, back c.signed.result c.signed.type_inv ∙ c.signed.ensures) at c.add-year.ensures)

-- what finding its days asks
year_in_turn : (c : Loop) → c.loop-j.j < c.args.n → (let a = c.args in YearIn (inputs_of c) a.zone a.suns a.moons (a.first +ℤ pos c.loop-j.j) (a.places.solstice + c.loop-j.j) c.loop-j.j c.loop-j.from a.solstices.now a.newmoons.now a.zhongqi.now)
year_in_turn c h = let a = c.args in let t = at_turn c in rw t.is_place at (year_in (inputs_of c) a.zone a.suns a.moons t.places a.first a.n t.walks.begun t.walked.reached h t.walks)

-- the words of the old days of year j, and where its months stand in the old file
abbrev before_of : Loop → List ℤ
before_of c = take 28 (drop (28 * c.loop-j.j) c.args.before.now)

abbrev place_of : Loop → ℕ
place_of c = c.args.at + 9 * c.loop-j.copied

abbrev days_of_lem : Loop → Verdict SuiDays
days_of_lem c = sui_days (inputs_of c) c.args.zone (c.args.first +ℤ pos c.loop-j.j)

abbrev year_of : Loop → ℤ
year_of c = c.args.first +ℤ pos c.loop-j.j

kept_copies : (c : Loop) → c.loop-j.j < c.args.n → Kept-by (year_of c) (before_of c) c.args.old.now (place_of c) (days_of_lem c)
kept_copies c h days e s =
    let t = at_turn c in
    let a = c.args in
    let kept = rw (← t.is_copied) at (t.copies.sui_kept c.loop-j.j h days e s) in
    (kept.0, (kept.1.0, kept.1.1.0))

bound : (c : Loop) → c.loop-j.j < c.args.n → (days : SuiDays) → days_of_lem c ≡ answered days → same_words (before_of c) (days_words days) ≡ true → place_of c + 9 * days.months ≤ length c.args.old.now
bound c h days e s = let t = at_turn c in (rw (← t.is_copied) at (t.copies.sui_kept c.loop-j.j h days e s)).1.1.1

-- the room for it
rooms : (c : Loop) → (length c.loop-j.suis ≡ length c.args.suis.now) × ((length c.loop-j.months ≡ length c.args.months.now) × (length c.loop-j.kept ≡ length c.args.kept.now))
rooms c =
    let a = c.args in
    let t = at_turn c in
    let i = inputs_of c in (
      sui_room i a.zone a.suns a.moons t.places a.first a.n t.walks.begun a.suis.now a.months.now t.walked c.requires.n_in_bounds t.in_turn,
      (
        month_room i a.zone a.suns a.moons t.places a.first a.n t.walks.begun a.suis.now a.months.now t.walked c.requires.n_in_bounds_2 t.in_turn,
        ap length t.listed ∙ placed_length a.kept.now (listed_again i a.zone a.first a.before.now c.loop-j.j) 0 (omega (arith, listed_few i a.zone a.first a.before.now c.loop-j.j, t.in_turn, c.requires.n_in_bounds_3)),
      ),
    )

-- the sui of year j
abbrev sui_of : Loop → Verdict Sui
sui_of c = sui_of_year (inputs_of c) c.args.zone (year_of c)

twenty_eight : (j : ℕ) → 28 * j + 28 - 28 * j ≡ 28
twenty_eight j = omega arith

-- what putting it answers
abbrev put_of : Loop → Verdict Again
put_of c = year_again (year_of c) (days_of_lem c) (before_of c) c.loop-j.years

-- what is put: a sui's record, its months' words, its year where it is listed
abbrev record_of : Loop → ℕ → List ℤ
record_of c count = year_of c ∷ pos count ∷ []

abbrev listed_of : Loop → ℕ → List ℤ
listed_of c count = year_listed (year_of c) (days_of_lem c) (before_of c)

abbrev themselves : List ℤ → List ℤ
themselves words = words

module _ (c : Loop) (taken : c.loop-j.j < c.args.n) where
  -- refused, by why
  refused_by : {number segment : ℕ} → refused number segment ≡ put_of c → sui_of c ≡ refused number segment
  refused_by e =
      let count = again_refused (year_of c) (days_of_lem c) (before_of c) c.loop-j.years e in
      year_refused (sui_of c) (sym count ∙ fresh_count (year_of c) (before_of c) c.args.old.now (place_of c) (days_of_lem c) (kept_copies c taken))

  -- put, with so many months; so many years are listed then
  count_of : {r : Again} → answered r ≡ put_of c → year_count (year_of c) (days_of_lem c) (before_of c) ≡ answered r.months
  count_of e = (again_answered (year_of c) (days_of_lem c) (before_of c) c.loop-j.years e).0

  found_with : {r : Again} → answered r ≡ put_of c → (sui : Sui) × (sui_of c ≡ answered sui) × (sui.count ≡ r.months)
  found_with e = year_found (sui_of c) (sym (count_of e) ∙ fresh_count (year_of c) (before_of c) c.args.old.now (place_of c) (days_of_lem c) (kept_copies c taken))

  months_put : {sui : Sui} → sui_of c ≡ answered sui → year_months (year_of c) (days_of_lem c) (before_of c) c.args.old.now (place_of c) ≡ answered (sui_months sui)
  months_put e = fresh_months (year_of c) (before_of c) c.args.old.now (place_of c) (days_of_lem c) (kept_copies c taken) ∙ sym (answered_then (λ (sui : Sui). answered (sui_months sui)) (sym e))

  years_next : {r : Again} → answered r ≡ put_of c → (let a = c.args in r.years ≡ length (listed_again (inputs_of c) a.zone a.first a.before.now (c.loop-j.j + 1)))
  years_next e =
      let a = c.args in
      (again_answered (year_of c) (days_of_lem c) (before_of c) c.loop-j.years e).1
      ∙ ap (λ (k : ℕ). k + length (year_listed (year_of c) (days_of_lem c) (before_of c))) (at_turn c).is_years
      ∙ sym (more_listed (inputs_of c) a.zone a.first a.before.now c.loop-j.j)

  -- how many months the old sui has
  months_of_lem : ℕ
  months_of_lem = (at_turn c).copies.months c.loop-j.j

  old_months : to_z w64 (of_z w64 (get_or c.args.before.now (28 * c.loop-j.j) (pos 0))) ≡ pos months_of_lem
  unfolding months_of_lem
  old_months =
      let t = at_turn c in
      let is = t.copies.are_months c.loop-j.j taken in
      let small : Within 13 (pos (t.copies.months c.loop-j.j)) = record { within = t.copies.months_few c.loop-j.j taken } in
      to_z-of_z {w = w64} (rw is (fit_hyp {w = w64} small tt)) ∙ is

  months_few : months_of_lem ≤ 13
  unfolding months_of_lem
  months_few = (at_turn c).copies.months_few c.loop-j.j taken

  copied_next : c.loop-j.copied + months_of_lem ≡ (at_turn c).copies.months_before (c.loop-j.j + 1)
  unfolding months_of_lem
  copied_next = let t = at_turn c in ap (λ (k : ℕ). k + t.copies.months c.loop-j.j) t.is_copied ∙ sym (t.copies.goes_on c.loop-j.j taken)

pub loop-j-init : goal.loop-j-init
loop-j-init c =
    let w = c.requires.walks in
    let a = c.args in
    let i = inputs a.leap.now a.sunstart.0 a.sun.now a.moonstart.0 a.moon.now in
    rw (to_z-of_z c.ranges.zone, to_z-of_z c.ranges.first)
    (record {
      places = a.places;
      walks = w;
      is_place = refl;
      copies = c.requires.copies;
      walked = walk_starts i a.zone a.suns a.moons a.places a.first a.n w.begun a.suis.now a.months.now;
      is_copied = sym c.requires.copies.starts;
      is_years = none_counted i a.zone a.first a.before.now;
      listed = none_listed i a.zone a.first a.before.now a.kept.now;
      in_turn = omega arith;
    })

pub add-year-requires : goal.add-year-requires
add-year-requires c =
    let at = goal.at.add-year-requires c in
    let small = year_small at.At-loop-j in
    rw (to_z-of_z c.ranges.first, at_signed at.After-signed) (fits< (search bounds) (omega (arith, few at.At-loop-j)))

pub overflow_add-place : goal.overflow_add-place
overflow_add-place c =
    let loop = (goal.at.overflow_add-place c).At-loop-j in
    let t = at_turn loop in
    record { fits = omega (arith, few loop, t.is_place, t.walks.solstices_ahead.inside, turns_few (sun (inputs_of loop)) t.walks.begun.is_known.sun_ready.is_accepted) }

pub year_again-requires : goal.year_again-requires
year_again-requires c =
    let at = goal.at.year_again-requires c in
    let loop = at.At-loop-j in
    let taken = c.loop-j-test.true in
    let year = at_added at.After-add-year in
    let zone = to_z-of_z {w = w64} c.ranges.zone in
    let small = few loop in
    let room = rooms loop in
    record {
      year_in = rw (zone, year) (year_in_turn loop taken);
      months_in_bounds = λ days e s. bound loop taken days (rw (zone, year) at e) (rw (twenty_eight c.loop-j.j) at s);
      j_bound = omega (arith, small, taken);
      from_bound = omega (arith, small, taken);
      j_in_bounds = omega (arith, small, taken, room, c.requires.n_in_bounds);
      from_in_bounds = omega (arith, small, taken, room, c.requires.n_in_bounds_2);
      years_in_bounds = omega (arith, years_few loop, taken, room, c.requires.n_in_bounds_3);
    }

pub returns-in_err-put : goal.returns-in_err-put
returns-in_err-put c =
    let at = goal.at.returns-in_err-put c in
    let loop = at.At-loop-j in
    let taken = c.loop-j-test.true in
    let said = rw (to_z-of_z {w = w64} c.ranges.zone, at_added at.After-add-year, twenty_eight c.loop-j.j) at c.year_again.ensures in
    let a = c.args in
    let t = at_turn loop in
    let i = inputs_of loop in
    let stops = walk_stops i a.zone a.suns a.moons t.places a.first a.n t.walks.begun a.suis.now a.months.now t.walked (refused_by loop taken (sym (ap paper c.in_err-put.was) ∙ said.result_value)) taken in
    record {
      result_value = passed_on c.from_residual.result c.in_err-put.field-0.0 c.from_residual.ensures.1 (years_stop i a.zone a.first a.before.now a.n stops);
      suis_after = λ found e. answer_or_refusal (sym e ∙ stops);
      months_after = λ found e. answer_or_refusal (sym e ∙ stops);
      kept_after = λ found e. answer_or_refusal (sym e ∙ stops);
    }

pub overflow_add-from : goal.overflow_add-from
overflow_add-from c =
    let at = goal.at.overflow_add-from c in
    let loop = at.At-loop-j in
    let said = rw (to_z-of_z {w = w64} c.ranges.zone, at_added at.After-add-year, twenty_eight c.loop-j.j) at c.year_again.ensures in
    let found = found_with loop c.loop-j-test.true (sym (ap paper c.in_ok-put.was) ∙ said.result_value) in
    let next = next_year (inputs_of loop) c.args.zone (at_turn loop).walks.begun.is_known (year_of loop) found.1 in
    record { fits = omega (arith, few loop, found.2, next.thirteen_at_most) }

pub count-copied-requires : goal.count-copied-requires
count-copied-requires c = rw (old_months (goal.at.count-copied-requires c).At-loop-j c.loop-j-test.true) (→≤ (omega arith))

pub overflow_add-copied : goal.overflow_add-copied
overflow_add-copied c =
    let loop = (goal.at.overflow_add-copied c).At-loop-j in
    let taken = c.loop-j-test.true in
    let counted = ap nat_abs (rw (old_months loop taken) at c.count-copied.ensures) in
    record { fits = omega (arith, few loop, copied_few loop, months_few loop taken, counted) }

pub loop-j-preserved : goal.loop-j-preserved
loop-j-preserved c =
    let at = goal.at.loop-j-preserved c in
    let loop = at.At-loop-j in
    let taken = c.loop-j-test.true in
    let said = rw (to_z-of_z {w = w64} c.ranges.zone, at_added at.After-add-year, twenty_eight c.loop-j.j) at c.year_again.ensures in
    let answer = sym (ap paper c.in_ok-put.was) ∙ said.result_value in
    let a = c.args in
    let i = inputs_of loop in
    let t = at_turn loop in
    let j = c.loop-j.j in
    let found = found_with loop taken answer in
    let count = count_of loop taken answer in
    let suis = said.suis_after ∙ something_put (record_of loop) (2 * j) loop.loop-j.suis count in
    let words = said.months_after ∙ something_put themselves (3 * loop.loop-j.from) loop.loop-j.months (months_put loop taken found.1) in
    let kept = said.kept_after ∙ something_put (listed_of loop) loop.loop-j.years loop.loop-j.kept count in
    let goes_on = walk_goes_on i a.zone a.suns a.moons t.places a.first a.n t.walks.begun a.suis.now a.months.now t.walked found.1 (omega (arith, taken, c.requires.n_in_bounds)) (omega (arith, taken, few loop, c.requires.n_in_bounds_2)) (suis ∙ ap (λ (k : ℕ). placed (2 * j) (year_of loop ∷ pos k ∷ []) loop.loop-j.suis) (sym found.2)) words in
    let counted = ap nat_abs (rw (old_months loop taken) at c.count-copied.ensures) in
    rw (to_z-of_z c.ranges.zone, to_z-of_z c.ranges.first) (record {
      places = t.places;
      walks = t.walks;
      is_place = t.is_place;
      copies = t.copies;
      walked = rw found.2 at goes_on;
      is_copied = ap (λ (k : ℕ). loop.loop-j.copied + k) counted ∙ copied_next loop taken;
      is_years = years_next loop taken answer;
      listed = kept ∙ ap (λ (k : ℕ). placed k (year_listed (year_of loop) (days_of_lem loop) (before_of loop)) loop.loop-j.kept) t.is_years ∙ year_listed_lem i a.zone a.first a.before.now a.kept.now j (omega (arith, taken, c.requires.n_in_bounds_3)) t.listed;
      in_turn = omega (arith, taken);
    })

pub returns : goal.returns
returns c =
    let loop = (goal.at.returns c).At-loop-j in
    let a = c.args in
    let i = inputs_of loop in
    let t = at_turn loop in
    let all : c.loop-j.j ≡ a.n = omega (arith, c.loop-j-test.false, t.in_turn) in
    let ends = walk_ends i a.zone a.suns a.moons t.places a.first a.n t.walks.begun a.suis.now a.months.now t.walked all in
    let listed = listed_again i a.zone a.first a.before.now in
    record {
      result_value = years_end i a.zone a.first a.before.now a.n (ap (suis_from i a.zone a.first) (sym all) ∙ t.walked.reached.found) t.walked.reached.counted (t.is_years ∙ ap (λ (k : ℕ). length (listed k)) all);
      suis_after = ends.1.0;
      months_after = ends.1.1;
      kept_after = λ found e. t.listed ∙ ap (λ (k : ℕ). placed 0 (listed k) a.kept.now) all ∙ ap (λ (k : ℕ). listed a.n ++ drop k a.kept.now) (zero-add (length (listed a.n)));
    }
