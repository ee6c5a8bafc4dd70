-- `rebuild::new::rebuild_new` meets its contract. In the needs, `start` is the function's entry. Assumes nothing.
use mathlib.Core.Path.{◌≡◌, sym, ap, ◌∙◌}
use lib.ListN.{length}
use mir.Facts.{to_z-of_z}
use Rattle.refusals.specs.Verdict.{accepted, accepted_is, passed_on, paper}
use Rattle.inputs.specs.Inputs.{inputs, sun, moon, inputs_judged}
use Rattle.inputs.specs.Known.{Known}
use Rattle.inputs.proofs.Theorems.{known}
use Rattle.suis.specs.Ahead.{begun}
use Rattle.suis.specs.theory.Begun.{begun_answered, begun_refused}
use Rattle.built.specs.Build.{bytes_of_years}
use Rattle.rebuilt.specs.Rebuild.{new_file_by}
use Rattle.kept_or_made.specs.Again.{listed_again}
use Rattle.rebuild.specs.theory.Over.{fresh_bytes, says_refused, same_says, new_refused, new_accepted, not_built_new, first_refused}
use Rattle.rebuild.proofs.new.rebuild_new.Goals as goal
use Rattle.rebuild.proofs.new.rebuild_new.Goals.{After-begin, In_ok-judge_again}

-- the new inputs are accepted
is_known : (c : In_ok-judge_again) → Known (inputs c.args.leap.now c.args.sunstart.0 c.args.sun.now c.args.moonstart.0 c.args.moon.now)
is_known c = known (inputs c.args.leap.now c.args.sunstart.0 c.args.sun.now c.args.moonstart.0 c.args.moon.now) (accepted_is c.judge_again.ensures c.in_ok-judge_again.was)

is_accepted_lem : (c : In_ok-judge_again) → inputs_judged (inputs c.args.leap.now c.args.sunstart.0 c.args.sun.now c.args.moonstart.0 c.args.moon.now) ≡ accepted
is_accepted_lem c = accepted_is c.judge_again.ensures c.in_ok-judge_again.was

-- where the first sui begins, or why it cannot
begins : (c : After-begin) → (let i = (inputs c.args.leap.now c.args.sunstart.0 c.args.sun.now c.args.moonstart.0 c.args.moon.now) in paper c.begin.result ≡ begun i.leap (sun i) (moon i) c.args.zone c.args.first)
begins c = rw (to_z-of_z c.ranges.zone, to_z-of_z c.ranges.first) at c.begin.ensures

pub judge_again-requires : goal.judge_again-requires
judge_again-requires c =
    let k = c.requires.walks.begun.is_known in record { accepted = k.sun_ready.is_accepted; accepted_2 = k.moon_ready.is_accepted; shared = c.changed_segments-sunpart.ensures; shared_2 = c.changed_segments-moonpart.ensures }

pub returns-in_err-judge_again : goal.returns-in_err-judge_again
returns-in_err-judge_again c =
    let a = c.args in
    let all = says_refused (new_file_by (fresh_bytes (inputs c.args.leap.now c.args.sunstart.0 c.args.sun.now c.args.moonstart.0 c.args.moon.now) a.zone a.first a.n (length a.file.now)) (listed_again (inputs c.args.leap.now c.args.sunstart.0 c.args.sun.now c.args.moonstart.0 c.args.moon.now) c.args.zone c.args.first c.args.before.now c.args.n) (length a.years.now)) a.file.now a.years.now
    (new_refused (inputs_judged (inputs c.args.leap.now c.args.sunstart.0 c.args.sun.now c.args.moonstart.0 c.args.moon.now)) (bytes_of_years (inputs c.args.leap.now c.args.sunstart.0 c.args.sun.now c.args.moonstart.0 c.args.moon.now) c.args.zone c.args.first c.args.n (length c.args.file.now)) (listed_again (inputs c.args.leap.now c.args.sunstart.0 c.args.sun.now c.args.moonstart.0 c.args.moon.now) c.args.zone c.args.first c.args.before.now c.args.n) (length a.years.now) (sym c.judge_again.ensures ∙ ap paper c.in_err-judge_again.was)) in
    record {
      result_value = passed_on c.from_residual.result c.in_err-judge_again.field-0.0 c.from_residual.ensures.1 all.0;
      file_after = all.1.0;
      years_after = all.1.1;
    }

pub turns_of-suns-requires : goal.turns_of-suns-requires
turns_of-suns-requires c = (is_known (goal.at.turns_of-suns-requires c).In_ok-judge_again).sun_ready.is_accepted

pub turns_of-moons-requires : goal.turns_of-moons-requires
turns_of-moons-requires c = (is_known (goal.at.turns_of-moons-requires c).In_ok-judge_again).moon_ready.is_accepted

pub begin-requires : goal.begin-requires
begin-requires c =
    let zone_small = c.requires.walks.begun.suns_searched.zone_small in
    rw (to_z-of_z c.ranges.zone) (record { searched = record { ready = (is_known (goal.at.begin-requires c).In_ok-judge_again).sun_ready; zone_small = zone_small; are_turns = c.turns_of-suns.ensures }; searched_2 = record { ready = (is_known (goal.at.begin-requires c).In_ok-judge_again).moon_ready; zone_small = zone_small; are_turns = c.turns_of-moons.ensures } })

pub rebuild_at-requires : goal.rebuild_at-requires
rebuild_at-requires c =
    let a = c.args in
    let i = (inputs c.args.leap.now c.args.sunstart.0 c.args.sun.now c.args.moonstart.0 c.args.moon.now) in
    let old = c.requires.walks.begun in
    let zone_small = old.suns_searched.zone_small in
    rw (to_z-of_z c.ranges.zone, to_z-of_z c.ranges.first) (record {
      walks = c.requires.walks;
      begins = record {
        is_known = is_known (goal.at.rebuild_at-requires c).In_ok-judge_again;
        suns_searched = record { ready = (is_known (goal.at.rebuild_at-requires c).In_ok-judge_again).sun_ready; zone_small = zone_small; are_turns = c.turns_of-suns.ensures };
        moons_searched = record { ready = (is_known (goal.at.rebuild_at-requires c).In_ok-judge_again).moon_ready; zone_small = zone_small; are_turns = c.turns_of-moons.ensures };
        begins = begun_answered i.leap (sun i) (moon i) a.zone a.first (sym (begins (goal.at.rebuild_at-requires c).After-begin) ∙ ap paper c.in_ok-places.was);
        some_years = old.some_years;
        few_years = old.few_years;
      };
      shared = c.changed_segments-sunpart.ensures;
      shared_2 = c.changed_segments-moonpart.ensures;
      copies = c.requires.copies;
    })

pub returns-in_err-places : goal.returns-in_err-places
returns-in_err-places c =
    let a = c.args in
    let i = (inputs c.args.leap.now c.args.sunstart.0 c.args.sun.now c.args.moonstart.0 c.args.moon.now) in
    let none = first_refused i a.zone a.first a.n (length a.file.now) c.requires.walks.begun.some_years (begun_refused i a.zone (is_known (goal.at.returns-in_err-places c).In_ok-judge_again) a.first (sym (begins (goal.at.returns-in_err-places c).After-begin) ∙ ap paper c.in_err-places.was)) in
    let all = says_refused (new_file_by (fresh_bytes i a.zone a.first a.n (length a.file.now)) (listed_again (inputs c.args.leap.now c.args.sunstart.0 c.args.sun.now c.args.moonstart.0 c.args.moon.now) c.args.zone c.args.first c.args.before.now c.args.n) (length a.years.now)) a.file.now a.years.now
    (sym (new_accepted (inputs_judged i) (bytes_of_years (inputs c.args.leap.now c.args.sunstart.0 c.args.sun.now c.args.moonstart.0 c.args.moon.now) c.args.zone c.args.first c.args.n (length c.args.file.now)) (listed_again (inputs c.args.leap.now c.args.sunstart.0 c.args.sun.now c.args.moonstart.0 c.args.moon.now) c.args.zone c.args.first c.args.before.now c.args.n) (length a.years.now) (is_accepted_lem (goal.at.returns-in_err-places c).In_ok-judge_again)) ∙ not_built_new (bytes_of_years (inputs c.args.leap.now c.args.sunstart.0 c.args.sun.now c.args.moonstart.0 c.args.moon.now) c.args.zone c.args.first c.args.n (length c.args.file.now)) (listed_again (inputs c.args.leap.now c.args.sunstart.0 c.args.sun.now c.args.moonstart.0 c.args.moon.now) c.args.zone c.args.first c.args.before.now c.args.n) (length a.years.now) none) in
    record {
      result_value = passed_on c.from_residual-in_err-places.result c.in_err-places.field-0.0 c.from_residual-in_err-places.ensures.1 all.0;
      file_after = all.1.0;
      years_after = all.1.1;
    }

pub returns : goal.returns
returns c =
    let a = c.args in
    let i = (inputs c.args.leap.now c.args.sunstart.0 c.args.sun.now c.args.moonstart.0 c.args.moon.now) in
    let all = same_says (new_accepted (inputs_judged i) (bytes_of_years (inputs c.args.leap.now c.args.sunstart.0 c.args.sun.now c.args.moonstart.0 c.args.moon.now) c.args.zone c.args.first c.args.n (length c.args.file.now)) (listed_again (inputs c.args.leap.now c.args.sunstart.0 c.args.sun.now c.args.moonstart.0 c.args.moon.now) c.args.zone c.args.first c.args.before.now c.args.n) (length a.years.now) (is_accepted_lem (goal.at.returns c).In_ok-judge_again)) a.file.now a.years.now (let done = rw (to_z-of_z c.ranges.zone, to_z-of_z c.ranges.first) at c.rebuild_at.ensures in (done.result_value, (done.file_after, done.years_after))) in
    record { result_value = all.0; file_after = all.1.0; years_after = all.1.1 }
