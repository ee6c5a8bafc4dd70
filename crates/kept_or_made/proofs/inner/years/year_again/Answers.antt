-- `kept_or_made::inner::years::year_again` meets its contract. In the needs, `start` is the function's entry. Assumes nothing.
use mathlib.Core.Path.{◌≡◌, sym, ap, ◌∙◌}
use Prim.Native.Nat.{◌*◌}
use mir.Facts.{to_z-of_z}
use Rattle.whole.specs.Evaluated.{same_words}
use Rattle.refusals.specs.Verdict.{answered, answered_is, refused_is, passed_on, paper}
use Rattle.inputs.specs.Inputs.{inputs}
use Rattle.months.specs.Months.{IsSuiDays}
use Rattle.months.proofs.theory.Kept.{year_small}
use Rattle.months.proofs.theory.Days.{found_small}
use Rattle.months.proofs.theory.Listed.{at_most_thirteen}
use Rattle.sui.specs.Sui.{new_moon_days, zhongqi_days, sui_days}
use Rattle.sui.proofs.Theorems.{sui_days_of_accepted}
use Rattle.sui.proofs.theory.Answered.{Found, days_found_lem, new_moons_small}
use Rattle.rebuilt.specs.Rebuild.{days_words}
use Rattle.kept_or_made.specs.theory.Putting.{no_days_lem, no_sui_lem, sui_put}
use Rattle.kept_or_made.specs.OldDays.{moons_long, zhongqi_long}
use Rattle.kept_or_made.proofs.inner.years.year_again.Goals as goal
use Rattle.kept_or_made.proofs.inner.years.year_again.Goals.{In_ok-days, After-same_words-same}

at_days : (c : In_ok-days) → sui_days (inputs c.args.leap.now c.args.sunstart.0 c.args.sun.now c.args.moonstart.0 c.args.moon.now) c.args.zone c.args.year ≡ answered c.in_ok-days.days
at_days c = answered_is {u = sui_days (inputs c.args.leap.now c.args.sunstart.0 c.args.sun.now c.args.moonstart.0 c.args.moon.now) c.args.zone c.args.year} (rw (to_z-of_z c.ranges.zone, to_z-of_z c.ranges.year) at c.days_after.ensures) c.in_ok-days.was

at_found : (c : In_ok-days) → Found (inputs c.args.leap.now c.args.sunstart.0 c.args.sun.now c.args.moonstart.0 c.args.moon.now) c.args.zone c.args.year c.in_ok-days.days
at_found c = days_found_lem (inputs c.args.leap.now c.args.sunstart.0 c.args.sun.now c.args.moonstart.0 c.args.moon.now) c.args.zone c.args.year (at_days c)

at_sui_days : (c : In_ok-days) → IsSuiDays c.in_ok-days.days
at_sui_days c = sui_days_of_accepted (inputs c.args.leap.now c.args.sunstart.0 c.args.sun.now c.args.moonstart.0 c.args.moon.now) c.args.zone c.args.year c.requires.year_in.ahead.is_known (at_days c)

-- whether they are the old ones
at_same : (c : After-same_words-same) → c.same_words-same.result ≡ same_words c.args.before.now (days_words c.in_ok-days.days)
at_same c = c.same_words-same.ensures ∙ ap (same_words c.args.before.now) c.days_words-words.ensures

pub days_after-requires : goal.days_after-requires
days_after-requires c = rw (to_z-of_z c.ranges.zone, to_z-of_z c.ranges.year) c.requires.year_in

pub returns-in_err-days : goal.returns-in_err-days
returns-in_err-days c =
    let a = c.args in
    let v = sui_days (inputs c.args.leap.now c.args.sunstart.0 c.args.sun.now c.args.moonstart.0 c.args.moon.now) c.args.zone c.args.year in
    let refused = refused_is {u = v} (rw (to_z-of_z c.ranges.zone, to_z-of_z c.ranges.year) at c.days_after.ensures) c.in_err-days.was in
    let all = no_days_lem a.year v a.before.now a.old.now a.at a.years (2 * a.j) (3 * a.from) a.suis.now a.months.now a.kept.now refused in
    record {
      result_value = passed_on c.from_residual.result c.in_err-days.field-0.0 c.from_residual.ensures.1 all.0;
      suis_after = all.1.0;
      months_after = all.1.1.0;
      kept_after = all.1.1.1;
    }

pub days_words-words-requires : goal.days_words-words-requires
days_words-words-requires c =
    let known = c.requires.year_in.ahead.is_known in record { months_bound = (at_most_thirteen c.in_ok-days.days.months (at_sui_days (goal.at.days_words-words-requires c).In_ok-days).count).1; moons_len = moons_long (inputs c.args.leap.now c.args.sunstart.0 c.args.sun.now c.args.moonstart.0 c.args.moon.now) c.args.zone known c.args.year (at_days (goal.at.days_words-words-requires c).In_ok-days); zhongqi_len = zhongqi_long (inputs c.args.leap.now c.args.sunstart.0 c.args.sun.now c.args.moonstart.0 c.args.moon.now) c.args.zone known c.args.year (at_days (goal.at.days_words-words-requires c).In_ok-days) }

pub put_again-requires : goal.put_again-requires
put_again-requires c =
    let i = (inputs c.args.leap.now c.args.sunstart.0 c.args.sun.now c.args.moonstart.0 c.args.moon.now) in
    let a = c.args in
    let found = at_found (goal.at.put_again-requires c).In_ok-days in
    let small = new_moons_small i a.zone c.requires.year_in.ahead.is_known c.requires.year_in.ahead.suns_searched.zone_small in
    rw (to_z-of_z c.ranges.year) (record { within = year_small a.year found.in_range; sui_days = at_sui_days (goal.at.put_again-requires c).In_ok-days; all = found_small (new_moon_days i a.zone) (zhongqi_days i a.zone found.first found.last) found.by_rule small; months_in_bounds = (λ q. c.requires.months_in_bounds c.in_ok-days.days (at_days (goal.at.put_again-requires c).In_ok-days) (sym (at_same (goal.at.put_again-requires c).After-same_words-same) ∙ q)); j_bound = c.requires.j_bound; from_bound = c.requires.from_bound; j_in_bounds = c.requires.j_in_bounds; from_in_bounds = c.requires.from_in_bounds })

pub list_year-listed-requires : goal.list_year-listed-requires
list_year-listed-requires c = c.requires.years_in_bounds

pub returns-in_err-n : goal.returns-in_err-n
returns-in_err-n c =
    let a = c.args in
    let done = rw (to_z-of_z c.ranges.year) at c.put_again.ensures in
    let all = no_sui_lem a.year (sui_days (inputs c.args.leap.now c.args.sunstart.0 c.args.sun.now c.args.moonstart.0 c.args.moon.now) c.args.zone c.args.year) a.before.now a.old.now a.at a.years (2 * a.j) (3 * a.from) a.suis.now a.months.now a.kept.now (at_days (goal.at.returns-in_err-n c).In_ok-days) (at_same (goal.at.returns-in_err-n c).After-same_words-same)
    (sym (ap paper c.in_err-n.was) ∙ done.result_value) done.suis_after done.months_after in
    record {
      result_value = passed_on c.from_residual-in_err-n.result c.in_err-n.field-0.0 c.from_residual-in_err-n.ensures.1 all.0;
      suis_after = all.1.0;
      months_after = all.1.1.0;
      kept_after = all.1.1.1;
    }

pub returns : goal.returns
returns c =
    let a = c.args in
    let done = rw (to_z-of_z c.ranges.year) at c.put_again.ensures in
    let listed = rw (to_z-of_z c.ranges.year) at c.list_year-listed.ensures in
    let all = sui_put a.year (sui_days (inputs c.args.leap.now c.args.sunstart.0 c.args.sun.now c.args.moonstart.0 c.args.moon.now) c.args.zone c.args.year) a.before.now a.old.now a.at a.years (2 * a.j) (3 * a.from) a.suis.now a.months.now a.kept.now (at_days (goal.at.returns c).In_ok-days) (at_same (goal.at.returns c).After-same_words-same)
    (sym (ap paper c.in_ok-n.was) ∙ done.result_value) done.suis_after done.months_after (listed.value, listed.kept_after) in
    record {
      result_value = all.0;
      suis_after = all.1.0;
      months_after = all.1.1.0;
      kept_after = all.1.1.1;
    }
