-- `rebuild::known::rebuild_accepted` meets its contract. In the needs, `start` is the function's entry. Assumes nothing.
use Rattle.refusals.specs.Verdict.{paper}
use mathlib.Core.Path.{◌≡◌, sym, ap, ◌∙◌}
use lib.ListN.{length}
use mir.Facts.{to_z-of_z}
use Rattle.inputs.specs.Inputs.{inputs, sun, moon}
use Rattle.suis.specs.Ahead.{begun}
use Rattle.suis.specs.theory.Begun.{begun_answered, begun_refused}
use Rattle.rebuilt.specs.Rebuild.{most_bytes}
use Rattle.rebuild.specs.theory.Over.{rebuilt_over, says_refused, old_refused, first_refused}
use Rattle.rebuild.proofs.known.rebuild_accepted.Goals as goal
use Rattle.rebuild.proofs.known.rebuild_accepted.Goals.{After-begin}

-- where the first old sui begins, or why it cannot
begins : (c : After-begin) → (let i = (inputs c.args.oldleap.now c.args.oldsunstart.0 c.args.oldsun.now c.args.oldmoonstart.0 c.args.oldmoon.now) in paper c.begin.result ≡ begun i.leap (sun i) (moon i) c.args.zone c.args.first)
begins c = rw (to_z-of_z c.ranges.zone, to_z-of_z c.ranges.first) at c.begin.ensures

pub rebuild_begun-requires : goal.rebuild_begun-requires
rebuild_begun-requires c =
    let a = c.args in
    let i = (inputs c.args.oldleap.now c.args.oldsunstart.0 c.args.oldsun.now c.args.oldmoonstart.0 c.args.oldmoon.now) in
    rw (to_z-of_z c.ranges.zone, to_z-of_z c.ranges.first)
    (record {
      is_known = c.requires.known;
      suns_searched = record { ready = c.requires.known.sun_ready; zone_small = c.requires.within; are_turns = c.turns_of-oldsuns.ensures };
      moons_searched = record { ready = c.requires.known.moon_ready; zone_small = c.requires.within; are_turns = c.turns_of-oldmoons.ensures };
      begins = begun_answered i.leap (sun i) (moon i) a.zone a.first (sym (begins (goal.at.rebuild_begun-requires c).After-begin) ∙ ap paper c.in-Ok.is);
      some_years = c.requires.n_nonzero;
      few_years = c.requires.n_bound;
    })

pub returns-in_default : goal.returns-in_default
returns-in_default c =
    let a = c.args in
    let i = (inputs c.args.oldleap.now c.args.oldsunstart.0 c.args.oldsun.now c.args.oldmoonstart.0 c.args.oldmoon.now) in
    let all = says_refused (rebuilt_over i (inputs c.args.leap.now c.args.sunstart.0 c.args.sun.now c.args.moonstart.0 c.args.moon.now) a.zone a.old.now a.first a.n (length a.file.now) (length a.years.now)) a.file.now a.years.now
    (old_refused i (inputs c.args.leap.now c.args.sunstart.0 c.args.sun.now c.args.moonstart.0 c.args.moon.now) a.zone a.old.now a.first a.n (length a.file.now) (length a.years.now) (first_refused i a.zone a.first a.n most_bytes c.requires.n_nonzero (begun_refused i a.zone c.requires.known a.first (sym (begins (goal.at.returns-in_default c).After-begin) ∙ ap paper c.in_default.is)))) in
    record {
      result_value = all.0;
      file_after = all.1.0;
      years_after = all.1.1;
    }

pub returns : goal.returns
returns c =
    rw (to_z-of_z c.ranges.zone, to_z-of_z c.ranges.first) at c.rebuild_begun.ensures
