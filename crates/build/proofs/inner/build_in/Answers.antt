-- `build::inner::build_in` meets its contract. In the needs, `start` is the function's entry. Assumes nothing.
use Rattle.refusals.specs.Verdict.{passed_on, paper}
use mathlib.Core.Path.{◌≡◌, sym, ap, ◌∙◌}
use mir.Facts.{to_z-of_z}
use Rattle.inputs.specs.Inputs.{Inputs, inputs, sun, moon}
use Rattle.suis.specs.Ahead.{begun}
use Rattle.suis.specs.theory.Begun.{begun_answered, begun_refused}
use Rattle.build.specs.theory.File.{first_stops}
use Rattle.build.proofs.inner.build_in.Goals as goal
use Rattle.build.proofs.inner.build_in.Goals.{After-begin}

abbrev inputs_of : After-begin → Inputs
inputs_of c = let a = c.args in inputs a.leap.now a.sunstart.0 a.sun.now a.moonstart.0 a.moon.now

-- where the first sui begins, or why it cannot
begins : (c : After-begin) → (let i = inputs_of c in paper c.begin.result ≡ begun i.leap (sun i) (moon i) c.args.zone c.args.first)
begins c = rw (to_z-of_z c.ranges.zone, to_z-of_z c.ranges.first) at c.begin.ensures

pub build_at-requires : goal.build_at-requires
build_at-requires c =
    let a = c.args in
    let at = goal.at.build_at-requires c in
    let i = inputs_of at.After-begin in
    rw (to_z-of_z c.ranges.zone, to_z-of_z c.ranges.first)
    (record {
      is_known = c.requires.known;
      suns_searched = record { ready = c.requires.known.sun_ready; zone_small = c.requires.within; are_turns = c.turns_of-suns.ensures };
      moons_searched = record { ready = c.requires.known.moon_ready; zone_small = c.requires.within; are_turns = c.turns_of-moons.ensures };
      begins = begun_answered i.leap (sun i) (moon i) a.zone a.first (sym (begins at.After-begin) ∙ ap paper c.in_ok-places.was);
      some_years = c.requires.n_nonzero;
      few_years = c.requires.n_bound;
    })

pub returns-in_err-places : goal.returns-in_err-places
returns-in_err-places c =
    let a = c.args in
    let at = goal.at.returns-in_err-places c in
    let i = inputs_of at.After-begin in
    let stops = first_stops i a.zone a.first a.n a.file.now c.requires.n_nonzero (begun_refused i a.zone c.requires.known a.first (sym (begins at.After-begin) ∙ ap paper c.in_err-places.was)) in
    record { result_value = passed_on c.from_residual.result c.in_err-places.field-0.0 c.from_residual.ensures.1 stops.0; file_after = stops.1 }

pub returns : goal.returns
returns c = rw (to_z-of_z c.ranges.zone, to_z-of_z c.ranges.first) at c.build_at.ensures
