-- `rebuild::old::gives` meets its contract. In the needs, `start` is the function's entry. Assumes nothing.
use Rattle.refusals.specs.Verdict.{paper}
use mathlib.Core.Path.{◌≡◌, sym, ap, ◌∙◌}
use mathlib.Core.List.{List}
use Prim.Native.Nat.{ℕ}
use native.Mathlib.Omega.{arith}
use lib.ListN.{length}
use lib.Seq.{length-take-le}
use mir.Facts.{to_z-of_z}
use Rattle.inputs.specs.Inputs.{inputs}
use Rattle.built.specs.Build.{bytes_of_years}
use Rattle.rebuilt.specs.Rebuild.{most_bytes, is_file}
use Rattle.rebuild.specs.theory.Judging.{not_its_file, wrote, its_file}
use Rattle.rebuild.proofs.old.gives.Goals as goal
use Rattle.rebuild.proofs.old.gives.Goals.{After-build_from-built}

enough : (c : After-build_from-built) (file : List ℕ) → is_file (bytes_of_years (inputs c.args.leap.now c.args.sunstart.0 c.args.sun.now c.args.moonstart.0 c.args.moon.now) c.args.zone c.args.first c.args.n (length c.file_room-room.result)) file ≡ is_file (bytes_of_years (inputs c.args.leap.now c.args.sunstart.0 c.args.sun.now c.args.moonstart.0 c.args.moon.now) c.args.zone c.args.first c.args.n most_bytes) file
enough c file = ap (λ (room : ℕ). is_file (bytes_of_years (inputs c.args.leap.now c.args.sunstart.0 c.args.sun.now c.args.moonstart.0 c.args.moon.now) c.args.zone c.args.first c.args.n room) file) (sym c.file_room-room.ensures)

pub build_from-built-requires : goal.build_from-built-requires
build_from-built-requires c = rw (to_z-of_z c.ranges.zone, to_z-of_z c.ranges.first) c.requires

pub slice_bounds-room-end : goal.slice_bounds-room-end
slice_bounds-room-end c =
    let is = rw (to_z-of_z c.ranges.zone, to_z-of_z c.ranges.first) at c.build_from-built.ensures in
    let w = wrote (bytes_of_years (inputs c.args.leap.now c.args.sunstart.0 c.args.sun.now c.args.moonstart.0 c.args.moon.now) c.args.zone c.args.first c.args.n (length c.file_room-room.result)) _ _ (ap paper (sym c.in-Ok.is) ∙ is.result_value) is.file_after in
    omega (arith, w.inside)

pub slice_bounds-same_bytes-end : goal.slice_bounds-same_bytes-end
slice_bounds-same_bytes-end c =
    let is = rw (to_z-of_z c.ranges.zone, to_z-of_z c.ranges.first) at c.build_from-built.ensures in
    let w = wrote (bytes_of_years (inputs c.args.leap.now c.args.sunstart.0 c.args.sun.now c.args.moonstart.0 c.args.moon.now) c.args.zone c.args.first c.args.n (length c.file_room-room.result)) _ _ (ap paper (sym c.in-Ok.is) ∙ is.result_value) is.file_after in
    sym (length-take-le _ _ w.inside)

pub returns-in-Err : goal.returns-in-Err
returns-in-Err c =
    let is = rw (to_z-of_z c.ranges.zone, to_z-of_z c.ranges.first) at c.build_from-built.ensures in
    not_its_file (bytes_of_years (inputs c.args.leap.now c.args.sunstart.0 c.args.sun.now c.args.moonstart.0 c.args.moon.now) c.args.zone c.args.first c.args.n (length c.file_room-room.result)) (ap paper (sym c.in-Err.is) ∙ is.result_value) c.args.file.now ∙ enough (goal.at.returns-in-Err c).After-build_from-built c.args.file.now

pub returns-in-Ok : goal.returns-in-Ok
returns-in-Ok c =
    let is = rw (to_z-of_z c.ranges.zone, to_z-of_z c.ranges.first) at c.build_from-built.ensures in
    let w = wrote (bytes_of_years (inputs c.args.leap.now c.args.sunstart.0 c.args.sun.now c.args.moonstart.0 c.args.moon.now) c.args.zone c.args.first c.args.n (length c.file_room-room.result)) _ _ (ap paper (sym c.in-Ok.is) ∙ is.result_value) is.file_after in
    c.same_bytes.ensures ∙ its_file (bytes_of_years (inputs c.args.leap.now c.args.sunstart.0 c.args.sun.now c.args.moonstart.0 c.args.moon.now) c.args.zone c.args.first c.args.n (length c.file_room-room.result)) w c.args.file.now ∙ enough (goal.at.returns-in-Ok c).After-build_from-built c.args.file.now
