-- `building::build_taken` meets its contract. Assumes nothing.
use mathlib.Core.Path.{◌≡◌, sym, ◌∙◌}
use mathlib.Core.Bool.{true}
use Prim.Native.Nat.{◌/◌}
use native.Mathlib.Omega.{arith}
use lib.ListN.{length}
use lib.Seq.{length-take-le}
use mir.Facts.{to_z-of_z}
use Rattle.clock.specs.Clock.{is_zone}
use Rattle.building.specs.Building.{all_taken}
use Rattle.building.specs.theory.Cases.{refusing, passing_on, no_zone, not_taken, bounded, taken}
use Rattle.building.proofs.build_taken.Goals as goal
use Rattle.building.proofs.build_taken.Goals.{Else-not-all_taken, Else-not-is_zone}

-- what is known of the zone and of the words
in_zone : (c : Else-not-is_zone) → is_zone c.args.zone ≡ true
in_zone c = sym (rw (to_z-of_z c.ranges.zone) at c.is_zone.ensures) ∙ c.if-not-is_zone.false

is_taken : (c : Else-not-all_taken) → all_taken c.args.words.now c.args.bytes ≡ true
is_taken c = sym c.all_taken.ensures ∙ c.if-not-all_taken.false

pub returns-then-not-is_zone : goal.returns-then-not-is_zone
returns-then-not-is_zone c =
    let a = c.args in
    let stop = refusing a.file.now (no_zone a.words.now a.bytes a.zone (length a.file.now) (sym (rw (to_z-of_z c.ranges.zone) at c.is_zone.ensures) ∙ c.if-not-is_zone.true)) in
    record { result_value = stop.0; file_after = stop.1 }

pub returns-then-not-all_taken : goal.returns-then-not-all_taken
returns-then-not-all_taken c =
    let a = c.args in
    let stop = refusing a.file.now (not_taken a.words.now a.bytes a.zone (length a.file.now) (in_zone (goal.at.returns-then-not-all_taken c).Else-not-is_zone) (sym c.all_taken.ensures ∙ c.if-not-all_taken.true)) in
    record { result_value = stop.0; file_after = stop.1 }

pub slice_bounds-build_words-end : goal.slice_bounds-build_words-end
slice_bounds-build_words-end c =
    let a = c.args in
    let known = bounded a.words.now a.bytes (is_taken (goal.at.slice_bounds-build_words-end c).Else-not-all_taken) in
    sym (length-take-le (a.bytes / 8) a.words.now known.1)

pub build_words-requires : goal.build_words-requires
build_words-requires c =
    let a = c.args in
    let known = bounded a.words.now a.bytes (is_taken (goal.at.build_words-requires c).Else-not-all_taken) in
    omega (arith, length-take-le (a.bytes / 8) a.words.now known.1, known.0)

pub returns : goal.returns
returns c =
    let a = c.args in
    let at = goal.at.returns c in
    let told = rw (to_z-of_z c.ranges.zone) at c.build_words.ensures in
    let built = passing_on a.file.now (taken a.words.now a.bytes a.zone (length a.file.now) (in_zone at.Else-not-is_zone) (is_taken at.Else-not-all_taken)) (told.result_value, told.file_after) in
    record { result_value = built.0; file_after = built.1 }
