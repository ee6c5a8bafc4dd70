-- `building::sections::build_words` meets its contract. Assumes nothing.
use Prim.Native.Nat.{◌-◌}
use native.Mathlib.Omega.{arith}
use lib.IntN.{pos}
use lib.ListN.{length, get_or, drop, length-drop}
use lib.Seq.{take_all}
use mir.Syntax.{w64}
use mir.Val.{SFits}
use mir.Facts.{to_z-of_z}
use Rattle.building.specs.theory.Cases.{refusing, passing_on, too_few, enough}
use borrow.Author.Rules.{rules}
use Rattle.building.proofs.sections.build_words.Goals as goal

pub returns-then-words-lt2 : goal.returns-then-words-lt2
returns-then-words-lt2 c =
    let a = c.args in
    let stop = refusing a.file.now (too_few a.words.now a.zone (length a.file.now) c.if-words-lt2.true) in
    record { result_value = stop.0; file_after = stop.1 }

pub returns : goal.returns
returns c =
    let a = c.args in
    let ws = a.words.now in
    let fy : SFits w64 (get_or ws 0 (pos 0)) = search rules in
    let fc : SFits w64 (get_or ws 1 (pos 0)) = search rules in
    let told = rw (to_z-of_z c.ranges.zone, to_z-of_z fy, to_z-of_z fc, take_all (length ws - 2) (drop 2 ws) (omega (arith, length-drop 2 ws))) at c.build_rest.ensures in
    let built = passing_on a.file.now (enough ws a.zone (length a.file.now) c.if-words-lt2.false) (told.result_value, told.file_after) in
    record { result_value = built.0; file_after = built.1 }
