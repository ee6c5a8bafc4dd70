-- `rebuilding::sections::rebuild_sections` meets its contract. Assumes nothing.
use mathlib.Core.Path.{◌≡◌, ap₂}
use mathlib.Core.List.{List}
use Prim.Native.Nat.{◌+◌}
use lib.IntN.{ℤ, pos}
use lib.ListN.{length, get_or}
use mir.Syntax.{w64}
use mir.Val.{SFits, to_z, of_z}
use mir.Facts.{to_z-of_z}
use Rattle.inputs.specs.Inputs.{inputs}
use Rattle.layout.specs.declared.inner.Places.{Places}
use Rattle.layout.specs.Layout.{words_from, inputs_at}
use Rattle.rebuilt_from.proofs.theory.Cases.{by_inputs}
use Rattle.rebuilding.proofs.sections.rebuild_sections.Goals as goal
use native.Mathlib.Omega.{arith}

-- two starts that were handed over as bits are those of the words
read_back : (ws : List ℤ) (p : Places) → SFits w64 (get_or ws (p.sun + 1) (pos 0)) → SFits w64 (get_or ws (p.moon + 1) (pos 0)) → inputs (words_from ws 1 p.sun) (to_z w64 (of_z w64 (get_or ws (p.sun + 1) (pos 0)))) (words_from ws (p.sun + 2) p.moon) (to_z w64 (of_z w64 (get_or ws (p.moon + 1) (pos 0)))) (words_from ws (p.moon + 2) (length ws)) ≡ inputs_at ws p
read_back ws p s m = ap₂ (λ (x y : ℤ). inputs (words_from ws 1 p.sun) x (words_from ws (p.sun + 2) p.moon) y (words_from ws (p.moon + 2) (length ws))) (to_z-of_z s) (to_z-of_z m)

pub returns : goal.returns
returns c =
    let a = c.args in
    let os : SFits w64 (get_or a.oldwords.now (a.oldplaces.sun + 1) (pos 0)) = record { sfits = (omega arith) } in
    let om : SFits w64 (get_or a.oldwords.now (a.oldplaces.moon + 1) (pos 0)) = record { sfits = (omega arith) } in
    let fs : SFits w64 (get_or a.words.now (a.places.sun + 1) (pos 0)) = record { sfits = (omega arith) } in
    let fm : SFits w64 (get_or a.words.now (a.places.moon + 1) (pos 0)) = record { sfits = (omega arith) } in
    let told = rw (to_z-of_z c.ranges.zone) at c.rebuild.ensures in
    let made = by_inputs a.zone a.old.now a.file.now a.years.now (read_back a.oldwords.now a.oldplaces os om) (read_back a.words.now a.places fs fm) (told.result_value, (told.file_after, told.years_after)) in
    record { result_value = made.0; file_after = made.1.0; years_after = made.1.1 }
