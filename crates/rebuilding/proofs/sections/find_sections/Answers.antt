-- `rebuilding::sections::find_sections` meets its contract. Assumes nothing.
use mathlib.Core.Path.{◌≡◌, sym, ◌∙◌}
use mathlib.Core.Bool.{true}
use Prim.Native.Nat.{◌/◌, ◌-◌}
use native.Mathlib.Omega.{arith}
use borrow.Author.Rules.{rules}
use lib.ListN.{drop, length-drop}
use lib.Seq.{length-take-le}
use Rattle.building.specs.Building.{all_taken}
use Rattle.building.specs.theory.Cases.{bounded}
use Rattle.rebuilt_from.proofs.theory.Cases.{not_taken, too_few, enough}
use Rattle.rebuilding.proofs.sections.find_sections.Goals as goal
use Rattle.rebuilding.proofs.sections.find_sections.Goals.{Else-not-all_taken}

is_taken : (c : Else-not-all_taken) → all_taken c.args.words.now c.args.bytes ≡ true
is_taken c = sym c.all_taken.ensures ∙ c.if-not-all_taken.false

pub returns-then-not-all_taken : goal.returns-then-not-all_taken
returns-then-not-all_taken c = let a = c.args in sym (not_taken a.words.now a.bytes (sym c.all_taken.ensures ∙ c.if-not-all_taken.true))

pub returns-then-end-lt2 : goal.returns-then-end-lt2
returns-then-end-lt2 c = let a = c.args in sym (too_few a.words.now a.bytes (is_taken (goal.at.returns-then-end-lt2 c).Else-not-all_taken) c.if-end-lt2.true)

pub slice_bounds-find_places-end : goal.slice_bounds-find_places-end
slice_bounds-find_places-end c =
    let a = c.args in
    let known = bounded a.words.now a.bytes (is_taken (goal.at.slice_bounds-find_places-end c).Else-not-all_taken) in
    search rules

pub find_places-requires : goal.find_places-requires
find_places-requires c =
    let a = c.args in
    let known = bounded a.words.now a.bytes (is_taken (goal.at.find_places-requires c).Else-not-all_taken) in
    omega (arith, length-take-le (a.bytes / 8 - 2) (drop 2 a.words.now) (omega (arith, length-drop 2 a.words.now, known.1, c.if-end-lt2.false)), known.0)

pub returns : goal.returns
returns c =
    let a = c.args in
    c.find_places.ensures ∙ sym (enough a.words.now a.bytes (is_taken (goal.at.returns c).Else-not-all_taken) c.if-end-lt2.false)
