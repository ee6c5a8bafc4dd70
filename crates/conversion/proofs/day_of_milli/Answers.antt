-- `conversion::day_of_milli` meets its contract. Assumes nothing.
use Rattle.clock.specs.Clock.{day_of_milli}
use mathlib.Core.Path.{◌∙◌}
use borrow.Author.Rules.{rules}
use mir.Syntax.{w64}
use mir.Val.{SFits}
use mir.Facts.{to_z-of_z}
use Rattle.conversion.proofs.day_of_milli.Goals as goal

pub returns : goal.returns
unfolding day_of_milli
returns c =
    let f : SFits w64 c.args.milli.0 = search rules in
    let g : SFits w64 c.floor_div.result = search rules in
    let e = to_z-of_z g ∙ (rw (to_z-of_z f) at c.floor_div.ensures) in
    λ t. record { 0 = e t }
