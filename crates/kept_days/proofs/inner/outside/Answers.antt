-- `kept_days::inner::outside` meets its contract. Assumes nothing.
use mathlib.Core.Path.{◌≡◌, sym, ap₂, ◌∙◌}
use mathlib.Core.Bool.{true, false}
use lib.Signed.{le_z, lt_z}
use mir.Facts.{to_z-of_z}
use Rattle.whole.specs.Booleans.{first_holds, second_decides}
use Rattle.kept_days.specs.KeptDays.{outside}
use Rattle.kept_days.proofs.inner.outside.Goals as goal

pub returns-then-last-low : goal.returns-then-last-low
unfolding outside
returns-then-last-low c =
    let a = c.args in
    let before : le_z a.last a.low ≡ true = sym (ap₂ le_z (to_z-of_z c.ranges.last) (to_z-of_z c.ranges.low)) ∙ c.if-last-low.true in
    sym before ∙ first_holds (le_z a.last a.low) (lt_z a.high a.first) before

pub returns : goal.returns
unfolding outside
returns c =
    let a = c.args in
    let not_before : le_z a.last a.low ≡ false = sym (ap₂ le_z (to_z-of_z c.ranges.last) (to_z-of_z c.ranges.low)) ∙ c.if-last-low.false in
    ap₂ lt_z (to_z-of_z c.ranges.high) (to_z-of_z c.ranges.first) ∙ second_decides (le_z a.last a.low) (lt_z a.high a.first) not_before
