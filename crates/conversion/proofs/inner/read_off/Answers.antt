-- `conversion::inner::read_off` meets its contract. Assumes nothing.
use native.Mathlib.Omega.{arith}
use mathlib.Core.Path.{ap, ◌∙◌}
use lib.IntN.{ℤ, pos, ◌-ℤ◌}
use mir.Facts.{to_z-of_z}
use Rattle.whole.specs.Ranges.{fits, bounds, back}
use Rattle.clock.specs.Clock.{read_off}
use Rattle.conversion.proofs.inner.read_off.Goals as goal

pub overflow_sub-result : goal.overflow_sub-result
overflow_sub-result c = fits (search bounds) tt

pub returns-then-read : goal.returns-then-read
unfolding read_off
returns-then-read c =
    let m = c.args.read.milli.0 in
    rw c.if-read.true (λ t. record { 0 = (to_z-of_z (overflow_sub-result c) ∙ ap (λ (z : ℤ). z -ℤ pos 1000) (back m (omega arith))) t })

pub returns : goal.returns
unfolding read_off
returns c = rw c.if-read.false
