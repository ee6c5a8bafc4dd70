-- `conversion::inner::holds` meets its contract. Assumes nothing.
use native.Mathlib.Omega.{arith}
use Rattle.whole.specs.Ranges.{back}
use Rattle.clock.specs.Leap.{holds}
use Rattle.conversion.proofs.inner.holds.Goals as goal

pub returns : goal.returns
unfolding holds
returns c =
    rw (back c.holds_from-from.result.0 (omega arith), c.holds_from-from.ensures, back c.args.t.0 (omega arith))
