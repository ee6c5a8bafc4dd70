-- `conversion::inner::convertible` meets its contract. Assumes nothing.
use native.Mathlib.Omega.{arith}
use Rattle.whole.specs.Ranges.{back}
use Rattle.clock.specs.Clock.{convertible}
use Rattle.conversion.proofs.inner.convertible.Goals as goal

pub returns : goal.returns
unfolding convertible
returns c =
    rw (back c.args.second.0 (omega arith)) at c.in_range.ensures
