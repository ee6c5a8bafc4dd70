-- `conversion::inner::utc_day` meets its contract. Assumes nothing.
use native.Mathlib.Omega.{arith}
use Rattle.whole.specs.Ranges.{back}
use Rattle.conversion.proofs.inner.utc_day.Goals as goal

pub returns : goal.returns
returns c =
    rw (back c.args.day.0 (omega arith)) at c.in_range.ensures
