-- `acceptance::inner::covers` meets its contract. In the needs, `told` is the place where all three seconds are read. Assumes nothing.
use mathlib.Core.Path.{◌∙◌}
use Rattle.whole.specs.Ranges.{back}
use Rattle.acceptance.proofs.inner.covers.Goals as goal
use native.Mathlib.Omega.{arith}

pub returns : goal.returns
returns c =
    let first-second = back c.args.start.0 (omega arith) in
    let last_second_lem = back c.last_second-last.result.0 (omega arith) ∙ c.last_second-last.ensures in
    let asked = back c.args.second.0 (omega arith) in
    rw (first-second, last_second_lem, asked) at c.in_range.ensures
