-- `alike::runs::same_run` meets its contract: both halves are the same. Assumes nothing.
use mathlib.Core.Path.{refl}
use Rattle.whole.specs.Booleans.{not_both}
use Rattle.alike.specs.Runs.{run_of}
use Rattle.alike.proofs.runs.same_run.Goals as goal

pub returns-then-same_half : goal.returns-then-same_half
returns-then-same_half c e =
    let even = c.before.before in
    let a = even.before.args in
    run_of a.a.now a.b.now a.k (even.same_half.ensures c.before.if-same_half.true) (c.same_half-then-same_half.ensures e)

pub returns : goal.returns
returns c e = absurd (not_both e refl)
