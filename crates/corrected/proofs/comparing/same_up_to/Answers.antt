-- `corrected::comparing::same_up_to` meets its contract: all segments before k are the same. Assumes nothing.
use Prim.Native.Nat.{◌+◌}
use native.Mathlib.Omega.{arith}
use Rattle.corrected.specs.theory.Compared.{more_before}
use Rattle.corrected.proofs.comparing.same_up_to.Goals as goal

pub loop-k-init : goal.loop-k-init
loop-k-init c = (c.requires.from_le_count, c.requires.same_before)

pub loop-k-preserved : goal.loop-k-preserved
loop-k-preserved c =
    let a = c.args in
    let k = c.loop-k.k in
    (omega arith, more_before a.old.now a.coefs.now k (k + a.n) c.loop-k.invariant.1 (c.same_run.ensures c.if-same_run.true))

pub returns-else-same_run : goal.returns-else-same_run
returns-else-same_run c = record { upper_bound = (c.loop-k.invariant).0; same_before_2 = (c.loop-k.invariant).1 }

pub returns-after-loop-k : goal.returns-after-loop-k
returns-after-loop-k c = record { upper_bound = (c.loop-k.invariant).0; same_before_2 = (c.loop-k.invariant).1 }
