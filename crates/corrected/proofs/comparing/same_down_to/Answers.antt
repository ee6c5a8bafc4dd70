-- `corrected::comparing::same_down_to` meets its contract: all segments from k on are the same. Assumes nothing.
use mathlib.Core.Path.{◌≡◌, subst}
use Prim.Native.Nat.{ℕ, ◌+◌, ◌-◌}
use native.Mathlib.Omega.{arith}
use Rattle.corrected.specs.theory.Compared.{SameBetween, more_behind}
use Rattle.corrected.proofs.comparing.same_down_to.Goals as goal

pub loop-k-init : goal.loop-k-init
loop-k-init c = (c.requires.first_le_end, (omega arith, c.requires.same_from))

pub loop-k-preserved : goal.loop-k-preserved
loop-k-preserved c =
    let a = c.args in
    let k = c.loop-k.k in
    let up : k - a.n + a.n ≡ k = omega arith in
    let run = subst (λ (to : ℕ). SameBetween a.old.now a.coefs.now (k - a.n) to) up (c.same_run.ensures c.if-same_run.true) in
    (omega arith, (omega arith, more_behind a.old.now a.coefs.now (k - a.n) k run c.loop-k.invariant.1.1))

pub returns-else-same_run : goal.returns-else-same_run
returns-else-same_run c = record { lower_bound = (c.loop-k.invariant).0; upper_bound = (c.loop-k.invariant).1.0; same_from_2 = (c.loop-k.invariant).1.1 }

pub returns-after-loop-k : goal.returns-after-loop-k
returns-after-loop-k c = record { lower_bound = (c.loop-k.invariant).0; upper_bound = (c.loop-k.invariant).1.0; same_from_2 = (c.loop-k.invariant).1.1 }
