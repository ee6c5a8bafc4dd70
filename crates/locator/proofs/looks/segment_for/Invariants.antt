-- `locator::looks::segment_for` meets its contract: the invariant is that k is a segment. Assumes nothing.
use Prim.Native.Nat.{◌<◌}
use Rattle.series.specs.Series.{segments}
use Rattle.locator.proofs.looks.segment_for.Given as goal

abbrev pub invariant-loop : goal.invariant-loop
invariant-loop l = l.k < segments l.coefs
