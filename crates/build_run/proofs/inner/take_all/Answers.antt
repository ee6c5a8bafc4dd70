-- `build_run::inner::take_all` meets its contract. Assumes nothing.
use Rattle.std.proofs.Common.{◌≡◌, length, arith}
use Rattle.pieces.proofs.Theorems.{taken_so_far, last_taken, whole_taken, next_keeps_length}
use Rattle.build_run.proofs.inner.take_all.Goals as goal

pub returns-then-taken-before-clause-all : goal.returns-then-taken-before-clause-all
returns-then-taken-before-clause-all g c = last_taken c.args.words.now c.loop-taken.invariant.whole c.in_ok-taken.ensures.next

pub loop-taken-preserved : goal.loop-taken-preserved
loop-taken-preserved g c =
    let next = c.in_ok-taken.ensures.next in
    let full : length next.piece ≡ 65536 = omega (arith, next.is_bytes, next.short) in
    record {
      few = omega (arith, next.is_bytes, next.short);
      long = omega (arith, next_keeps_length next, c.loop-taken.invariant.long);
      whole = whole_taken c.args.words.now c.loop-taken.invariant.whole next (omega (arith, full));
    }

pub returns-clause-all : goal.returns-clause-all
returns-clause-all g c = taken_so_far c.args.words.now c.loop-taken.invariant.whole
