-- Pieces of whole words were taken, so many bytes in all. Assumes nothing.
use Rattle.std.proofs.Common.{◌≡◌, ◌-◌, ◌≤◌, length}
use Rattle.pieces.specs.Pieces.{TakenWhole}
use Rattle.build_run.proofs.inner.take_all.Given as goal

abbrev pub invariant-loop-taken : goal.invariant-loop-taken
invariant-loop-taken g l = record { few : l.taken ≤ 2082616; long : length l.words ≡ 252135; whole : TakenWhole l.fn.words l.words l.taken }

abbrev pub decreases-loop-taken : goal.decreases-loop-taken
decreases-loop-taken g l = 2082617 - l.taken
