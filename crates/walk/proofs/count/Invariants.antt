-- `walk::count` meets its contract. The invariant: the marks counted so far and those of the rest are all (`Counted`). In the needs, `turn` is a turn's beginning.
-- Assumes nothing.
use Rattle.series.specs.Series.{series}
use Rattle.walk.specs.theory.Turns.{Counted}
use Rattle.walk.proofs.count.Given as goal

abbrev pub invariant-loop-before : goal.invariant-loop-before
invariant-loop-before l = Counted (series l.body l.start.0 l.coefs) l.before l.reached l.marks
