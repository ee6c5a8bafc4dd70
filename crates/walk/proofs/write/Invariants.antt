-- `walk::write` meets its contract. The invariant: the words written so far, with those of the rest put behind them, are what is wanted (`Written`). In the needs,
-- `turn` is a turn's beginning. Assumes nothing.
use mathlib.Core.List.{◌++◌}
use Prim.Native.Nat.{◌*◌}
use lib.ListN.{length, drop}
use Rattle.series.specs.Series.{series}
use Rattle.marks.specs.Listed.{listed_marks}
use Rattle.marks.specs.Words.{mark_words}
use Rattle.walk.specs.theory.Turns.{Written}
use Rattle.walk.proofs.write.Given as goal

abbrev pub invariant-loop-before : goal.invariant-loop-before
invariant-loop-before l =
    let s = series l.body l.start.0 l.coefs in
    Written s l.before l.reached l.at l.out (mark_words (listed_marks s) ++ drop (2 * length (listed_marks s)) l.initial.out)
