-- `words::inner::read_words` meets its contract: the loop's invariant is that the first i words stand in front of what the room held. Assumes nothing.
use lib.ListN.{drop}
use mathlib.Core.List.{◌++◌}
use mathlib.Core.Path.{◌≡◌}
use Rattle.words.specs.Words.{words}
use Rattle.words.proofs.inner.read_words.Given as goal

abbrev pub invariant-loop-i : goal.invariant-loop-i
invariant-loop-i l = l.word-items ≡ words l.src l.i ++ drop l.i l.initial.word-items
