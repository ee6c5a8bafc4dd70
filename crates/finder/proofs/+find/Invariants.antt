-- the measure: the number of the stretch's seconds
use Rattle.whole.specs.Distance.{distance_from}
use Rattle.finder.proofs.+find.Given as goal

abbrev pub decreases-find : goal.decreases-find
decreases-find l = distance_from l.lo.0 l.hi.0
