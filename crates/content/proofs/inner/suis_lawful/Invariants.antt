-- `content::inner::suis_lawful` meets its contract. Assumes nothing.
use Rattle.content.proofs.theory.Walk.{SuisSoFar}
use Rattle.content.proofs.inner.suis_lawful.Given as goal

abbrev pub invariant-loop-i : goal.invariant-loop-i
invariant-loop-i g l = SuisSoFar (g.R.Records.suis l.records) (g.R.Records.months l.records) l.i l.from l.due l.day
