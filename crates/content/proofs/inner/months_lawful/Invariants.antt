-- `content::inner::months_lawful` meets its contract. Assumes nothing.
use Rattle.content.proofs.theory.Walk.{MonthsSoFar}
use Rattle.content.proofs.inner.months_lawful.Given as goal

abbrev pub invariant-loop-place : goal.invariant-loop-place
invariant-loop-place g l = MonthsSoFar (g.R.Records.months l.records) l.year l.size l.from l.place l.leaps l.next l.day
