-- `kept_or_made::inner::walk::put_years_again` meets its contract. The loop's invariant: the suis of the years before year j are found and put, and their years are listed where
-- they are kept. Assumes nothing.
use Rattle.inputs.specs.Inputs.{inputs}
use Rattle.kept_or_made.specs.theory.Walking.{AtAgain}
use Rattle.kept_or_made.proofs.inner.walk.put_years_again.Given as goal

abbrev pub invariant-loop-j : goal.invariant-loop-j
invariant-loop-j l = AtAgain (inputs l.leap l.sunstart.0 l.sun l.moonstart.0 l.moon) (l.zone) l.suns l.moons (l.first) l.n l.solstices l.newmoons l.zhongqi l.before l.old l.at l.initial.suis l.initial.months l.initial.kept l.place l.j l.from l.copied l.years l.suis l.months l.kept
