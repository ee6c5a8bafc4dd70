-- `kept_or_made::inner::days::keep_days` meets its contract. The loop's invariant: the suis of the years before year j are found, and their days stand in front.
-- Assumes nothing.
use Rattle.inputs.specs.Inputs.{inputs}
use Rattle.kept_or_made.specs.OldDays.{AtOld}
use Rattle.kept_or_made.proofs.inner.days.keep_days.Given as goal

abbrev pub invariant-loop-j : goal.invariant-loop-j
invariant-loop-j l = AtOld (inputs l.leap l.sunstart.0 l.sun l.moonstart.0 l.moon) (l.zone) l.suns l.moons (l.first) l.n l.solstices l.newmoons l.zhongqi l.initial.out l.place l.j l.from l.out
