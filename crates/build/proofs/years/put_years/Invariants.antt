-- `build::years::put_years` meets its contract. The loop's invariant is `AtYear`. Assumes nothing.
use Rattle.inputs.specs.Inputs.{inputs}
use Rattle.build.specs.theory.Walk.{AtYear}
use Rattle.build.proofs.years.put_years.Given as goal

abbrev pub invariant-loop-j : goal.invariant-loop-j
invariant-loop-j l = AtYear (inputs l.leap l.sunstart.0 l.sun l.moonstart.0 l.moon) (l.zone) l.suns l.moons (l.first) l.n l.solstices l.newmoons l.zhongqi l.initial.suis l.initial.months l.place l.j l.from l.suis l.months
