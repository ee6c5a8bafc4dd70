-- `kept_days::inner::zhongqi_again` meets its contract. The loop's invariant: the zhongqi days of the first j suis stand in front. Assumes nothing.
use mathlib.Core.Path.{◌≡◌}
use Rattle.whole.specs.Lists.{placed}
use Rattle.series.specs.declared.Body.TheVariants.{Sun}
use Rattle.series.specs.Series.{series}
use Rattle.suis.specs.Ahead.{zhongqi_of}
use Rattle.kept_days.proofs.inner.zhongqi_again.Given as goal

abbrev pub invariant-loop-j : goal.invariant-loop-j
invariant-loop-j l = l.out ≡ placed 0 (zhongqi_of l.leap (series Sun l.start.0 l.coefs) (l.zone) l.place l.j) l.initial.out
