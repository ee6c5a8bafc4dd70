-- `guess::inner::times` meets its contract. Assumes nothing.
use mir.Facts.{to_z-of_z}
use Rattle.whole.specs.Ranges.{fits, bounds}
use Rattle.whole.proofs.Division.{shr_back}
use Rattle.guess.proofs.Sizes.{doubled}
use Rattle.guess.proofs.inner.times.Goals as goal

pub overflow_mul-result : goal.overflow_mul-result
overflow_mul-result c = fits (search bounds) tt

pub returns : goal.returns
returns c =
    let fa = c.ranges.a in
    let fp = c.ranges.place in
    rw (shr_back 1048576 (overflow_mul-result c)) (simp to_z-of_z (doubled c.args.a c.args.place c.requires.within_2))
