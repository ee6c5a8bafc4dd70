-- `guess::inner::coarse` meets its contract. Assumes nothing.
use native.Mathlib.Omega.{arith}
use Rattle.whole.proofs.Division.{shr_back}
use Rattle.guess.proofs.Sizes.{floor_small}
use Rattle.guess.proofs.inner.coarse.Goals as goal

pub returns : goal.returns
returns c = let small = c.requires.within in rw (shr_back 256 c.ranges.units) (record { within = floor_small c.args.units 256 11718750000000 (omega arith) (omega arith) })
