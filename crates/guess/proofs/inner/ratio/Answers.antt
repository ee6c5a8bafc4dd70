-- `guess::inner::ratio` meets its contract. Assumes nothing.
use Rattle.whole.specs.Ranges.{fits, bounds}
use Rattle.guess.proofs.inner.ratio.Goals as goal

pub overflow_mul-a : goal.overflow_mul-a
overflow_mul-a c = fits (search bounds) tt
