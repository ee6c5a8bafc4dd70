-- `conversion::inner::milli_in` meets its contract. Assumes nothing.
use mathlib.Core.Path.{ap}
use mir.Facts.{to_z-of_z}
use Rattle.clock.specs.declared.Reading.{Reading}
use Rattle.clock.specs.Clock.{milli_in}
use Rattle.conversion.proofs.inner.milli_in.Goals as goal

pub returns : goal.returns
unfolding milli_in
returns c = ap (λ (read : Reading). read.milli) (rw (to_z-of_z c.ranges.zone) at c.reading-read.ensures)
