-- `conversion::inner::early` meets its contract. Assumes nothing.
use mathlib.Core.Path.{ap}
use mathlib.Core.Bool.{not}
use Rattle.clock.specs.Clock.{early}
use Rattle.clock.proofs.theory.Table.{some}
use Rattle.conversion.proofs.inner.early.Goals as goal

pub holds-requires : goal.holds-requires
holds-requires c =
    record { leap_value = c.requires.leap_value; i_bound = some c.args.leap.now c.requires.leap_value }

pub returns : goal.returns
unfolding early
returns c = ap not (rw c.tai_of.ensures at c.holds.ensures)
