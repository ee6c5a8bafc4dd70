-- `building::inner::all_taken` meets its contract. Assumes nothing.
use Prim.Native.Nat.{◌%◌}
use borrow.Author.Tests.{le-leb, lt-leb, eq-eqb, ne_eqb}
use Rattle.building.specs.Building.{length_kept, all_taken}
use Rattle.building.proofs.inner.all_taken.Goals as goal

pub returns-then-bytes-gt2017080 : goal.returns-then-bytes-gt2017080
unfolding all_taken length_kept
returns-then-bytes-gt2017080 c = rw (lt-leb c.args.bytes 2017080 c.if-bytes-gt2017080.true)

pub returns-then-bytes-ne0 : goal.returns-then-bytes-ne0
unfolding all_taken length_kept
returns-then-bytes-ne0 c = let bytes = c.args.bytes in rw (le-leb bytes 2017080 c.if-bytes-gt2017080.false, ne_eqb (bytes % 8) 0 c.if-bytes-ne0.true)

pub returns : goal.returns
unfolding all_taken length_kept
returns c = let bytes = c.args.bytes in rw (le-leb bytes 2017080 c.if-bytes-gt2017080.false, eq-eqb (bytes % 8) 0 c.if-bytes-ne0.false)
