-- `suis::inner::fewer` meets its contract. Assumes nothing.
use Prim.Native.Nat.{◌-◌}
use borrow.Author.Tests.{lt-ltb, le-ltb}
use Rattle.suis.specs.Ahead.{fewer}
use Rattle.suis.proofs.inner.fewer.Goals as goal

pub returns-then-left-most : goal.returns-then-left-most
unfolding fewer
returns-then-left-most c = let a = c.args in rw (lt-ltb (a.listed - a.from) a.most c.if-left-most.true)

pub returns : goal.returns
unfolding fewer
returns c = let a = c.args in rw (le-ltb (a.listed - a.from) a.most c.if-left-most.false)
