-- `build::inner::records::put_months` meets its contract. Assumes nothing.
use mathlib.Core.Path.{refl}
use native.Mathlib.Omega.{arith}
use lib.ListN.{take, length-take}
use Rattle.build.specs.theory.Stored.{nothing_put, month_put}
use Rattle.build.proofs.inner.records.put_months.Goals as goal

pub loop-i-init : goal.loop-i-init
loop-i-init c = nothing_put c.args.at c.args.out.now

pub loop-i-preserved : goal.loop-i-preserved
loop-i-preserved c =
    let months = take c.args.sui.count c.args.sui.months in
    let inside = c.loop-i-test.true in
    month_put c.args.out.now months c.args.at c.loop-i.i _ _ inside (omega (arith, length-take c.args.sui.count c.args.sui.months, c.requires)) refl c.loop-i.invariant c.put_month.ensures
