-- `conversion::inner::entry_used` meets its contract. The loop's invariant: `low` holds by then, and nothing from `high` on does. Assumes nothing.
use native.Mathlib.Omega.{arith}
use Rattle.clock.proofs.theory.Used.{bracket, raise, lower, found}
use mathlib.Core.Path.{sym, ◌∙◌}
use Rattle.conversion.proofs.inner.entry_used.Goals as goal

pub loop-low-init : goal.loop-low-init
loop-low-init c = bracket c.args.leap.now c.args.t.0 c.requires.leap_value c.requires.t_value

pub overflow_add-low : goal.overflow_add-low
overflow_add-low c = record { fits = omega (arith, c.loop-low.invariant.ordered, c.loop-low.invariant.inside, c.well_formed) }

pub overflow_sub-middle : goal.overflow_sub-middle
overflow_sub-middle c = omega (arith, c.loop-low.invariant.ordered)

pub holds-requires : goal.holds-requires
holds-requires c =
    record { leap_value = c.requires.leap_value; i_bound = omega (arith, c.loop-low.invariant.ordered, c.loop-low.invariant.inside) }

pub loop-low-smaller-then-holds : goal.loop-low-smaller-then-holds
loop-low-smaller-then-holds c =
    omega (arith, c.loop-low.invariant.ordered)

pub loop-low-preserved-then-holds : goal.loop-low-preserved-then-holds
loop-low-preserved-then-holds c =
    raise c.loop-low.invariant (omega arith) (omega arith) (sym c.holds.ensures ∙ c.if-holds.true)

pub loop-low-smaller : goal.loop-low-smaller
loop-low-smaller c =
    omega (arith, c.loop-low.invariant.ordered)

pub loop-low-preserved : goal.loop-low-preserved
loop-low-preserved c =
    lower c.requires.leap_value c.loop-low.invariant (omega arith) (omega arith) (sym c.holds.ensures ∙ c.if-holds.false)

pub returns : goal.returns
returns c = found c.loop-low.invariant (omega arith)
