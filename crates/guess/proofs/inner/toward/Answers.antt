-- `guess::inner::toward` meets its contract. Assumes nothing.
use native.Mathlib.Omega.{arith}
use Rattle.whole.specs.Ranges.{Within, fits, within, within≤, bounds, bound_back, bound_eq}
use Rattle.whole.proofs.Floor.{bound_floor}
use Rattle.guess.proofs.Sizes.{bound_raised}
use Rattle.guess.proofs.inner.toward.Goals as goal
use Rattle.guess.proofs.inner.toward.Goals.{After-at_least-half, After-floor_div-steps, After-signed}

pub overflow_sub-rise : goal.overflow_sub-rise
overflow_sub-rise c = fits (search bounds) tt

at_half : (c : After-at_least-half) → Within 4000000001 c.at_least-half.result
at_half c = within (bound_raised c.at_least-half.ensures (search bounds) (search bounds)) tt

pub overflow_add-rise : goal.overflow_add-rise
overflow_add-rise c = let h = at_half c.before in fits (search (bounds, bound_back (overflow_sub-rise c.before.before))) tt

at_steps : (c : After-floor_div-steps) → Within 3000004000000001 c.floor_div-steps.result
at_steps c =
    let h = at_half c.before.before in
    within (bound_eq c.floor_div-steps.ensures (bound_floor _ (search (bounds, bound_back (overflow_sub-rise c.before.before.before), bound_back (overflow_add-rise c.before)) depth 9))) tt

at_k : (c : After-signed) → Within 16000 c.signed.result
at_k c = within≤ (bound_eq c.signed.ensures (search bounds)) (omega arith)

pub overflow_add-signed : goal.overflow_add-signed
overflow_add-signed c = let n = at_steps c.before in let k = at_k c in fits (search bounds) tt
