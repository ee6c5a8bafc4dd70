-- `guess::inner::ahead` meets its contract. Assumes nothing.
use Rattle.whole.specs.Ranges.{Within, fits, within, within≤, bounds, bound_back, bound_eq}
use Rattle.whole.proofs.Floor.{bound_floor}
use native.Mathlib.Omega.{arith}
use Rattle.guess.proofs.inner.ahead.Goals as goal
use Rattle.guess.proofs.inner.ahead.Goals.{After-floor_div, After-signed}

at_half : (c : After-signed) → Within 1382400 c.signed.result
at_half c = within≤ (bound_eq c.signed.ensures (search bounds)) (omega arith)

pub overflow_mul-rise : goal.overflow_mul-rise
overflow_mul-rise c = let r = c.before.at_most.ensures in let h = at_half c in fits (search bounds) tt

pub overflow_sub-rise : goal.overflow_sub-rise
overflow_sub-rise c = let r = c.before.at_most.ensures in let h = at_half c in fits (search (bounds, bound_back (overflow_mul-rise c))) tt

at_ahead : (c : After-floor_div) → Within 1382400000000000001 c.floor_div.result
at_ahead c =
    let r = c.before.before.at_most.ensures in
    let h = at_half c.before in
    within (bound_eq c.floor_div.ensures (bound_floor _ (search (bounds, bound_back (overflow_mul-rise c.before), bound_back (overflow_sub-rise c.before)) depth 9))) tt

pub overflow_add-result : goal.overflow_add-result
overflow_add-result c = let a = at_ahead c in fits (search bounds) tt

pub overflow_add-result-2 : goal.overflow_add-result-2
overflow_add-result-2 c = let a = at_ahead c in fits (search (bounds, bound_back (overflow_add-result c))) tt

pub returns : goal.returns
returns c = let a = at_ahead c in within (search (bounds, bound_back (overflow_add-result c), bound_back (overflow_add-result-2 c)) depth 9) tt
