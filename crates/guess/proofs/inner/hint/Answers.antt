-- `guess::inner::hint` meets its contract. Assumes nothing.
use native.Mathlib.Omega.{arith}
use Rattle.whole.specs.Ranges.{Within, fits, within, within≤, bounds, bound_back, bound_eq}
use Rattle.guess.proofs.Sizes.{bound_raised}
use Rattle.guess.proofs.inner.hint.Goals as goal
use Rattle.guess.proofs.inner.hint.Goals.{After-at_least-all, After-signed}

at_all : (c : After-at_least-all) → Within 11718750000001 c.at_least-all.result
at_all c = let all = c.before.coarse.ensures in within (bound_raised c.at_least-all.ensures (search bounds) (search bounds)) tt

at_steps : (c : After-signed) → Within 16000 c.signed.result
at_steps c = within≤ (bound_eq c.signed.ensures (search bounds)) (omega arith)

pub overflow_mul-part : goal.overflow_mul-part
overflow_mul-part c = let part = c.before.coarse-2.ensures in let steps = at_steps c in fits (search bounds) tt

pub overflow_mul-part-2 : goal.overflow_mul-part-2
overflow_mul-part-2 c = let part = c.before.coarse-2.ensures in let steps = at_steps c in fits (search (bounds, bound_back (overflow_mul-part c))) tt

pub overflow_add-part : goal.overflow_add-part
overflow_add-part c =
    let part = c.before.coarse-2.ensures in
    let steps = at_steps c in
    let all = at_all c.before.before in
    fits (search (bounds, bound_back (overflow_mul-part c), bound_back (overflow_mul-part-2 c)) depth 9) tt
