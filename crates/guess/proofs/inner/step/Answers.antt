-- `guess::inner::step` meets its contract. Assumes nothing.
use Rattle.whole.specs.Ranges.{Within, fits, within, bounds, bound_back}
use Rattle.guess.proofs.Sizes.{bound_doubled}
use Rattle.guess.proofs.inner.step.Goals as goal
use Rattle.guess.proofs.inner.step.Goals.{After-times, After-times-2, After-times-3, After-times-cubic}

at_cubic : (c : After-times-cubic) → Within 32000000000 c.times-cubic.result
at_cubic c = within (bound_doubled c.times-cubic.ensures (search bounds)) tt

pub overflow_add-a2 : goal.overflow_add-a2
overflow_add-a2 c = let u = at_cubic c in fits (search bounds) tt

at_square : (c : After-times) → Within 80000000000 c.times.result
at_square c = let u = at_cubic c.before in within (bound_doubled c.times.ensures (search (bounds, bound_back (overflow_add-a2 c.before)))) tt

pub overflow_add-mean : goal.overflow_add-mean
overflow_add-mean c = let m = at_square c in fits (search bounds) tt

pub overflow_mul-cubic : goal.overflow_mul-cubic
overflow_mul-cubic c = let u = at_cubic c.before in fits (search bounds) tt

pub overflow_add-a2-2 : goal.overflow_add-a2-2
overflow_add-a2-2 c = let u = at_cubic c.before in fits (search (bounds, bound_back (overflow_mul-cubic c))) tt

at_more : (c : After-times-2) → Within 144000000000 c.times-2.result
at_more c =
    let u = at_cubic c.before.before in
    within (bound_doubled c.times-2.ensures (search (bounds, bound_back (overflow_mul-cubic c.before), bound_back (overflow_add-a2-2 c.before)) depth 9)) tt

pub overflow_add-mean-2 : goal.overflow_add-mean-2
overflow_add-mean-2 c = let m = at_square c.before in let n = at_more c in fits (search (bounds, bound_back (overflow_add-mean c.before))) tt

pub times-requires-3-clause-within : goal.times-requires-3-clause-within
times-requires-3-clause-within c = let m = at_square c.before.before in within (search (bounds, bound_back (overflow_add-mean c.before.before))) tt

at_over : (c : After-times-3) → Within 194000000000 c.times-3.result
at_over c =
    let m = at_square c.before.before.before in
    within (bound_doubled c.times-3.ensures (search (bounds, bound_back (overflow_add-mean c.before.before.before)))) tt

pub overflow_sub-goal : goal.overflow_sub-goal
overflow_sub-goal c = let o = at_over c in fits (search bounds) tt

pub ratio-more-requires-clause-within : goal.ratio-more-requires-clause-within
ratio-more-requires-clause-within c = let o = at_over c in within (search (bounds, bound_back (overflow_sub-goal c))) tt
