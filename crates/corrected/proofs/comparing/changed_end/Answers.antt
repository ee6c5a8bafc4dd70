-- `corrected::comparing::changed_end` meets its contract: a segment behind the old ones differs, and otherwise they are compared. Assumes nothing.
use native.Mathlib.Omega.{arith}
use Rattle.corrected.specs.theory.Compared.{none_behind}
use Rattle.corrected.proofs.comparing.changed_end.Goals as goal

pub returns-then-old-count : goal.returns-then-old-count
returns-then-old-count c = record { lower_bound = c.requires; upper_bound = omega arith; same_from = none_behind c.args.old.now c.args.coefs.now }

pub same_down_to-near-requires : goal.same_down_to-near-requires
same_down_to-near-requires c = record { first_le_end = c.requires; end_bound = omega (arith, c.if-old-count.false); end_bound_2 = omega arith; n_nonzero = omega arith; same_from = none_behind c.args.old.now c.args.coefs.now }

pub same_down_to-requires : goal.same_down_to-requires
same_down_to-requires c =
    let near = c.same_down_to-near.ensures in record { first_le_end = near.lower_bound; end_bound = omega (arith, c.if-old-count.false, near.upper_bound); end_bound_2 = omega (arith, near.upper_bound); n_nonzero = omega arith; same_from = near.same_from_2 }

pub returns : goal.returns
returns c =
    let near = c.same_down_to-near.ensures in
    let found = c.same_down_to.ensures in record { lower_bound = found.lower_bound; upper_bound = omega (arith, near.upper_bound, found.upper_bound); same_from = found.same_from_2 }
