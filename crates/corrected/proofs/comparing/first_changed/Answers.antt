-- `corrected::comparing::first_changed` meets its contract: of the segments that both lists have. Assumes nothing.
use native.Mathlib.Omega.{arith}
use Rattle.corrected.specs.theory.Compared.{none_before}
use Rattle.corrected.proofs.comparing.first_changed.Goals as goal

pub same_up_to-near-requires : goal.same_up_to-near-requires
same_up_to-near-requires c =
    let both = c.both_have-count.ensures in
    let a = c.args in record { from_le_count = omega arith; count_bound = both.upper_bound; count_bound_2 = both.upper_bound_2; n_nonzero = omega arith; same_before = none_before a.old.now a.coefs.now }

pub same_up_to-requires : goal.same_up_to-requires
same_up_to-requires c =
    let both = c.both_have-count.ensures in
    let near = c.same_up_to-near.ensures in record { from_le_count = near.upper_bound; count_bound = both.upper_bound; count_bound_2 = both.upper_bound_2; n_nonzero = omega arith; same_before = near.same_before_2 }

pub returns : goal.returns
returns c =
    let both = c.both_have-count.ensures in
    let found = c.same_up_to.ensures in record { upper_bound = omega (arith, both.upper_bound_2, found.upper_bound); same_before = found.same_before_2 }
