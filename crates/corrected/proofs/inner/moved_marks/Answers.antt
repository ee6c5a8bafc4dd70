-- `corrected::inner::moved_marks` meets its contract. Assumes nothing.
use Rattle.whole.specs.Ranges.{back}
use Rattle.corrected.specs.theory.Kept.{stays_outside}
use Rattle.corrected.proofs.inner.moved_marks.Goals as goal

pub returns : goal.returns
returns c =
    let args = c.args in
    rw (back c.reached_before-low.result c.reached_before-low.type_inv, back c.reached_from-high.result c.reached_from-high.type_inv, c.reached_before-low.ensures, c.reached_from-high.ensures)
    (stays_outside args.body args.start.0 args.old.now args.coefs.now args.part.first args.part.end c.requires.accepted c.requires.accepted_2 c.requires.shared)
