-- `alike::runs::sixteen_differ` meets its contract, by four times four. Assumes nothing.
use Rattle.whole.specs.Ranges.{fits_of}
use Rattle.alike.specs.theory.Bits.{none_of_four, no_word}
use Rattle.alike.proofs.runs.sixteen_differ.Goals as goal

pub returns : goal.returns
returns c e =
    let third = c.before in
    let second = third.before in
    let first = second.before in
    let none = none_of_four _ _ _ _ e in (
      first.four_differ.ensures (no_word (fits_of _ first.four_differ.type_inv) none.0),
      (
        second.four_differ-2.ensures (no_word (fits_of _ second.four_differ-2.type_inv) none.1.0),
        (
          third.four_differ-3.ensures (no_word (fits_of _ third.four_differ-3.type_inv) none.1.1.0),
          c.four_differ-4.ensures (no_word (fits_of _ c.four_differ-4.type_inv) none.1.1.1),
        ),
      ),
    )
