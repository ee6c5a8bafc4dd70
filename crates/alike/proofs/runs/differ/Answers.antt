-- `alike::runs::differ` meets its contract: two words that differ in no bit are the same. Assumes nothing.
use Rattle.whole.specs.Ranges.{fits_of}
use Rattle.alike.specs.theory.Bits.{bits_of_zero, same_word}
use Rattle.alike.proofs.runs.differ.Goals as goal

pub returns : goal.returns
returns c e = same_word (fits_of _ c.before.result-1.given) (fits_of _ c.result-2-1.given) (bits_of_zero _ e)
