-- `kept_years::lines::row_bytes` meets its contract. Assumes nothing.
use mathlib.Core.List.{[], ◌∷◌}
use Rattle.kept_years.specs.KeptYears.{row}
use Rattle.kept_years.specs.theory.Among.{letters}
use Rattle.kept_years.proofs.lines.row_bytes.Goals as goal

pub returns : goal.returns
unfolding row
returns c = rw (letters c.args.kept) (λ t. (c.digit.ensures t) ∷ (c.digit-2.ensures t) ∷ (c.digit-3.ensures t) ∷ (c.digit-4.ensures t) ∷ 32 ∷ (c.letter.ensures t) ∷ (c.letter-2.ensures t) ∷ (c.letter-3.ensures t) ∷ (c.letter-4.ensures t) ∷ 10 ∷ [])
