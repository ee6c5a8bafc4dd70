-- What the months' words of the new file are taken from. Assumes nothing: this is a definition; what is proved of it and of the rebuild stands in `proofs/Theorems`.
use Rattle.std.specs.Prelude.{Bool, cond, List, [], ◌++◌, ℕ, zero, suc, ℤ}

-- ---- "Month records of a sui whose .. days are unchanged are copied from the old file"
-- the months' words of n suis, sui by sui: the old ones of a sui that is kept, else those that are made
unfoldable pub taken : (ℕ → Bool) → (ℕ → List ℤ) → (ℕ → List ℤ) → ℕ → List ℤ
taken keeps old made zero = []
taken keeps old made (suc n) = taken keeps old made n ++ cond (keeps n) (old n) (made n)
