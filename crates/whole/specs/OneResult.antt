-- Any two results that `absolute` may give are the same result. Assumes nothing.
use Rattle.std.specs.Prelude.{◌≡◌, ℕ, ℤ, nat_abs}
use Rattle.std.proofs.Common.{sym, ◌∙◌}

pub absolute_one_result : (z : ℤ) (a b : ℕ) → a ≡ nat_abs z → b ≡ nat_abs z → a ≡ b
absolute_one_result z a b p q = p ∙ sym q
