-- Any two results that the promises of `pack` allow are the same result, and so is what the lent room holds. Assumes nothing.
use Rattle.std.specs.Prelude.{◌≡◌, List, ℕ, length, Result}
use Rattle.std.proofs.Common.{sym, ◌∙◌}
use Rattle.packing.specs.declared.PackError.{PackError}
use Rattle.packing.specs.Packing.{packed, held}

module _ (text out : List ℕ) where
  pub pack_one_result : (a b : Result ℕ PackError) → a ≡ packed text (length out) → b ≡ packed text (length out) → a ≡ b
  pack_one_result a b p q = p ∙ sym q

  pub pack_one_content : (a b : List ℕ) → a ≡ held text out → b ≡ held text out → a ≡ b
  pack_one_content a b p q = p ∙ sym q
