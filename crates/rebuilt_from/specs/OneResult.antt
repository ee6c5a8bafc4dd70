-- Any two results that the promises of `rebuild_taken` allow are the same result, and so is what the lent file and the lent years hold. Assumes nothing.
use Rattle.std.specs.Prelude.{◌≡◌, List, ℕ, ℤ, length, Result}
use Rattle.refusals.specs.declared.Refusal.{Refusal}
use Rattle.refusals.specs.Verdict.{one_result, one_content, paper}
use Rattle.refusals.specs.Lent.{written_into}
use Rattle.rebuilt.specs.declared.Rebuilt.{Rebuilt}
use Rattle.rebuilt.specs.Rebuild.{counted, new_bytes, kept_years}
use Rattle.rebuilt.proofs.Theorems.{rebuilt_apart}
use Rattle.rebuilt_from.specs.RebuiltFrom.{rebuilt_from_taken}

module _ (old : List ℕ) (oldws : List ℤ) (oldbytes : ℕ) (ws : List ℤ) (bytes : ℕ) (zone : ℤ) (file : List ℕ) (years : List ℤ) where
  pub rebuild_taken_one_result : (a b : Result Rebuilt Refusal) → paper a ≡ counted (rebuilt_from_taken old oldws oldbytes ws bytes zone (length file) (length years)) → paper b ≡ counted (rebuilt_from_taken old oldws oldbytes ws bytes zone (length file) (length years)) → a ≡ b
  rebuild_taken_one_result a b p q = one_result paper rebuilt_apart a b p q

  pub rebuild_taken_one_content : (a b : List ℕ) → a ≡ written_into (rebuilt_from_taken old oldws oldbytes ws bytes zone (length file) (length years)) new_bytes file → b ≡ written_into (rebuilt_from_taken old oldws oldbytes ws bytes zone (length file) (length years)) new_bytes file → a ≡ b
  rebuild_taken_one_content a b p q = one_content a b p q

  pub rebuild_taken_one_list : (a b : List ℤ) → a ≡ written_into (rebuilt_from_taken old oldws oldbytes ws bytes zone (length file) (length years)) kept_years years → b ≡ written_into (rebuilt_from_taken old oldws oldbytes ws bytes zone (length file) (length years)) kept_years years → a ≡ b
  rebuild_taken_one_list a b p q = one_content a b p q
