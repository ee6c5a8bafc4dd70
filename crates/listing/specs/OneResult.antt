-- Any two results that `list_part` may give are the same result, and so is what the lent room holds. Assumes nothing.
use Rattle.std.specs.Prelude.{◌≡◌, List, ℕ, ℤ, length}
use Rattle.refusals.specs.Verdict.{one_content}
use Rattle.listing.specs.declared.Part.{Part}
use Rattle.listed.specs.Listing.{listing}
use Rattle.listing.specs.Parts.{part_answer, part_held}

module _ (input : List ℕ) (zone : ℤ) (from : ℕ) (room : List ℕ) where
  pub list_part_one_result : (a b : Part) → a ≡ part_answer (listing input zone) from (length room) → b ≡ part_answer (listing input zone) from (length room) → a ≡ b
  list_part_one_result = one_content

  pub list_part_one_content : (a b : List ℕ) → a ≡ part_held (listing input zone) from room → b ≡ part_held (listing input zone) from room → a ≡ b
  list_part_one_content = one_content
