-- A returned slice that is a part of a lent one: where in the lent slice it begins, and how many of its words it has. Assumes nothing.
use Rattle.std.specs.Prelude.{◌≡◌, List, ℕ, ◌+◌, ◌*◌, ℤ, take, drop}
use Rattle.std.proofs.Common.{sym, ◌∙◌}
use Rattle.std.specs.Borrow.{Bor}

-- No copy: the part begins at word `from` of the lent slice itself, in the same block of memory and eight bytes further on for each word, and it has the `count`
-- words that stand there.
pub record PartOf (lent : Bor (List ℤ)) (from count : ℕ) (part : Bor (List ℤ)) : Type 0 where
  pub block : part.ref_ptr.0 ≡ lent.ref_ptr.0
  pub place : part.ref_ptr.1 ≡ lent.ref_ptr.1 + 8 * from
  pub words : part.now ≡ take count (drop from lent.now)

-- Any two slices that are the same part of a lent one begin at the same place and hold the same words.
pub one_part : {lent : Bor (List ℤ)} {from count : ℕ} (a b : Bor (List ℤ)) → PartOf lent from count a → PartOf lent from count b → (a.ref_ptr ≡ b.ref_ptr) × (a.now ≡ b.now)
one_part a b p q =
    let same_block = p.block ∙ sym q.block in
    let same_place = p.place ∙ sym q.place in
    (λ t. (same_block t, same_place t), p.words ∙ sym q.words)
