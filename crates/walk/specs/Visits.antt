-- Visiting a stretch second by second, over any value of seconds and any size of a mark: what a stretch lists is what its next second lists, and then the rest. Nothing
-- is asked of the value: neither that it rises, nor by how much. Assumes nothing.
use Rattle.std.specs.Prelude.{◌≡◌, List, [], ◌∷◌, ◌++◌, ℕ, ℤ, pos, ◌+ℤ◌, ◌≤ℤ◌, ◌<ℤ◌}
use Rattle.std.proofs.Common.{ap, ◌∙◌}
use Rattle.whole.specs.Parts.{ℤ_rules, parts_add}
use Rattle.whole.specs.Distance.{distance_from, back_one, distance_of, one_nearer}
use Rattle.marks.specs.Marks.{Mark, index_at, mark_at, marks_after, marks}
use Rattle.marks.specs.Crossings.{marked}
use Rattle.marks.proofs.theory.StretchLaws.{lists_none, lists_one}

module _ (v : ℤ → ℤ) (size : ℕ) {a b : ℤ} where
  -- a second is left: the next one lists what it lists, and then come the others
  pub next_and_rest : a <ℤ b → marks v size a b ≡ mark_at v size (a +ℤ pos 1) ++ marks v size (a +ℤ pos 1) b
  unfolding marks marks_after
  next_and_rest h = rw (one_nearer h)

  -- where it has reached more marks than the one before, it is listed ..
  pub next_listed : a <ℤ b → index_at v size a <ℤ index_at v size (a +ℤ pos 1) → marks v size a b ≡ marked (index_at v size (a +ℤ pos 1)) (a +ℤ pos 1) ∷ marks v size (a +ℤ pos 1) b
  next_listed h more = next_and_rest h ∙ ap (λ (l : List Mark). l ++ marks v size (a +ℤ pos 1) b) (lists_one v size (a +ℤ pos 1) (rw (back_one a) more))

  -- .. and where it has not, it is not
  pub next_not_listed : a <ℤ b → index_at v size (a +ℤ pos 1) ≤ℤ index_at v size a → marks v size a b ≡ marks v size (a +ℤ pos 1) b
  next_not_listed h none = next_and_rest h ∙ ap (λ (l : List Mark). l ++ marks v size (a +ℤ pos 1) b) (lists_none v size (a +ℤ pos 1) (rw (back_one a) none))

  -- no second is left: nothing is listed
  pub over : a ≤ℤ b → b ≤ℤ a → marks v size a b ≡ []
  unfolding marks marks_after
  over h k = let same : distance_from a b ≡ 0 = distance_of a b 0 (omega (ℤ_rules, parts_add a (pos 0))) in rw same
