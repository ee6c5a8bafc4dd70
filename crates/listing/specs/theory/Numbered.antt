-- Which line is the n-th: those of the first list of marks come first. Assumes nothing.
use Rattle.std.specs.Prelude.{◌≡◌, refl, List, [], ◌∷◌, map, ℕ, zero, suc, ◌+◌, ◌<◌, ℤ, length, get_or}
use Rattle.std.proofs.Common.{sym, ap, ◌∙◌, arith, length-append, get_or-append-add}
use Rattle.std.proofs.lemmas.List.{length-map}
use Rattle.std.proofs.Math.ListN.{get_or-append}
use Rattle.series.specs.declared.Body.TheVariants.{Sun, Moon}
use Rattle.marks.specs.Marks.{Mark}
use Rattle.marks.specs.Answers.{no_mark}
use Rattle.marks.specs.Listed.{listed_marks}
use Rattle.inputs.specs.Inputs.{Inputs, sun, moon}
use Rattle.listed.specs.Listing.{line_of, lines_of}

nth_mapped : (f : Mark → List ℕ) (marks : List Mark) (k : ℕ) → k < length marks → get_or (map f marks) k [] ≡ f (get_or marks k no_mark)
nth_mapped f [] k h = absurd (omega arith)
nth_mapped f (m ∷ marks) zero h = refl
nth_mapped f (m ∷ marks) (suc k) h = nth_mapped f marks k (omega arith)

module _ (i : Inputs) (zone : ℤ) where
  pub lines_count : length (lines_of i zone) ≡ length (listed_marks (sun i)) + length (listed_marks (moon i))
  lines_count = simp (length-append, length-map)

  pub sun_line : (k : ℕ) → k < length (listed_marks (sun i)) → get_or (lines_of i zone) k [] ≡ line_of Sun i.leap zone (get_or (listed_marks (sun i)) k no_mark)
  sun_line k h =
      get_or-append (map (line_of Sun i.leap zone) (listed_marks (sun i))) (map (line_of Moon i.leap zone) (listed_marks (moon i))) [] k (rw length-map h)
      ∙ nth_mapped (line_of Sun i.leap zone) (listed_marks (sun i)) k h

  pub moon_line : (k : ℕ) → k < length (listed_marks (moon i)) → get_or (lines_of i zone) (length (listed_marks (sun i)) + k) [] ≡ line_of Moon i.leap zone (get_or (listed_marks (moon i)) k no_mark)
  moon_line k h =
      ap (λ (n : ℕ). get_or (lines_of i zone) (n + k) []) (sym (length-map (listed_marks (sun i)) (line_of Sun i.leap zone)))
      ∙ get_or-append-add (map (line_of Sun i.leap zone) (listed_marks (sun i))) (map (line_of Moon i.leap zone) (listed_marks (moon i))) k []
      ∙ nth_mapped (line_of Moon i.leap zone) (listed_marks (moon i)) k h
