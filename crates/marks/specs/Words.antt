-- Listed marks as the words of a lent slice: two to a mark, its index and its second. Assumes nothing: this is a definition.
use Rattle.std.specs.Prelude.{List, [], ◌∷◌, ℤ}
use Rattle.marks.specs.Marks.{Mark}

unfoldable pub mark_words : List Mark → List ℤ
mark_words [] = []
mark_words (m ∷ l) = m.index ∷ m.second ∷ mark_words l
