-- How many words marks take, and the words of two lists in turn. Assumes nothing.
use Rattle.std.specs.Prelude.{◌≡◌, refl, List, [], ◌∷◌, ◌++◌, ◌*◌, length}
use Rattle.std.proofs.Common.{arith}
use Rattle.marks.specs.Marks.{Mark}
use Rattle.marks.specs.Words.{mark_words}

pub words_append : (l k : List Mark) → mark_words l ++ mark_words k ≡ mark_words (l ++ k)
unfolding mark_words
words_append [] k = refl
words_append (m ∷ l) k = rw (words_append l k)

pub words_length : (l : List Mark) → length (mark_words l) ≡ 2 * length l
unfolding mark_words
words_length [] = refl
words_length (m ∷ l) = let e = words_length l in omega arith
