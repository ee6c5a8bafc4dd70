-- When the old days are of use: the leap tables are the same words, and so are the numbers by which the two walks begin. Assumes nothing: these are definitions.
use Rattle.std.specs.Prelude.{Bool, ◌&&◌, List, ℤ}
use Rattle.whole.specs.Evaluated.{same_words}

-- `old` and `new` are the starts of Sun and Moon, and the indices of the first solstice and the first new moon
unfoldable pub begin_alike : (oldleap leap old new : List ℤ) → Bool
begin_alike oldleap leap old new = same_words oldleap leap && same_words old new
