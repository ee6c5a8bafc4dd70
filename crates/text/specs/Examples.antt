-- Lines of the worked listing (document 01, "The listing program"), byte by byte, and refusals of one digit and of two. Assumes nothing.
use Rattle.std.specs.Prelude.{Bool, List, [], ◌∷◌, T}
use Rattle.whole.specs.Evaluated.{all, same_numbers}
use Rattle.text.specs.Text.{line, date, time, refusal_line}

unfoldable pub examples : List Bool
examples =
    -- S 1 2000-01-16 22:58:55.816
    same_numbers (line 83 1 (date 2000 1 16) (time 22 58 55 816)) (83 ∷ 32 ∷ 49 ∷ 32 ∷ 50 ∷ 48 ∷ 48 ∷ 48 ∷ 45 ∷ 48 ∷ 49 ∷ 45 ∷ 49 ∷ 54 ∷ 32 ∷ 50 ∷ 50 ∷ 58 ∷ 53 ∷ 56 ∷ 58 ∷ 53 ∷ 53 ∷ 46 ∷ 56 ∷ 49 ∷ 54 ∷ 10 ∷ [])
    -- S 18 1999-12-22 05:03:08.016: two digits of the index, and zeros in front
    ∷ same_numbers (line 83 18 (date 1999 12 22) (time 5 3 8 16)) (83 ∷ 32 ∷ 49 ∷ 56 ∷ 32 ∷ 49 ∷ 57 ∷ 57 ∷ 57 ∷ 45 ∷ 49 ∷ 50 ∷ 45 ∷ 50 ∷ 50 ∷ 32 ∷ 48 ∷ 53 ∷ 58 ∷ 48 ∷ 51 ∷ 58 ∷ 48 ∷ 56 ∷ 46 ∷ 48 ∷ 49 ∷ 54 ∷ 10 ∷ [])
    -- R 7, R 13
    ∷ same_numbers (refusal_line 7) (82 ∷ 32 ∷ 55 ∷ 10 ∷ [])
    ∷ same_numbers (refusal_line 13) (82 ∷ 32 ∷ 49 ∷ 51 ∷ 10 ∷ [])
    ∷ []

pub examples_hold : T (all examples)
unfolding examples
examples_hold = tt
