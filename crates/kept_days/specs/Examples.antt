-- Which marks a correction may have moved, on both sides of each bound: those behind index 30 and up to index 40, here. Each is a computed fact, and all of them are
-- checked at once. Assumes nothing.
use Rattle.std.specs.Prelude.{Bool, not, List, [], ◌∷◌, T, ℤ, pos, negsuc}
use Rattle.whole.specs.Evaluated.{all}
use Rattle.kept_days.specs.KeptDays.{outside}

-- no mark from the first to the last of two indices is one of them
abbrev stay : ℤ → ℤ → Bool
stay first last = outside (pos 30) (pos 40) first last

unfoldable pub examples : List Bool
unfolding outside
examples =
    -- one mark: 30 and 41 are not among them, 31 and 40 are
    stay (pos 30) (pos 30)
    ∷ not (stay (pos 31) (pos 31))
    ∷ not (stay (pos 40) (pos 40))
    ∷ stay (pos 41) (pos 41)
    -- thirteen zhongqi: the last of them is 30, is 31; the first is 40, is 41; those in between lie on both sides
    ∷ stay (pos 6) (pos 30)
    ∷ not (stay (pos 7) (pos 31))
    ∷ not (stay (pos 40) (pos 64))
    ∷ stay (pos 41) (pos 65)
    ∷ not (stay (pos 24) (pos 48))
    -- none may have moved, where no mark lies behind `low` and up to `high`
    ∷ outside (pos 30) (pos 30) (pos 30) (pos 30)
    ∷ outside (pos 30) (pos 30) (pos 31) (pos 31)
    ∷ not (outside (pos 30) (pos 30) (pos 30) (pos 31))
    -- all may have
    ∷ not (outside (negsuc 5) (pos 100) (negsuc 4) (negsuc 4))
    ∷ outside (negsuc 5) (pos 100) (negsuc 5) (negsuc 5)
    ∷ []

pub examples_hold : T (all examples)
unfolding examples
examples_hold = tt
