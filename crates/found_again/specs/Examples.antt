-- When the old days are of use, and why the leap tables must be the same: a mark that keeps its second may change its day with them. Each is a computed fact, and all
-- of them are checked at once. Assumes nothing.
use Rattle.std.specs.Prelude.{Bool, not, List, [], ◌∷◌, T, ℤ, pos, negsuc}
use Rattle.whole.specs.Below.{any, last_below}
use Rattle.whole.specs.Evaluated.{all, same}
use Rattle.whole.specs.Floor.{floor_div}
use Rattle.clock.specs.Leap.{holds_from, holds, entry_used, inserted_by, inserted}
use Rattle.clock.specs.Clock.{tai, local_milli, reading, read_off, count_in, day_of_milli, day_in, utc8}
use Rattle.found_again.specs.Begin.{begin_alike}

-- ---- how the examples are written
abbrev table : List ℤ
table = negsuc 364 ∷ pos 32 ∷ []

-- one entry more, and another offset
abbrev longer : List ℤ
longer = negsuc 364 ∷ pos 32 ∷ negsuc 0 ∷ pos 33 ∷ []

abbrev other : List ℤ
other = negsuc 364 ∷ pos 33 ∷ []

abbrev numbers : ℤ → ℤ → ℤ → ℤ → List ℤ
numbers sunstart moonstart solstice newmoon = sunstart ∷ moonstart ∷ solstice ∷ newmoon ∷ []

abbrev begun : List ℤ
begun = numbers (pos 0) (negsuc 99) (pos 18) (pos 4)

-- the day of a second by a table
abbrev day : List ℤ → ℤ → ℤ
day leap second = (day_in leap (record { 0 = second }) utc8).0

unfoldable pub examples : List Bool
unfolding begin_alike holds_from holds last_below entry_used any inserted_by inserted tai local_milli reading read_off count_in day_of_milli day_in floor_div
examples =
    -- the same, and each word another
    begin_alike table table begun begun
    ∷ not (begin_alike table longer begun begun)
    ∷ not (begin_alike longer table begun begun)
    ∷ not (begin_alike table other begun begun)
    ∷ not (begin_alike table table begun (numbers (pos 1) (negsuc 99) (pos 18) (pos 4)))
    ∷ not (begin_alike table table begun (numbers (pos 0) (pos 99) (pos 18) (pos 4)))
    ∷ not (begin_alike table table begun (numbers (pos 0) (negsuc 99) (pos 42) (pos 4)))
    ∷ not (begin_alike table table begun (numbers (pos 0) (negsuc 99) (pos 18) (pos 0)))
    -- second -28,735 lies on day 0 by one table, and on day -1 by the two others
    ∷ same (day table (negsuc 28734)) (pos 0)
    ∷ same (day longer (negsuc 28734)) (negsuc 0)
    ∷ same (day other (negsuc 28734)) (negsuc 0)
    ∷ []

pub examples_hold : T (all examples)
unfolding examples
examples_hold = tt
