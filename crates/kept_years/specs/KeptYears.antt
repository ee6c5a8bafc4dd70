-- What a rebuild says of each sui (order 1): a line with its year and whether its month records were kept or made. Assumes nothing: these are definitions.
use Rattle.std.specs.Prelude.{Bool, false, cond, ◌||◌, List, [], ◌∷◌, ◌++◌, ℕ, zero, suc, ℤ, nat_abs}
use Rattle.whole.specs.Tests.{is_exactly}
use Rattle.text.specs.Text.{four}
use Rattle.content.specs.Content.{Content, year_at, sui_count}

-- whether a year stands among others
unfoldable pub is_among : ℤ → List ℤ → Bool
is_among year [] = false
is_among year (y ∷ years) = is_exactly year y || is_among year years

-- the word `kept`, or `made`
abbrev pub word : Bool → List ℕ
word kept = cond kept (107 ∷ 101 ∷ 112 ∷ 116 ∷ []) (109 ∷ 97 ∷ 100 ∷ 101 ∷ [])

-- year, a space, the word and a line feed
unfoldable pub row : ℕ → Bool → List ℕ
row year kept = four year ++ 32 ∷ word kept ++ 10 ∷ []

-- the line of a sui, where these years were kept
unfoldable pub line : ℤ → List ℤ → List ℕ
line year years = row (nat_abs year) (is_among year years)

-- the lines of the first n suis
unfoldable pub lines : List ℤ → List ℤ → ℕ → List ℕ
lines suis years zero = []
lines suis years (suc n) = lines suis years n ++ line (year_at suis n) years

unfoldable pub lines_of : Content → List ℤ → List ℕ
lines_of c years = lines c.suis years (sui_count c)
