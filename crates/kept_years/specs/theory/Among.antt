-- A loop that looks for a year among others: one turn, and how it ends; and how long a line is. Assumes nothing.
use Rattle.std.specs.Prelude.{◌≡◌, refl, Bool, true, false, cond, List, [], ◌∷◌, ℕ, zero, suc, ◌+◌, ◌*◌, ◌≤◌, ◌<◌, ℤ, pos, length, get_or, drop}
use Rattle.std.proofs.Common.{◌∙◌, arith, add-one, length-append, drop_of_length-le, drop-cons}
use Rattle.whole.specs.Tests.{is_exactly}
use Rattle.content.specs.Content.{year_at}
use Rattle.kept_years.specs.KeptYears.{is_among, word, row, line, lines}

module _ (year : ℤ) (years : List ℤ) where
  pub among_here : (i : ℕ) → i < length years → is_exactly year (get_or years i (pos 0)) ≡ true → is_among year (drop i years) ≡ true
  unfolding is_among
  among_here i h e = rw (drop-cons years i (pos 0), e)

  pub among_turn : (i : ℕ) → i < length years → is_exactly year (get_or years i (pos 0)) ≡ false → is_among year (drop i years) ≡ is_among year (drop (i + 1) years)
  unfolding is_among
  among_turn i h e = rw (drop-cons years i (pos 0), e, add-one)

  pub among_end : (i : ℕ) → length years ≤ i → is_among year (drop i years) ≡ false
  unfolding is_among
  among_end i h = rw (drop_of_length-le years h)

-- the word, letter by letter
pub letters : (kept : Bool) → word kept ≡ cond kept 107 109 ∷ cond kept 101 97 ∷ cond kept 112 100 ∷ cond kept 116 101 ∷ []
letters true = refl
letters false = refl

-- every line has 10 bytes
pub line_length_lem : (year : ℤ) (years : List ℤ) → length (line year years) ≡ 10
unfolding line row
line_length_lem year years = rw (letters (is_among year years))

pub lines_length : (suis years : List ℤ) (n : ℕ) → length (lines suis years n) ≡ 10 * n
unfolding lines
lines_length suis years zero = omega arith
lines_length suis years (suc n) = length-append (lines suis years n) (line (year_at suis n) years) ∙ omega (arith, lines_length suis years n, line_length_lem (year_at suis n) years)
