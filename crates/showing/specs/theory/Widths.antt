-- Every line has 44 bytes. Assumes nothing.
use Rattle.std.specs.Prelude.{◌≡◌, refl, Bool, true, false, cond, List, [], ◌∷◌, ℕ, zero, suc, ◌+◌, ◌*◌, ℤ, length}
use Rattle.std.proofs.Common.{◌∙◌, arith, length-append}
use Rattle.months.specs.declared.Month.{Month}
use Rattle.content.specs.Content.{month_at}
use Rattle.showing.specs.Shown.{leap_word, is_leap, header, line, lines, text}

-- the word, letter by letter
pub letters : (leap : Bool) → leap_word leap ≡ cond leap 108 32 ∷ cond leap 101 32 ∷ cond leap 97 32 ∷ cond leap 112 32 ∷ []
letters true = refl
letters false = refl

pub line_length_lem : (m : Month) → length (line m) ≡ 44
unfolding line
line_length_lem m = rw (letters (is_leap m))

pub lines_length : (months : List ℤ) (n : ℕ) → length (lines months n) ≡ 44 * n
unfolding lines
lines_length months zero = omega arith
lines_length months (suc n) = length-append (lines months n) (line (month_at months n)) ∙ omega (arith, lines_length months n, line_length_lem (month_at months n))

pub text_length : (months : List ℤ) (n : ℕ) → length (text months n) ≡ 44 + 44 * n
text_length months n = length-append header (lines months n) ∙ omega (arith, lines_length months n)
