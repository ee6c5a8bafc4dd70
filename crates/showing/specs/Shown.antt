-- An almanac as text for people: a header, and a line for each month in the order of the file, which is sui after sui. The year of a sui, a month's number and its
-- leap mark are those of its handle, 32Y + 2 x number + mark. Assumes nothing: these are definitions.
use Rattle.std.specs.Prelude.{Bool, cond, List, [], ◌∷◌, ◌++◌, ℕ, zero, suc, ◌/◌, ◌%◌, eqb, ltb, ℤ, nat_abs}
use Rattle.text.specs.Text.{digit, two, four, date}
use Rattle.dates.specs.declared.Date.{Date}
use Rattle.dates.specs.Calendar.{date_for}
use Rattle.months.specs.declared.Month.{Month}
use Rattle.content.specs.Content.{Content, month_at, month_count}

-- " sui  month  leap  handle  first day   days"
abbrev pub header : List ℕ
header =
    (32 ∷ 115 ∷ 117 ∷ 105 ∷ [])
    ++ (32 ∷ 32 ∷ 109 ∷ 111 ∷ 110 ∷ 116 ∷ 104 ∷ [])
    ++ (32 ∷ 32 ∷ 108 ∷ 101 ∷ 97 ∷ 112 ∷ [])
    ++ (32 ∷ 32 ∷ 104 ∷ 97 ∷ 110 ∷ 100 ∷ 108 ∷ 101 ∷ [])
    ++ (32 ∷ 32 ∷ 102 ∷ 105 ∷ 114 ∷ 115 ∷ 116 ∷ 32 ∷ 100 ∷ 97 ∷ 121 ∷ 32 ∷ [])
    ++ (32 ∷ 32 ∷ 100 ∷ 97 ∷ 121 ∷ 115 ∷ [])
    ++ 10 ∷ []

-- ---- what a month's handle says
abbrev pub sui_of : Month → ℕ
sui_of m = nat_abs m.handle / 32

abbrev pub number_of : Month → ℕ
number_of m = nat_abs m.handle % 32 / 2

abbrev pub is_leap : Month → Bool
is_leap m = eqb (nat_abs m.handle % 2) 1

-- ---- the columns
-- a number below 100 in two places, with a space for a zero in front
abbrev pub right : ℕ → List ℕ
right n = cond (ltb n 10) 32 (digit n 10) ∷ digit n 1 ∷ []

abbrev pub five : ℕ → List ℕ
five n = digit n 10000 ∷ four n

-- the word `leap`, or as many spaces
abbrev pub leap_word : Bool → List ℕ
leap_word leap = cond leap (108 ∷ 101 ∷ 97 ∷ 112 ∷ []) (32 ∷ 32 ∷ 32 ∷ 32 ∷ [])

abbrev pub date_text : Date → List ℕ
date_text d = date (nat_abs d.year) (nat_abs d.month) (nat_abs d.day)

-- each column stands under its word in the header, and ends where the word ends (the date begins where its words begin)
abbrev pub columns : ℕ → ℕ → Bool → ℕ → List ℕ → ℕ → List ℕ
columns sui number leap handle first days =
    four sui
    ++ (32 ∷ 32 ∷ 32 ∷ 32 ∷ 32 ∷ right number)
    ++ (32 ∷ 32 ∷ leap_word leap)
    ++ (32 ∷ 32 ∷ 32 ∷ five handle)
    ++ (32 ∷ 32 ∷ first)
    ++ (32 ∷ 32 ∷ 32 ∷ 32 ∷ two days)
    ++ 10 ∷ []

-- ---- the line of a month, and the text of an almanac
unfoldable pub line : Month → List ℕ
line m = columns (sui_of m) (number_of m) (is_leap m) (nat_abs m.handle) (date_text (date_for m.first)) (nat_abs m.length)

-- the lines of the first n months
unfoldable pub lines : List ℤ → ℕ → List ℕ
lines months zero = []
lines months (suc n) = lines months n ++ line (month_at months n)

abbrev pub text : List ℤ → ℕ → List ℕ
text months n = header ++ lines months n

unfoldable pub text_of : Content → List ℕ
text_of c = text c.months (month_count c)
