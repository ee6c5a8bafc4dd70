-- The text of a line (document 01, "The listing program"): S or M, index, date, time to the millisecond; and of a refusal. Assumes nothing.
use Rattle.std.specs.Prelude.{ℕ, ◌+◌, ◌/◌, ◌%◌, ◌≡◌, refl, Bool, true, false, cond, List, [], ◌∷◌, ◌++◌, ltb, length}

-- the digit of n at a unit, as a byte
abbrev pub digit : ℕ → ℕ → ℕ
digit n unit = 48 + n / unit % 10

abbrev pub two : ℕ → List ℕ
two n = digit n 10 ∷ digit n 1 ∷ []

abbrev pub three : ℕ → List ℕ
three n = digit n 100 ∷ two n

abbrev pub four : ℕ → List ℕ
four n = digit n 1000 ∷ three n

-- a number below 100 with no zero in front
abbrev pub plain : ℕ → List ℕ
plain n = cond (ltb n 10) (digit n 1 ∷ []) (two n)

-- 45 is -, 58 is :, 46 is the point, 32 the space, 10 the line feed
abbrev pub date : ℕ → ℕ → ℕ → List ℕ
date year month day = four year ++ 45 ∷ two month ++ 45 ∷ two day

abbrev pub time : ℕ → ℕ → ℕ → ℕ → List ℕ
time hour minute second millisecond = two hour ++ 58 ∷ two minute ++ 58 ∷ two second ++ 46 ∷ three millisecond

-- what stands before the index and with it, and what stands behind it
abbrev pub head : ℕ → ℕ → List ℕ
head letter index = letter ∷ 32 ∷ plain index

abbrev pub stamp : List ℕ → List ℕ → List ℕ
stamp day moment = 32 ∷ day ++ 32 ∷ moment ++ 10 ∷ []

abbrev pub line : ℕ → ℕ → List ℕ → List ℕ → List ℕ
line letter index day moment = head letter index ++ stamp day moment

abbrev pub line_length : ℕ → ℕ
line_length index = cond (ltb index 10) 28 29

pub line_length_lem : (letter index y m d h n s l : ℕ) → length (line letter index (date y m d) (time h n s l)) ≡ line_length index
line_length_lem letter index y m d h n s l = go (ltb index 10)
  where
    go : (b : Bool) → length (letter ∷ 32 ∷ cond b (digit index 1 ∷ []) (two index) ++ stamp (date y m d) (time h n s l)) ≡ cond b 28 29
    go true = refl
    go false = refl

-- R, a space and the number
abbrev pub refusal_line : ℕ → List ℕ
refusal_line number = 82 ∷ 32 ∷ plain number ++ 10 ∷ []
