-- Decimal words in text. Words stand apart by white space: space, tab, line feed, vertical tab, form feed, carriage return; `#` starts a comment to the end of the line.
-- A word is an optional - or + and one or more digits, and its number fits 64 bits. The text is read byte by byte: `step` says where a byte leaves the reader, and
-- `ended_by` what a byte ends. Assumes nothing: these are definitions.
use Rattle.std.specs.Prelude.{Bool, true, false, cond, not, ◌&&◌, ◌||◌, ℕ, zero, suc, ◌+◌, ◌-◌, ◌*◌, eqb, leb, ℤ, pos, negsuc}
use Rattle.packing.specs.declared.reading.At.{At}
use Rattle.packing.specs.declared.reading.At.TheVariants.{Between, Comment, Sign, Number, Broken}
use Rattle.packing.specs.declared.reading.State.{State}
use Rattle.packing.specs.declared.reading.Ended.{Ended}
use Rattle.packing.specs.declared.reading.Ended.TheVariants.{Nothing, Word, Bad}

-- ---- bytes
-- 32 is the space; 9 to 13 are tab, line feed, vertical tab, form feed, carriage return; 35 is #
abbrev pub is_white : ℕ → Bool
is_white byte = eqb byte 32 || (leb 9 byte && leb byte 13)

abbrev pub is_word_byte : ℕ → Bool
is_word_byte byte = not (eqb byte 35 || is_white byte)

abbrev pub is_digit : ℕ → Bool
is_digit byte = leb 48 byte && leb byte 57

-- ---- a word, byte by byte: `Sign below` behind its sign, `Number below n` behind digits that make n (below zero or not), `Broken` in what is no word
-- a digit makes ten of each unit and adds its own. Behind more than 922,337,203,685,477,580 no digit fits 64 bits any more
unfoldable pub after_digit : Bool → ℕ → ℕ → At
after_digit below n byte = cond (is_digit byte && leb n 922337203685477580) (Number below (10 * n + (byte - 48))) Broken

-- 45 is -, 43 is +
unfoldable pub beginning : ℕ → At
beginning byte = cond (eqb byte 45) (Sign true) (cond (eqb byte 43) (Sign false) (after_digit false 0 byte))

unfoldable pub in_word : At → ℕ → At
in_word Between byte = beginning byte
in_word Comment byte = Comment
in_word (Sign below) byte = after_digit below 0 byte
in_word (Number below n) byte = after_digit below n byte
in_word Broken byte = Broken

-- ---- one byte on
abbrev pub is_comment : At → Bool
is_comment Between = false
is_comment Comment = true
is_comment (Sign below) = false
is_comment (Number below n) = false
is_comment Broken = false

abbrev pub is_between : At → Bool
is_between Between = true
is_between Comment = false
is_between (Sign below) = false
is_between (Number below n) = false
is_between Broken = false

-- in a comment it stays there; # starts one; white space ends a word; any other byte is a word's
unfoldable pub at_next : At → ℕ → At
at_next at byte = cond (is_comment at || eqb byte 35) Comment (cond (is_white byte) Between (in_word at byte))

-- a word begins
unfoldable pub began_at : At → ℕ → Bool
began_at at byte = is_between at && is_word_byte byte

-- a line feed, 10, begins a line, wherever it stands
unfoldable pub step : State → ℕ → State
step s byte =
    cond (eqb byte 10)
    (record { line = s.line + 1; word = 0; at = Between })
    (record { line = s.line; word = s.word + cond (began_at s.at byte) 1 0; at = at_next s.at byte })

-- ---- what ends
-- n units below zero, or from it on
abbrev pub signed_of : Bool → ℕ → ℤ
signed_of true zero = pos 0
signed_of true (suc n) = negsuc n
signed_of false n = pos n

-- -2^63 to 2^63 - 1
abbrev pub limit : Bool → ℕ
limit below = cond below 9223372036854775808 9223372036854775807

unfoldable pub end_of : At → Ended
end_of Between = Nothing
end_of Comment = Nothing
end_of (Sign below) = Bad
end_of (Number below n) = cond (leb n (limit below)) (Word (signed_of below n)) Bad
end_of Broken = Bad

-- every byte that is no word's ends the word before it
unfoldable pub ended_by : At → ℕ → Ended
ended_by at byte = cond (is_word_byte byte) Nothing (end_of at)
