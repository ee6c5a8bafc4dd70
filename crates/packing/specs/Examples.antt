-- Worked texts on both sides of every bound, each a computed fact, and all of them checked at once. A text is written out as bytes, with the text itself beside it (\n
-- is the line feed, \r the carriage return, \t the tab, \v the vertical tab, \f the form feed). Assumes nothing.
use Rattle.std.specs.Prelude.{Bool, true, false, ◌&&◌, List, [], ◌∷◌, ℕ, T, eqb, ℤ, pos, negsuc, replicate, Result, Ok, Err}
use Rattle.whole.specs.Evaluated.{all, same_numbers, same_words}
use Rattle.packing.specs.declared.PackError.{PackError}
use Rattle.packing.specs.declared.PackError.TheVariants.{BadWord, Room}
use Rattle.packing.specs.Reading.{after_digit, beginning, in_word, at_next, began_at, step, end_of, ended_by}
use Rattle.packing.specs.Packing.{Scanned, numbers, bad, scan, start, bytes_of, packed, held}

-- ---- how the examples are written
-- a text has these words, or its first bad word stands there
abbrev has_words : Scanned → List ℤ → Bool
has_words (numbers zs) expected = same_words zs expected
has_words (bad line word) expected = false

abbrev is_bad_at : Scanned → ℕ → ℕ → Bool
is_bad_at (numbers zs) l w = false
is_bad_at (bad line word) l w = eqb line l && eqb word w

abbrev is_packed : Result ℕ PackError → ℕ → Bool
is_packed (Ok bytes) n = eqb bytes n
is_packed (Err e) n = false

abbrev is_bad : Result ℕ PackError → ℕ → ℕ → Bool
is_bad (Ok bytes) l w = false
is_bad (Err (BadWord at)) l w = eqb at.line l && eqb at.word w
is_bad (Err Room) l w = false

abbrev is_room : Result ℕ PackError → Bool
is_room (Ok bytes) = false
is_room (Err (BadWord at)) = false
is_room (Err Room) = true

unfoldable pub examples : List Bool
unfolding after_digit beginning in_word at_next began_at step end_of ended_by scan bytes_of packed held
examples =
    -- no words: no text, white space, comments with and without a line feed behind them
    -- ""
    has_words (scan start ([])) ([])
    -- " \t\n\v\f\r"
    ∷ has_words (scan start (32 ∷ 9 ∷ 10 ∷ 11 ∷ 12 ∷ 13 ∷ [])) ([])
    -- "# 1 2"
    ∷ has_words (scan start (35 ∷ 32 ∷ 49 ∷ 32 ∷ 50 ∷ [])) ([])
    -- "# 1\n"
    ∷ has_words (scan start (35 ∷ 32 ∷ 49 ∷ 10 ∷ [])) ([])
    -- "#\n#x\n\n"
    ∷ has_words (scan start (35 ∷ 10 ∷ 35 ∷ 120 ∷ 10 ∷ 10 ∷ [])) ([])
    -- words at the end of the text, of a line, of a line that ends in CR LF, before a comment
    -- "7"
    ∷ has_words (scan start (55 ∷ [])) (pos 7 ∷ [])
    -- " 7\n"
    ∷ has_words (scan start (32 ∷ 55 ∷ 10 ∷ [])) (pos 7 ∷ [])
    -- "1\r\n-2\r\n"
    ∷ has_words (scan start (49 ∷ 13 ∷ 10 ∷ 45 ∷ 50 ∷ 13 ∷ 10 ∷ [])) (pos 1 ∷ negsuc 1 ∷ [])
    -- "1#2\n3 # 4"
    ∷ has_words (scan start (49 ∷ 35 ∷ 50 ∷ 10 ∷ 51 ∷ 32 ∷ 35 ∷ 32 ∷ 52 ∷ [])) (pos 1 ∷ pos 3 ∷ [])
    -- "1\t2\v3\f4"
    ∷ has_words (scan start (49 ∷ 9 ∷ 50 ∷ 11 ∷ 51 ∷ 12 ∷ 52 ∷ [])) (pos 1 ∷ pos 2 ∷ pos 3 ∷ pos 4 ∷ [])
    -- signs, zeros in front
    -- "-7 +7 0 -0 +0 007"
    ∷ has_words (scan start (45 ∷ 55 ∷ 32 ∷ 43 ∷ 55 ∷ 32 ∷ 48 ∷ 32 ∷ 45 ∷ 48 ∷ 32 ∷ 43 ∷ 48 ∷ 32 ∷ 48 ∷ 48 ∷ 55 ∷ [])) (negsuc 6 ∷ pos 7 ∷ pos 0 ∷ pos 0 ∷ pos 0 ∷ pos 7 ∷ [])
    -- "0000000000000000000000000000000000000001"
    ∷ has_words (scan start (48 ∷ 48 ∷ 48 ∷ 48 ∷ 48 ∷ 48 ∷ 48 ∷ 48 ∷ 48 ∷ 48 ∷ 48 ∷ 48 ∷ 48 ∷ 48 ∷ 48 ∷ 48 ∷ 48 ∷ 48 ∷ 48 ∷ 48 ∷ 48 ∷ 48 ∷ 48 ∷ 48 ∷ 48 ∷ 48 ∷ 48 ∷ 48 ∷ 48 ∷ 48 ∷ 48 ∷ 48 ∷ 48 ∷ 48 ∷ 48 ∷ 48 ∷ 48 ∷ 48 ∷ 48 ∷ 49 ∷ [])) (pos 1 ∷ [])
    -- both ends of 64 bits, and one more
    -- "9223372036854775807"
    ∷ has_words (scan start (57 ∷ 50 ∷ 50 ∷ 51 ∷ 51 ∷ 55 ∷ 50 ∷ 48 ∷ 51 ∷ 54 ∷ 56 ∷ 53 ∷ 52 ∷ 55 ∷ 55 ∷ 53 ∷ 56 ∷ 48 ∷ 55 ∷ [])) (pos 9223372036854775807 ∷ [])
    -- "9223372036854775808"
    ∷ is_bad_at (scan start (57 ∷ 50 ∷ 50 ∷ 51 ∷ 51 ∷ 55 ∷ 50 ∷ 48 ∷ 51 ∷ 54 ∷ 56 ∷ 53 ∷ 52 ∷ 55 ∷ 55 ∷ 53 ∷ 56 ∷ 48 ∷ 56 ∷ [])) 1 1
    -- "-9223372036854775808"
    ∷ has_words (scan start (45 ∷ 57 ∷ 50 ∷ 50 ∷ 51 ∷ 51 ∷ 55 ∷ 50 ∷ 48 ∷ 51 ∷ 54 ∷ 56 ∷ 53 ∷ 52 ∷ 55 ∷ 55 ∷ 53 ∷ 56 ∷ 48 ∷ 56 ∷ [])) (negsuc 9223372036854775807 ∷ [])
    -- "-9223372036854775809"
    ∷ is_bad_at (scan start (45 ∷ 57 ∷ 50 ∷ 50 ∷ 51 ∷ 51 ∷ 55 ∷ 50 ∷ 48 ∷ 51 ∷ 54 ∷ 56 ∷ 53 ∷ 52 ∷ 55 ∷ 55 ∷ 53 ∷ 56 ∷ 48 ∷ 57 ∷ [])) 1 1
    -- "+9223372036854775808"
    ∷ is_bad_at (scan start (43 ∷ 57 ∷ 50 ∷ 50 ∷ 51 ∷ 51 ∷ 55 ∷ 50 ∷ 48 ∷ 51 ∷ 54 ∷ 56 ∷ 53 ∷ 52 ∷ 55 ∷ 55 ∷ 53 ∷ 56 ∷ 48 ∷ 56 ∷ [])) 1 1
    -- "9223372036854775810"
    ∷ is_bad_at (scan start (57 ∷ 50 ∷ 50 ∷ 51 ∷ 51 ∷ 55 ∷ 50 ∷ 48 ∷ 51 ∷ 54 ∷ 56 ∷ 53 ∷ 52 ∷ 55 ∷ 55 ∷ 53 ∷ 56 ∷ 49 ∷ 48 ∷ [])) 1 1
    -- "-9223372036854775810"
    ∷ is_bad_at (scan start (45 ∷ 57 ∷ 50 ∷ 50 ∷ 51 ∷ 51 ∷ 55 ∷ 50 ∷ 48 ∷ 51 ∷ 54 ∷ 56 ∷ 53 ∷ 52 ∷ 55 ∷ 55 ∷ 53 ∷ 56 ∷ 49 ∷ 48 ∷ [])) 1 1
    -- "92233720368547758070"
    ∷ is_bad_at (scan start (57 ∷ 50 ∷ 50 ∷ 51 ∷ 51 ∷ 55 ∷ 50 ∷ 48 ∷ 51 ∷ 54 ∷ 56 ∷ 53 ∷ 52 ∷ 55 ∷ 55 ∷ 53 ∷ 56 ∷ 48 ∷ 55 ∷ 48 ∷ [])) 1 1
    -- "18446744073709551616"
    ∷ is_bad_at (scan start (49 ∷ 56 ∷ 52 ∷ 52 ∷ 54 ∷ 55 ∷ 52 ∷ 52 ∷ 48 ∷ 55 ∷ 51 ∷ 55 ∷ 48 ∷ 57 ∷ 53 ∷ 53 ∷ 49 ∷ 54 ∷ 49 ∷ 54 ∷ [])) 1 1
    -- "922337203685477580 922337203685477581 -922337203685477581"
    ∷ has_words (scan start (57 ∷ 50 ∷ 50 ∷ 51 ∷ 51 ∷ 55 ∷ 50 ∷ 48 ∷ 51 ∷ 54 ∷ 56 ∷ 53 ∷ 52 ∷ 55 ∷ 55 ∷ 53 ∷ 56 ∷ 48 ∷ 32 ∷ 57 ∷ 50 ∷ 50 ∷ 51 ∷ 51 ∷ 55 ∷ 50 ∷ 48 ∷ 51 ∷ 54 ∷ 56 ∷ 53 ∷ 52 ∷ 55 ∷ 55 ∷ 53 ∷ 56 ∷ 49 ∷ 32 ∷ 45 ∷ 57 ∷ 50 ∷ 50 ∷ 51 ∷ 51 ∷ 55 ∷ 50 ∷ 48 ∷ 51 ∷ 54 ∷ 56 ∷ 53 ∷ 52 ∷ 55 ∷ 55 ∷ 53 ∷ 56 ∷ 49 ∷ [])) (pos 922337203685477580 ∷ pos 922337203685477581 ∷ negsuc 922337203685477580 ∷ [])
    -- no words
    -- "-"
    ∷ is_bad_at (scan start (45 ∷ [])) 1 1
    -- "+"
    ∷ is_bad_at (scan start (43 ∷ [])) 1 1
    -- "--1"
    ∷ is_bad_at (scan start (45 ∷ 45 ∷ 49 ∷ [])) 1 1
    -- "+-1"
    ∷ is_bad_at (scan start (43 ∷ 45 ∷ 49 ∷ [])) 1 1
    -- "12x"
    ∷ is_bad_at (scan start (49 ∷ 50 ∷ 120 ∷ [])) 1 1
    -- "x12"
    ∷ is_bad_at (scan start (120 ∷ 49 ∷ 50 ∷ [])) 1 1
    -- "1-2"
    ∷ is_bad_at (scan start (49 ∷ 45 ∷ 50 ∷ [])) 1 1
    -- "1-"
    ∷ is_bad_at (scan start (49 ∷ 45 ∷ [])) 1 1
    -- "1+"
    ∷ is_bad_at (scan start (49 ∷ 43 ∷ [])) 1 1
    -- "1.5"
    ∷ is_bad_at (scan start (49 ∷ 46 ∷ 53 ∷ [])) 1 1
    -- "0x10"
    ∷ is_bad_at (scan start (48 ∷ 120 ∷ 49 ∷ 48 ∷ [])) 1 1
    -- "1e3"
    ∷ is_bad_at (scan start (49 ∷ 101 ∷ 51 ∷ [])) 1 1
    -- "1,"
    ∷ is_bad_at (scan start (49 ∷ 44 ∷ [])) 1 1
    -- "1_000"
    ∷ is_bad_at (scan start (49 ∷ 95 ∷ 48 ∷ 48 ∷ 48 ∷ [])) 1 1
    -- "/"
    ∷ is_bad_at (scan start (47 ∷ [])) 1 1
    -- "9:"
    ∷ is_bad_at (scan start (57 ∷ 58 ∷ [])) 1 1
    -- "\0"
    ∷ is_bad_at (scan start (0 ∷ [])) 1 1
    -- "1\x85"
    ∷ is_bad_at (scan start (49 ∷ 133 ∷ [])) 1 1
    -- "1\xa0"
    ∷ is_bad_at (scan start (49 ∷ 160 ∷ [])) 1 1
    -- the first that is none, by its line and its place in it
    -- "1 2\n3 x4 5"
    ∷ is_bad_at (scan start (49 ∷ 32 ∷ 50 ∷ 10 ∷ 51 ∷ 32 ∷ 120 ∷ 52 ∷ 32 ∷ 53 ∷ [])) 2 2
    -- "1 x\ny"
    ∷ is_bad_at (scan start (49 ∷ 32 ∷ 120 ∷ 10 ∷ 121 ∷ [])) 1 2
    -- "# x\n\n 5 -"
    ∷ is_bad_at (scan start (35 ∷ 32 ∷ 120 ∷ 10 ∷ 10 ∷ 32 ∷ 53 ∷ 32 ∷ 45 ∷ [])) 3 2
    -- "1\r\n2 3 +\r\n"
    ∷ is_bad_at (scan start (49 ∷ 13 ∷ 10 ∷ 50 ∷ 32 ∷ 51 ∷ 32 ∷ 43 ∷ 13 ∷ 10 ∷ [])) 2 3
    -- "x # 1"
    ∷ is_bad_at (scan start (120 ∷ 32 ∷ 35 ∷ 32 ∷ 49 ∷ [])) 1 1
    -- "1#\n#2\n 3 # 4 x\n- 5"
    ∷ is_bad_at (scan start (49 ∷ 35 ∷ 10 ∷ 35 ∷ 50 ∷ 10 ∷ 32 ∷ 51 ∷ 32 ∷ 35 ∷ 32 ∷ 52 ∷ 32 ∷ 120 ∷ 10 ∷ 45 ∷ 32 ∷ 53 ∷ [])) 4 1
    -- "1 2 3 4 5 6 7 8 9 10 11x"
    ∷ is_bad_at (scan start (49 ∷ 32 ∷ 50 ∷ 32 ∷ 51 ∷ 32 ∷ 52 ∷ 32 ∷ 53 ∷ 32 ∷ 54 ∷ 32 ∷ 55 ∷ 32 ∷ 56 ∷ 32 ∷ 57 ∷ 32 ∷ 49 ∷ 48 ∷ 32 ∷ 49 ∷ 49 ∷ 120 ∷ [])) 1 11
    -- the answer: the words fit, or are a byte short of room; a bad word before that
    ∷ is_packed (packed (49 ∷ 32 ∷ 45 ∷ 50 ∷ []) 16) 16
    ∷ is_packed (packed (49 ∷ 32 ∷ 45 ∷ 50 ∷ []) 17) 16
    ∷ is_room (packed (49 ∷ 32 ∷ 45 ∷ 50 ∷ []) 15)
    ∷ is_bad (packed (49 ∷ 32 ∷ 120 ∷ []) 0) 1 2
    ∷ is_packed (packed [] 0) 0
    -- what the room holds: the words, and what stood behind them; what it held
    ∷ same_numbers (held (49 ∷ 32 ∷ 45 ∷ 50 ∷ []) (replicate 17 9)) (1 ∷ 0 ∷ 0 ∷ 0 ∷ 0 ∷ 0 ∷ 0 ∷ 0 ∷ 254 ∷ 255 ∷ 255 ∷ 255 ∷ 255 ∷ 255 ∷ 255 ∷ 255 ∷ 9 ∷ [])
    ∷ same_numbers (held (45 ∷ 57 ∷ 50 ∷ 50 ∷ 51 ∷ 51 ∷ 55 ∷ 50 ∷ 48 ∷ 51 ∷ 54 ∷ 56 ∷ 53 ∷ 52 ∷ 55 ∷ 55 ∷ 53 ∷ 56 ∷ 48 ∷ 56 ∷ []) (replicate 8 9)) (0 ∷ 0 ∷ 0 ∷ 0 ∷ 0 ∷ 0 ∷ 0 ∷ 128 ∷ [])
    ∷ same_numbers (held (53 ∷ 48 ∷ 54 ∷ 48 ∷ 57 ∷ 55 ∷ 53 ∷ 50 ∷ 50 ∷ 57 ∷ 49 ∷ 52 ∷ 50 ∷ 51 ∷ 48 ∷ 53 ∷ 50 ∷ 56 ∷ []) (replicate 8 9)) (0 ∷ 1 ∷ 2 ∷ 3 ∷ 4 ∷ 5 ∷ 6 ∷ 7 ∷ [])
    ∷ same_numbers (held (49 ∷ 32 ∷ 45 ∷ 50 ∷ []) (replicate 15 9)) (replicate 15 9)
    ∷ same_numbers (held (49 ∷ 32 ∷ 120 ∷ []) (replicate 17 9)) (replicate 17 9)
    ∷ []

pub examples_hold : T (all examples)
unfolding examples
examples_hold = tt
