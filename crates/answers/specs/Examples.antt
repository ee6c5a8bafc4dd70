-- The record of answers and refusals, the numbers of refusals, and the room of a sui's months on both sides of what they take, each a computed fact, and all of
-- them checked at once. Assumes nothing.
use Rattle.std.specs.Prelude.{Bool, true, false, not, List, [], ◌∷◌, ℕ, ◌^◌, ◌-◌, T, ℤ, pos, negsuc, replicate}
use Rattle.whole.specs.Evaluated.{same, all, same_words}
use Rattle.refusals.specs.Verdict.{Verdict, answered, refused, accepted}
use Rattle.refusals.specs.Evaluated.{is_accepted, is_refused}
use Rattle.refusals.specs.Lent.{written_into}
use Rattle.dates.specs.declared.Date.{Date}
use Rattle.series.specs.declared.Body.{Body}
use Rattle.series.specs.declared.Body.TheVariants.{Sun, Moon}
use Rattle.served.specs.declared.Side.TheVariants.{Near, Long}
use Rattle.months.specs.declared.Sui.{Sui}
use Rattle.built.specs.Build.{words_of}
use Rattle.answers.specs.Record.{number_of, record_of, no_numbers, date_numbers, day_numbers, milli_numbers, shown_numbers, value_numbers, served_numbers, count_numbers, file_numbers, rebuilt_numbers, body_of}
use Rattle.answers.specs.Months.{sui_words, sui_into, sui_numbers}
use Rattle.answers.specs.Fits.{in_table}

-- ---- how the examples are written
-- nine words
abbrev nine : ℤ → ℤ → ℤ → ℤ → ℤ → ℤ → ℤ → ℤ → ℤ → List ℤ
nine a b c d e f g h i = a ∷ b ∷ c ∷ d ∷ e ∷ f ∷ g ∷ h ∷ i ∷ []

abbrev zero9 : ℤ → ℤ → ℤ → List ℤ
zero9 a b c = nine a b c (pos 0) (pos 0) (pos 0) (pos 0) (pos 0) (pos 0)

abbrev date : Date
date = record { year = pos 2024; month = pos 3; day = pos 21 }

-- refused at the last segment that a Moon series can have
abbrev slow : Verdict ℕ
slow = refused 4 15999

-- a sui of so many months, alike, and a place or none behind them
abbrev sui_of : ℕ → Sui
sui_of n = record { count = n; months = replicate 13 (record { handle = pos 64022; first = negsuc 22; length = pos 30 }) }

abbrev is_moon : Body → Bool
is_moon Sun = false
is_moon Moon = true

unfoldable examples : List Bool
unfolding sui_into words_of
examples =
    -- an answer: 0, 0, its numbers, zeros
    same_words (record_of (answered date) date_numbers) (nine (pos 0) (pos 0) (pos 2024) (pos 3) (pos 21) (pos 0) (pos 0) (pos 0) (pos 0))
    ∷ same (number_of (answered date)) (pos 0)
    ∷ same_words (record_of (answered (record { 0 = negsuc 149999 })) day_numbers) (zero9 (pos 0) (pos 0) (negsuc 149999))
    ∷ same_words (record_of (answered (negsuc 0)) value_numbers) (zero9 (pos 0) (pos 0) (negsuc 0))
    ∷ same_words (record_of (answered 0) count_numbers) (zero9 (pos 0) (pos 0) (pos 0))
    ∷ same_words (record_of (answered (record { entries = 64; suis = 128; months = 1664 })) file_numbers) (nine (pos 0) (pos 0) (pos 64) (pos 128) (pos 1664) (pos 0) (pos 0) (pos 0) (pos 0))
    -- of a rebuild the bytes come first, then the years
    ∷ same_words (record_of (answered (record { bytes = 16140; years = 128 })) rebuilt_numbers) (nine (pos 0) (pos 0) (pos 16140) (pos 128) (pos 0) (pos 0) (pos 0) (pos 0) (pos 0))
    ∷ same_words (record_of (answered (record { bytes = 133; years = 0 })) rebuilt_numbers) (zero9 (pos 0) (pos 0) (pos 133))
    ∷ same_words (record_of (refused 13 0) rebuilt_numbers) (zero9 (pos 13) (pos 0) (pos 0))
    -- a judge's answer has no numbers
    ∷ same_words (record_of accepted no_numbers) (zero9 (pos 0) (pos 0) (pos 0))
    -- a shown time fills the record
    ∷ same_words (record_of (answered (record { date = date; hour = 23; minute = 59; second = 58; millisecond = 816 })) shown_numbers) (nine (pos 0) (pos 0) (pos 2024) (pos 3) (pos 21) (pos 23) (pos 59) (pos 58) (pos 816))
    -- the largest numbers of a word
    ∷ same_words (record_of (answered (record { 0 = pos (2 ^ 63 - 1) })) milli_numbers) (zero9 (pos 0) (pos 0) (pos 9223372036854775807))
    ∷ same_words (record_of (answered (negsuc (2 ^ 63 - 1))) value_numbers) (zero9 (pos 0) (pos 0) (negsuc 9223372036854775807))
    -- a refusal: its number, its segment, zeros
    ∷ same_words (record_of slow count_numbers) (zero9 (pos 4) (pos 15999) (pos 0))
    ∷ same (number_of slow) (pos 4)
    ∷ same_words (record_of (refused 6 0) shown_numbers) (zero9 (pos 6) (pos 0) (pos 0))
    -- of two series: 0 for near, 1 for long, and the segment
    ∷ same_words (record_of (answered (record { side = Near; segment = 0 })) served_numbers) (zero9 (pos 0) (pos 0) (pos 0))
    ∷ same_words (record_of (answered (record { side = Near; segment = 1999 })) served_numbers) (nine (pos 0) (pos 0) (pos 0) (pos 1999) (pos 0) (pos 0) (pos 0) (pos 0) (pos 0))
    ∷ same_words (record_of (answered (record { side = Long; segment = 15999 })) served_numbers) (nine (pos 0) (pos 0) (pos 1) (pos 15999) (pos 0) (pos 0) (pos 0) (pos 0) (pos 0))
    ∷ same_words (record_of (refused 18 0) served_numbers) (zero9 (pos 18) (pos 0) (pos 0))
    -- the numbers of the table: 1 to 18, but for 11, 14, 16 and 17
    ∷ not (in_table 0)
    ∷ in_table 1
    ∷ in_table 10
    ∷ not (in_table 11)
    ∷ in_table 12
    ∷ in_table 13
    ∷ not (in_table 14)
    ∷ in_table 15
    ∷ not (in_table 16)
    ∷ not (in_table 17)
    ∷ in_table 18
    ∷ not (in_table 19)
    -- 12 months take 36 words, 13 take 39
    ∷ is_accepted (sui_into (answered (sui_of 12)) 36)
    ∷ is_refused (sui_into (answered (sui_of 12)) 35) 12
    ∷ is_accepted (sui_into (answered (sui_of 13)) 39)
    ∷ is_refused (sui_into (answered (sui_of 13)) 38) 12
    -- what was refused stays refused, with no room and with much
    ∷ is_refused (sui_into (refused 9 0) 0) 9
    ∷ is_refused (sui_into (refused 9 0) 39) 9
    ∷ same_words (record_of (sui_into (answered (sui_of 13)) 39) sui_numbers) (zero9 (pos 0) (pos 0) (pos 13))
    -- three words a month, and what stood behind them; nothing where there is no room
    ∷ same_words (written_into (sui_into (answered (sui_of 1)) 4) sui_words (pos 1 ∷ pos 2 ∷ pos 3 ∷ pos 4 ∷ [])) (pos 64022 ∷ negsuc 22 ∷ pos 30 ∷ pos 4 ∷ [])
    ∷ same_words (written_into (sui_into (answered (sui_of 1)) 2) sui_words (pos 1 ∷ pos 2 ∷ [])) (pos 1 ∷ pos 2 ∷ [])
    -- the flag
    ∷ is_moon (body_of true)
    ∷ not (is_moon (body_of false))
    ∷ []

examples_hold : T (all examples)
unfolding examples sui_into words_of
examples_hold = tt
