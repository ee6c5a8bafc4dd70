-- The rebuild over given builds and given days, on both sides of its bounds and in the order of its refusals, each a computed fact, and all of them checked at once.
-- Assumes nothing.
use Rattle.std.specs.Prelude.{Bool, false, cond, not, ◌&&◌, List, [], ◌∷◌, ◌++◌, ℕ, ◌+◌, T, eqb, ℤ, pos, negsuc, ◌+ℤ◌, length, set, take}
use Rattle.whole.specs.Below.{every}
use Rattle.whole.specs.Counted.{count_of}
use Rattle.whole.specs.Evaluated.{all, same_numbers, same_words}
use Rattle.whole.specs.Floor.{floor_mod}
use Rattle.whole.specs.Found.{first_from, first_below}
use Rattle.whole.specs.Tests.{is_exactly}
use Rattle.refusals.specs.Verdict.{Verdict, answered, refused}
use Rattle.refusals.specs.Evaluated.{is_accepted, is_refused, is_refused_at}
use Rattle.refusals.specs.Lent.{written_into}
use Rattle.dates.specs.Answers.{has_date}
use Rattle.clock.specs.Leap.{first_entry, next_entry, good_entry, whole_pairs, leap_lawful}
use Rattle.clock.specs.Clock.{is_zone}
use Rattle.clock.specs.Answers.{zone_judged}
use Rattle.inputs.specs.Inputs.{Inputs, inputs}
use Rattle.months.specs.declared.Sui.{Sui}
use Rattle.months.specs.declared.SuiDays.{SuiDays}
use Rattle.months.specs.Handles.{number_at, leap_mark, handle, handle_at, month_of}
use Rattle.months.specs.Months.{month_length, is_within, zhongqi_in, zhongqi_of, without, first_without, leap_month, month_at, numbered, good_length, bad_month, first_bad_month, lengths_judged, sui_of}
use Rattle.content.specs.Content.{content, months_before, follows_year, good_sui, leaps_before, good_handle, good_start, good_days, good_month, good_months, good_sui_months, whole_suis, lawful}
use Rattle.almanac.specs.Fields.{times, numbers_in, bytes_for}
use Rattle.almanac.specs.Layout.{end_at, bytes_of, counts_of, content_at, content_of, file_of}
use Rattle.built.specs.Build.{months_in, words_of}
use Rattle.rebuilt.specs.declared.Rebuilt.{Rebuilt}
use Rattle.rebuilt.specs.declared.Years.{Years}
use Rattle.rebuilt.specs.Rebuild.{given_by, days_words, same_days, is_kept, kept_by, NewFile, new_file_by, rebuilt_by, rebuilt, most_bytes, counted, new_bytes, kept_years}
use Rattle.rebuilt.specs.Theorems.{taken}

-- ---- how the examples are written
-- a lawful file (`almanac` has the rules): months one after another from a first day, handle and length of each
abbrev months : ℤ → List ℤ → List ℤ
months first [] = []
months first (h ∷ []) = []
months first (h ∷ n ∷ more) = h ∷ first ∷ n ∷ months (first +ℤ n) more

-- the twelve months of a sui without leap month, whose handles begin at 32Y; the last one of any length: 354 days with 29
abbrev twelve : ℤ → ℤ → List ℤ
twelve y last = (y +ℤ pos 22) ∷ pos 30 ∷ (y +ℤ pos 24) ∷ pos 29 ∷ (y +ℤ pos 2) ∷ pos 30 ∷ (y +ℤ pos 4) ∷ pos 29 ∷ (y +ℤ pos 6) ∷ pos 30 ∷ (y +ℤ pos 8) ∷ pos 29 ∷ (y +ℤ pos 10) ∷ pos 30 ∷ (y +ℤ pos 12) ∷ pos 29 ∷ (y +ℤ pos 14) ∷ pos 30 ∷ (y +ℤ pos 16) ∷ pos 29 ∷ (y +ℤ pos 18) ∷ pos 30 ∷ (y +ℤ pos 20) ∷ last ∷ []

-- 64,032 is 32 · 2001: one sui, and two
abbrev one : ℤ → List ℕ
one last = bytes_of (content (pos 0 ∷ pos 10 ∷ []) (pos 2001 ∷ pos 12 ∷ []) (months (pos 11000) (twelve (pos 64032) last)))

abbrev two : List ℕ
two = bytes_of (content (pos 0 ∷ pos 10 ∷ []) (pos 2001 ∷ pos 12 ∷ pos 2002 ∷ pos 12 ∷ []) (months (pos 11000) (twelve (pos 64032) (pos 29) ++ twelve (pos 64064) (pos 29))))

-- a build that gives these bytes for these years, and 8 for all others
abbrev gives : List ℕ → ℤ → ℤ → ℤ → ℤ → Verdict (List ℕ)
gives bytes year n first count = cond (is_exactly year first && is_exactly n count) (answered bytes) (refused 8 0)

-- and one that refuses, whatever it is asked for
abbrev refuses : ℕ → ℤ → ℤ → Verdict (List ℕ)
refuses number first count = refused number 0

abbrev is_years : Verdict Years → ℤ → ℕ → Bool
is_years (answered y) first count = is_exactly first y.first && eqb count y.count
is_years (refused number segment) first count = false

-- document 01's list: thirteen months, with a leap month 9 from day 325 on
abbrev moons : List ℤ
moons = pos 0 ∷ pos 30 ∷ pos 59 ∷ pos 89 ∷ pos 118 ∷ pos 148 ∷ pos 177 ∷ pos 207 ∷ pos 236 ∷ pos 266 ∷ pos 295 ∷ pos 325 ∷ pos 354 ∷ pos 384 ∷ []

abbrev zhongqi : List ℤ
zhongqi = pos 20 ∷ pos 50 ∷ pos 81 ∷ pos 111 ∷ pos 142 ∷ pos 172 ∷ pos 203 ∷ pos 233 ∷ pos 264 ∷ pos 294 ∷ pos 324 ∷ pos 355 ∷ pos 385 ∷ []

abbrev days : ℕ → List ℤ → List ℤ → SuiDays
days n moons zhongqi = record { months = n; moons = moons; zhongqi = zhongqi }

abbrev thirteen : SuiDays
thirteen = days 13 moons zhongqi

-- a sui of twelve months: its thirteenth new-moon day is the next month 11's, and behind it stands nothing
abbrev of_twelve : ℤ → SuiDays
of_twelve last = days 12 (take 12 moons ++ (last ∷ pos 0 ∷ [])) (pos 2 ∷ pos 30 ∷ pos 58 ∷ pos 88 ∷ pos 119 ∷ pos 149 ∷ pos 180 ∷ pos 211 ∷ pos 242 ∷ pos 273 ∷ pos 303 ∷ pos 333 ∷ pos 363 ∷ [])

-- found under the old inputs as a, under the new ones as b
abbrev keeps : SuiDays → SuiDays → Bool
keeps a b = is_kept (answered a) (answered b)

-- the month records that days make in 2000
abbrev records : SuiDays → List ℤ
records d = go (sui_of (pos 2000) d)
  where
    go : Verdict Sui → List ℤ
    go (answered sui) = words_of (months_in sui)
    go (refused number segment) = []

-- all are kept but 2002
abbrev all_but2002 : ℤ → Bool
all_but2002 year = not (is_exactly (pos 2002) year)

abbrev none : ℤ → Bool
none year = false

abbrev is_new : Verdict NewFile → List ℕ → List ℤ → Bool
is_new (answered n) bytes years = same_numbers n.bytes bytes && same_words n.years years
is_new (refused number segment) bytes years = false

abbrev is_counted : Verdict Rebuilt → ℕ → ℕ → Bool
is_counted (answered r) bytes years = eqb r.bytes bytes && eqb r.years years
is_counted (refused number segment) bytes years = false

-- some bytes, and the years 2001 to 2003
abbrev file : List ℕ
file = 7 ∷ 8 ∷ 9 ∷ []

-- inputs of no words
abbrev empty : Inputs
empty = inputs [] (pos 0) [] (pos 0) []

abbrev given : Verdict Years
given = answered (record { first = pos 2001; count = 3 })

unfoldable pub examples : List Bool
unfolding every count_of floor_mod first_from first_below has_date first_entry next_entry good_entry whole_pairs leap_lawful number_at leap_mark handle handle_at month_of month_length is_within zhongqi_in zhongqi_of without first_without leap_month month_at numbered good_length bad_month first_bad_month lengths_judged sui_of months_before follows_year good_sui leaps_before good_handle good_start good_days good_month good_months good_sui_months whole_suis lawful times numbers_in bytes_for bytes_of counts_of content_at content_of file_of words_of given_by days_words same_days kept_by new_file_by rebuilt_by zone_judged is_zone taken
examples =
    -- the old file: what the build gives for the years that stand in it
    is_years (given_by (gives (one (pos 29)) (pos 2001) (pos 1)) (one (pos 29))) (pos 2001) 1
    ∷ is_years (given_by (gives two (pos 2001) (pos 2)) two) (pos 2001) 2
    -- a build that gives these bytes for other years alone
    ∷ is_refused (given_by (gives (one (pos 29)) (pos 2000) (pos 1)) (one (pos 29))) 13
    ∷ is_refused (given_by (gives two (pos 2001) (pos 1)) two) 13
    -- a lawful file that the build does not give: another last month, another offset, the first of its two suis
    ∷ is_accepted (file_of (one (pos 30)))
    ∷ is_refused (given_by (gives (one (pos 29)) (pos 2001) (pos 1)) (one (pos 30))) 13
    ∷ is_accepted (file_of (set (one (pos 29)) 8 11))
    ∷ is_refused (given_by (gives (one (pos 29)) (pos 2001) (pos 1)) (set (one (pos 29)) 8 11)) 13
    ∷ is_refused (given_by (gives two (pos 2001) (pos 1)) (one (pos 29))) 13
    -- a byte more than the build gives, a byte less; and a build that gives a byte more, a byte less than the file has
    ∷ is_refused (given_by (gives (one (pos 29)) (pos 2001) (pos 1)) (one (pos 29) ++ (0 ∷ []))) 13
    ∷ is_refused (given_by (gives (one (pos 29)) (pos 2001) (pos 1)) (take 132 (one (pos 29)))) 13
    ∷ is_refused (given_by (gives (one (pos 29) ++ (0 ∷ [])) (pos 2001) (pos 1)) (one (pos 29))) 13
    ∷ is_refused (given_by (gives (take 132 (one (pos 29))) (pos 2001) (pos 1)) (one (pos 29))) 13
    -- no file, though the build gives it
    ∷ is_refused (given_by (λ first count. answered []) []) 13
    ∷ is_refused (given_by (λ first count. answered (set (one (pos 29)) 33 29)) (set (one (pos 29)) 33 29)) 13
    -- old inputs that are refused, in any way
    ∷ is_refused (given_by (refuses 1) (one (pos 29))) 13
    ∷ is_refused (given_by (refuses 12) (one (pos 29))) 13
    -- as many bytes as any file has: 64 leap entries, 128 suis of 13 months
    ∷ eqb (end_at 64 128 1664) most_bytes
    -- a sui is kept whose days are the same
    ∷ keeps thirteen thirteen
    ∷ keeps (of_twelve (pos 354)) (of_twelve (pos 354))
    -- one new-moon day moved: that of month 11, one between, the next month 11's, in a sui of thirteen months and of twelve
    ∷ not (keeps thirteen (days 13 (set moons 0 (pos 1)) zhongqi))
    ∷ not (keeps thirteen (days 13 (set moons 6 (pos 178)) zhongqi))
    ∷ not (keeps thirteen (days 13 (set moons 13 (pos 383)) zhongqi))
    ∷ not (keeps (of_twelve (pos 354)) (of_twelve (pos 355)))
    -- one zhongqi day moved: the first, one between, the thirteenth
    ∷ not (keeps thirteen (days 13 moons (set zhongqi 0 (pos 21))))
    ∷ not (keeps thirteen (days 13 moons (set zhongqi 1 (pos 49))))
    ∷ not (keeps thirteen (days 13 moons (set zhongqi 12 (pos 384))))
    -- (the one between moved inside its month: the records are the same, and yet the sui is not kept; out of its month they are others)
    ∷ eqb (length (records thirteen)) 39
    ∷ same_words (records (days 13 moons (set zhongqi 1 (pos 49)))) (records thirteen)
    ∷ not (same_words (records (days 13 moons (set zhongqi 10 (pos 325)))) (records thirteen))
    -- another number of months, and the same words
    ∷ not (keeps thirteen (days 12 moons zhongqi))
    -- a sui that is refused under the old inputs, under the new ones, under both alike
    ∷ not (is_kept (refused 9 0) (answered thirteen))
    ∷ not (is_kept (answered thirteen) (refused 9 0))
    ∷ not (is_kept (refused 9 0) (refused 9 0))
    -- the years of those that are kept, of so many from the first on: the last, the first, one between, none, all
    ∷ same_words (kept_by all_but2002 (pos 2001) 0) []
    ∷ same_words (kept_by all_but2002 (pos 2001) 1) (pos 2001 ∷ [])
    ∷ same_words (kept_by all_but2002 (pos 2001) 2) (pos 2001 ∷ [])
    ∷ same_words (kept_by all_but2002 (pos 2001) 3) (pos 2001 ∷ pos 2003 ∷ [])
    ∷ same_words (kept_by all_but2002 (pos 2002) 3) (pos 2003 ∷ pos 2004 ∷ [])
    ∷ same_words (kept_by none (pos 2001) 3) []
    ∷ same_words (kept_by all_but2002 (pos 2003) 3) (pos 2003 ∷ pos 2004 ∷ pos 2005 ∷ [])
    -- places for the years exactly enough, more than enough, one too few; none listed and no place
    ∷ is_new (new_file_by (answered file) (pos 2001 ∷ pos 2003 ∷ []) 2) file (pos 2001 ∷ pos 2003 ∷ [])
    ∷ is_new (new_file_by (answered file) (pos 2001 ∷ pos 2003 ∷ []) 3) file (pos 2001 ∷ pos 2003 ∷ [])
    ∷ is_refused (new_file_by (answered file) (pos 2001 ∷ pos 2003 ∷ []) 1) 12
    ∷ is_new (new_file_by (answered file) [] 0) file []
    ∷ is_refused (new_file_by (answered file) (pos 2001 ∷ []) 0) 12
    -- the new file is built for the old file's years, and its years are those of them that are kept
    ∷ is_new (rebuilt_by given (gives file (pos 2001) (pos 3)) all_but2002 2) file (pos 2001 ∷ pos 2003 ∷ [])
    ∷ is_refused (rebuilt_by given (gives file (pos 2001) (pos 3)) all_but2002 1) 12
    ∷ is_new (rebuilt_by given (gives file (pos 2001) (pos 3)) none 0) file []
    ∷ is_refused (rebuilt_by given (gives file (pos 2001) (pos 2)) all_but2002 2) 8
    ∷ is_new (rebuilt_by (given_by (gives two (pos 2001) (pos 2)) two) (gives file (pos 2001) (pos 2)) all_but2002 1) file (pos 2001 ∷ [])
    -- 13 before the new inputs' 1 and before 12
    ∷ is_refused (rebuilt_by (given_by (gives (one (pos 29)) (pos 2001) (pos 1)) []) (refuses 1) all_but2002 0) 13
    ∷ is_refused (rebuilt_by (given_by (refuses 7) (one (pos 29))) (gives file (pos 2001) (pos 1)) all_but2002 0) 13
    -- then the fresh build's, with its segment, 12 for its bytes the last of them, before 12 for the years
    ∷ is_refused (rebuilt_by given (refuses 1) all_but2002 0) 1
    ∷ is_refused_at (rebuilt_by given (λ first count. refused 3 7) all_but2002 0) 3 7
    ∷ is_refused (rebuilt_by given (refuses 9) all_but2002 0) 9
    ∷ is_refused (rebuilt_by given (refuses 12) none 0) 12
    -- the months' words: of a sui that is kept the old ones, of the others those that are made, in turn
    ∷ same_words (taken (eqb 1) (λ j. pos j ∷ []) (λ j. pos (100 + j) ∷ pos (200 + j) ∷ []) 3) (pos 100 ∷ pos 200 ∷ pos 1 ∷ pos 102 ∷ pos 202 ∷ [])
    ∷ same_words (taken (eqb 1) (λ j. pos j ∷ []) (λ j. pos (100 + j) ∷ pos (200 + j) ∷ []) 1) (pos 100 ∷ pos 200 ∷ [])
    -- 15 before 13, on both sides of the zones
    ∷ is_refused (rebuilt empty empty (pos 841) [] 0 0) 15
    ∷ is_refused (rebuilt empty empty (pos 840) [] 0 0) 13
    ∷ is_refused (rebuilt empty empty (negsuc 720) [] 0 0) 15
    ∷ is_refused (rebuilt empty empty (negsuc 719) [] 0 0) 13
    -- how many bytes and years are answered; what the lent places hold: those at the front, and behind them what was there; a refusal leaves both
    ∷ is_counted (counted (new_file_by (answered file) (pos 2001 ∷ pos 2003 ∷ []) 2)) 3 2
    ∷ is_refused (counted (new_file_by (answered file) (pos 2001 ∷ pos 2003 ∷ []) 1)) 12
    ∷ same_numbers (written_into (new_file_by (answered file) (pos 2001 ∷ []) 2) new_bytes (0 ∷ 1 ∷ 2 ∷ 3 ∷ [])) (7 ∷ 8 ∷ 9 ∷ 3 ∷ [])
    ∷ same_words (written_into (new_file_by (answered file) (pos 2001 ∷ []) 2) kept_years (pos 5 ∷ pos 6 ∷ [])) (pos 2001 ∷ pos 6 ∷ [])
    ∷ same_numbers (written_into (new_file_by (answered file) (pos 2001 ∷ []) 0) new_bytes (0 ∷ 1 ∷ 2 ∷ 3 ∷ [])) (0 ∷ 1 ∷ 2 ∷ 3 ∷ [])
    ∷ same_words (written_into (new_file_by (refused 12 0) (pos 2001 ∷ []) 2) kept_years (pos 5 ∷ pos 6 ∷ [])) (pos 5 ∷ pos 6 ∷ [])
    ∷ []

pub examples_hold : T (all examples)
unfolding examples
examples_hold = tt
