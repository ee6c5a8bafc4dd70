-- Worked contents and files, on both sides of every bound of the layout, each a computed fact, and all of them checked at once. Handles and days are written out as
-- numbers, not taken from the definitions. Assumes nothing.
use Rattle.std.specs.Prelude.{Bool, not, List, [], ◌∷◌, ◌++◌, T, eqb, ℤ, pos, negsuc, ◌+ℤ◌, length, take, set}
use Rattle.whole.specs.Floor.{floor_mod}
use Rattle.whole.specs.Below.{every}
use Rattle.whole.specs.Evaluated.{all, same_numbers}
use Rattle.refusals.specs.Evaluated.{is_accepted, is_refused}
use Rattle.dates.specs.Answers.{has_date}
use Rattle.clock.specs.Leap.{first_entry, next_entry, good_entry, whole_pairs, leap_lawful}
use Rattle.months.specs.Handles.{number_at, leap_mark, handle, handle_at}
use Rattle.content.specs.Content.{Content, content, months_before, follows_year, good_sui, leaps_before, good_handle, good_start, good_days, good_month, good_months, good_sui_months, whole_suis, lawful}
use Rattle.almanac.specs.Fields.{times, numbers_in, bytes_for}
use Rattle.almanac.specs.Layout.{bytes_of, counts_of, content_at, content_of, file_of}
use Rattle.almanac.specs.Answers.{checked_file, content_read, read_file, bytes_to_write, written_file}

-- ---- how the examples are written
-- months one after another from a first day: handle and length of each
abbrev months : ℤ → List ℤ → List ℤ
months first [] = []
months first (h ∷ []) = []
months first (h ∷ n ∷ more) = h ∷ first ∷ n ∷ months (first +ℤ n) more

-- handles and lengths of the months after the first, and after the second, of a sui without leap month whose handles begin at 32Y: numbers 12, 1, 2, .. 10
abbrev after_eleven : ℤ → List ℤ
after_eleven y = (y +ℤ pos 24) ∷ pos 29 ∷ (y +ℤ pos 2) ∷ pos 30 ∷ (y +ℤ pos 4) ∷ pos 29 ∷ (y +ℤ pos 6) ∷ pos 30 ∷ (y +ℤ pos 8) ∷ pos 29 ∷ (y +ℤ pos 10) ∷ pos 30 ∷ (y +ℤ pos 12) ∷ pos 29 ∷ (y +ℤ pos 14) ∷ pos 30 ∷ (y +ℤ pos 16) ∷ pos 29 ∷ (y +ℤ pos 18) ∷ pos 30 ∷ []

-- its twelve months, the last one of any length: 354 days with 29
abbrev twelve : ℤ → ℤ → List ℤ
twelve y last = (y +ℤ pos 22) ∷ pos 30 ∷ after_eleven y ++ ((y +ℤ pos 20) ∷ last ∷ [])

-- thirteen, with a leap month 11
abbrev leap_eleven : ℤ → List ℤ
leap_eleven y = (y +ℤ pos 22) ∷ pos 30 ∷ (y +ℤ pos 23) ∷ pos 29 ∷ after_eleven y ++ ((y +ℤ pos 20) ∷ pos 29 ∷ [])

-- a leap table of one entry
abbrev table : List ℤ
table = pos 0 ∷ pos 10 ∷ []

-- one sui: 64,032 is 32 · 2001
abbrev one : ℤ → ℤ → List ℤ → Content
one year count ms = content table (year ∷ count ∷ []) ms

abbrev plain : Content
plain = one (pos 2001) (pos 12) (months (pos 11000) (twelve (pos 64032) (pos 29)))

-- two suis, the second from a given day on
abbrev two : ℤ → ℤ → ℤ → Content
two year handles first = content table (pos 2001 ∷ pos 12 ∷ year ∷ pos 12 ∷ []) (months (pos 11000) (twelve (pos 64032) (pos 29)) ++ months first (twelve handles (pos 29)))

unfoldable pub examples : List Bool
unfolding floor_mod every has_date first_entry next_entry good_entry whole_pairs leap_lawful number_at leap_mark handle handle_at months_before follows_year good_sui leaps_before good_handle good_start good_days good_month good_months good_sui_months whole_suis lawful times numbers_in bytes_for bytes_of counts_of content_at content_of file_of checked_file content_read read_file bytes_to_write written_file
examples =
    -- one leap entry and one sui of 12 months take 133 bytes: counts 1, 1, 12 before day 0, offset 10; year 2001 (7 · 256 + 209), 12 months; handle 64,054
    -- (250 · 256 + 54), day 11,000 (42 · 256 + 248), length 30
    lawful plain
    ∷ eqb (length (bytes_of plain)) 133
    ∷ same_numbers (take 34 (bytes_of plain)) (1 ∷ 0 ∷ 0 ∷ 0 ∷ 0 ∷ 0 ∷ 0 ∷ 0 ∷ 10 ∷ 0 ∷ 0 ∷ 0 ∷ 1 ∷ 0 ∷ 0 ∷ 0 ∷ 209 ∷ 7 ∷ 0 ∷ 0 ∷ 12 ∷ 12 ∷ 0 ∷ 0 ∷ 0 ∷ 54 ∷ 250 ∷ 0 ∷ 0 ∷ 248 ∷ 42 ∷ 0 ∷ 0 ∷ 30 ∷ [])
    -- years 1700 to 2500
    ∷ not (lawful (one (pos 1699) (pos 12) (months (pos 11000) (twelve (pos 54368) (pos 29)))))
    ∷ lawful (one (pos 1700) (pos 12) (months (pos 11000) (twelve (pos 54400) (pos 29))))
    ∷ lawful (one (pos 2500) (pos 12) (months (pos 11000) (twelve (pos 80000) (pos 29))))
    ∷ not (lawful (one (pos 2501) (pos 12) (months (pos 11000) (twelve (pos 80032) (pos 29)))))
    -- 1 to 128 suis
    ∷ not (lawful (content table [] []))
    ∷ whole_suis 256
    ∷ not (whole_suis 258)
    ∷ not (whole_suis 257)
    -- years rise by one, and their days go on without a gap
    ∷ lawful (two (pos 2002) (pos 64064) (pos 11354))
    ∷ not (lawful (two (pos 2001) (pos 64032) (pos 11354)))
    ∷ not (lawful (two (pos 2003) (pos 64096) (pos 11354)))
    ∷ not (lawful (two (pos 2002) (pos 64064) (pos 11355)))
    ∷ not (lawful (two (pos 2002) (pos 64064) (pos 11353)))
    -- 12 months and no leap, or 13 and one leap, never first
    ∷ lawful (one (pos 2001) (pos 13) (months (pos 11000) (leap_eleven (pos 64032))))
    -- (first with the number 11, with the number before it, and as a month of the sui before)
    ∷ not (lawful (one (pos 2001) (pos 13) (months (pos 11000) (pos 64055 ∷ pos 29 ∷ twelve (pos 64032) (pos 29)))))
    ∷ not (lawful (one (pos 2001) (pos 13) (months (pos 11000) (pos 64053 ∷ pos 29 ∷ twelve (pos 64032) (pos 29)))))
    ∷ not (lawful (one (pos 2001) (pos 13) (months (pos 11000) (pos 64021 ∷ pos 29 ∷ twelve (pos 64032) (pos 29)))))
    -- (two leap months, 11 and 12, in a sui of 13)
    ∷ not (lawful (one (pos 2001) (pos 13) (months (pos 11000) (pos 64054 ∷ pos 30 ∷ pos 64055 ∷ pos 29 ∷ pos 64056 ∷ pos 30 ∷ pos 64057 ∷ pos 29 ∷ pos 64034 ∷ pos 30 ∷ pos 64036 ∷ pos 29 ∷ pos 64038 ∷ pos 30 ∷ pos 64040 ∷ pos 29 ∷ pos 64042 ∷ pos 30 ∷ pos 64044 ∷ pos 29 ∷ pos 64046 ∷ pos 30 ∷ pos 64048 ∷ pos 29 ∷ pos 64050 ∷ pos 30 ∷ []))))
    ∷ not (lawful (one (pos 2001) (pos 12) (months (pos 11000) ((pos 64054) ∷ pos 29 ∷ (pos 64055) ∷ pos 30 ∷ after_eleven (pos 64032)))))
    ∷ not (lawful (one (pos 2001) (pos 13) (months (pos 11000) (twelve (pos 64032) (pos 29) ++ (pos 64054 ∷ pos 29 ∷ [])))))
    ∷ not (lawful (one (pos 2001) (pos 11) (months (pos 11000) ((pos 64054) ∷ pos 30 ∷ after_eleven (pos 64032)))))
    ∷ not (lawful (one (pos 2001) (pos 14) (months (pos 11000) (leap_eleven (pos 64032) ++ (pos 64053 ∷ pos 29 ∷ [])))))
    -- a leap month takes the number before it: 11, not 12; its handle is that of its sui
    ∷ not (lawful (one (pos 2001) (pos 13) (months (pos 11000) ((pos 64054) ∷ pos 30 ∷ (pos 64057) ∷ pos 29 ∷ after_eleven (pos 64032) ++ (pos 64052 ∷ pos 29 ∷ [])))))
    ∷ not (lawful (one (pos 2001) (pos 12) (months (pos 11000) (twelve (pos 64064) (pos 29)))))
    -- as many months as the suis have
    ∷ not (lawful (one (pos 2001) (pos 12) (months (pos 11000) (leap_eleven (pos 64032)))))
    ∷ not (lawful (one (pos 2001) (pos 13) (months (pos 11000) (twelve (pos 64032) (pos 29)))))
    -- lengths 29 or 30
    ∷ lawful (one (pos 2001) (pos 12) (months (pos 11000) (twelve (pos 64032) (pos 30))))
    ∷ not (lawful (one (pos 2001) (pos 12) (months (pos 11000) (twelve (pos 64032) (pos 28)))))
    ∷ not (lawful (one (pos 2001) (pos 12) (months (pos 11000) (twelve (pos 64032) (pos 31)))))
    -- every day has a date: -150,000 to 200,000
    ∷ lawful (one (pos 2001) (pos 12) (months (negsuc 149999) (twelve (pos 64032) (pos 29))))
    ∷ not (lawful (one (pos 2001) (pos 12) (months (negsuc 150000) (twelve (pos 64032) (pos 29)))))
    ∷ lawful (one (pos 2001) (pos 12) (months (pos 199647) (twelve (pos 64032) (pos 29))))
    ∷ not (lawful (one (pos 2001) (pos 12) (months (pos 199648) (twelve (pos 64032) (pos 29)))))
    -- a bad leap table is 13 here
    ∷ is_refused (written_file (content (pos 0 ∷ pos 1001 ∷ []) plain.suis plain.months) 133) 13
    -- the reader: a byte too few, one too many, no file; counts that no file of so few bytes has
    ∷ is_accepted (checked_file (bytes_of plain))
    ∷ is_refused (checked_file (take 132 (bytes_of plain))) 13
    ∷ is_refused (checked_file (bytes_of plain ++ (0 ∷ []))) 13
    ∷ is_refused (checked_file []) 13
    ∷ is_refused (checked_file (255 ∷ 255 ∷ 255 ∷ 255 ∷ 0 ∷ 0 ∷ 0 ∷ 0 ∷ 0 ∷ 0 ∷ 0 ∷ 0 ∷ [])) 13
    ∷ is_refused (checked_file (0 ∷ 0 ∷ 0 ∷ 0 ∷ 0 ∷ 0 ∷ 0 ∷ 0 ∷ 0 ∷ 0 ∷ 0 ∷ 0 ∷ [])) 13
    -- one changed byte: the first month's length, 29 for 30
    ∷ is_refused (checked_file (set (bytes_of plain) 33 29)) 13
    -- 13 before 12; then 12 for each lent list that is a word short
    ∷ is_refused (read_file [] 0 0 0) 13
    ∷ is_accepted (read_file (bytes_of plain) 2 2 36)
    ∷ is_refused (read_file (bytes_of plain) 1 2 36) 12
    ∷ is_refused (read_file (bytes_of plain) 2 1 36) 12
    ∷ is_refused (read_file (bytes_of plain) 2 2 35) 12
    -- the writer: 13 before 12, then 12 for a byte short
    ∷ is_refused (written_file (content table [] []) 0) 13
    ∷ is_refused (written_file plain 132) 12
    ∷ is_accepted (written_file plain 133)
    ∷ []

pub examples_hold : T (all examples)
unfolding examples
examples_hold = tt
