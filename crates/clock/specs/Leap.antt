-- The leap table (document 01, "Three counts of time"): its rule, when an entry holds, the entry used, and the seconds that are inserted. A table is lent as
-- words, a UTC day and TAI-UTC in seconds in turn. Assumes nothing: these are definitions.
use Rattle.std.specs.Prelude.{ℕ, zero, suc, ◌+◌, ◌*◌, ◌/◌, ◌%◌, Bool, false, ◌&&◌, List, ℤ, pos, negsuc, ◌+ℤ◌, ◌-ℤ◌, ◌*ℤ◌, length, get_or, eqb, leb}
use Rattle.std.specs.Int.Signed.{le_z, lt_z}
use Rattle.whole.specs.Tests.{in_range, is_exactly}
use Rattle.whole.specs.Below.{every, any, last_below}

-- ---- the words
abbrev pub entries : List ℤ → ℕ
entries leap = length leap / 2

abbrev pub day : List ℤ → ℕ → ℤ
day leap i = get_or leap (2 * i) (pos 0)

abbrev pub offset : List ℤ → ℕ → ℤ
offset leap i = get_or leap (2 * i + 1) (pos 0)

-- ---- the rule
-- a UTC day of a table: -120,000 to 100,000
abbrev pub utc_day : ℤ → Bool
utc_day d = in_range (negsuc 119999) (pos 100000) d

-- the first offset is 0 to 1,000
unfoldable pub first_entry : ℤ → ℤ → Bool
first_entry d o = utc_day d && in_range (pos 0) (pos 1000) o

-- after entry (d, o): days strictly rise, and the offset is one more
unfoldable pub next_entry : ℤ → ℤ → ℤ → ℤ → Bool
next_entry d o d' o' = utc_day d' && (lt_z d d' && is_exactly (o +ℤ pos 1) o')

unfoldable pub good_entry : List ℤ → ℕ → Bool
good_entry leap zero = first_entry (day leap 0) (offset leap 0)
good_entry leap (suc i) = next_entry (day leap i) (offset leap i) (day leap (suc i)) (offset leap (suc i))

-- 1 to 64 entries in whole pairs, by the number of words
unfoldable pub whole_pairs : ℕ → Bool
whole_pairs words = eqb (words % 2) 0 && (leb 2 words && leb words 128)

-- and each of them good
unfoldable pub leap_lawful : List ℤ → Bool
leap_lawful leap = whole_pairs (length leap) && every (good_entry leap) (entries leap)

-- ---- the entry used
-- the TAI millisecond from which entry i holds
unfoldable pub holds_from : List ℤ → ℕ → ℤ
holds_from leap i = pos 1000 *ℤ (pos 86400 *ℤ day leap i +ℤ offset leap i)

unfoldable pub holds : List ℤ → ℤ → ℕ → Bool
holds leap t i = le_z (holds_from leap i) t

-- the last entry that holds by TAI millisecond t; 0 where none does, which 7 shuts out
unfoldable pub entry_used : List ℤ → ℤ → ℕ
entry_used leap t = last_below (holds leap t) (entries leap)

-- ---- inserted seconds
-- TAI millisecond t lies inside the second that entry i inserts, the last one before it holds. The first entry inserts nothing that is known
unfoldable pub inserted_by : List ℤ → ℤ → ℕ → Bool
inserted_by leap t zero = false
inserted_by leap t (suc i) = le_z (holds_from leap (suc i) -ℤ pos 1000) t && lt_z t (holds_from leap (suc i))

-- and inside one that any entry inserts
unfoldable pub inserted : List ℤ → ℤ → Bool
inserted leap t = any (inserted_by leap t) (entries leap)
