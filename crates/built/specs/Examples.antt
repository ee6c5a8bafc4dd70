-- The file build over given suis, on both sides of its bounds and in the order of its refusals, each a computed fact, and all of them checked at once. The suis are as
-- short as can be, one month each: what a lawful content is, the examples of `almanac` say. Assumes nothing.
use Rattle.std.specs.Prelude.{Bool, false, cond, List, [], ◌∷◌, ℕ, T, ℤ, pos, negsuc, ◌+ℤ◌, ◌*ℤ◌, replicate}
use Rattle.whole.specs.Evaluated.{all, same_numbers}
use Rattle.whole.specs.Tests.{is_exactly}
use Rattle.refusals.specs.Verdict.{Verdict, answered, refused, accepted}
use Rattle.refusals.specs.Evaluated.{is_accepted, is_refused}
use Rattle.months.specs.declared.Sui.{Sui}
use Rattle.months.specs.Handles.{no_month}
use Rattle.almanac.specs.Fields.{times, bytes_for}
use Rattle.almanac.specs.Layout.{bytes_of}
use Rattle.built.specs.Build.{words_of, sui_words, month_words, suis_by, content_by, bytes_by, built_by}

-- ---- how the examples are written
-- a sui of one month, of 30 days from day 1 on; behind it its list is filled up
abbrev one_month : ℤ → Sui
one_month year = record { count = 1; months = record { handle = pos 32 *ℤ year +ℤ pos 22; first = pos 1; length = pos 30 } ∷ replicate 12 no_month }

abbrev each : ℤ → Verdict Sui
each year = answered (one_month year)

-- 2002 has neither 12 nor 13 months, 2003 no solstice
abbrev some : ℤ → Verdict Sui
some year = cond (is_exactly (pos 2002) year) (refused 9 0) (cond (is_exactly (pos 2003) year) (refused 8 0) (each year))

abbrev table : List ℤ
table = pos 0 ∷ pos 10 ∷ []

abbrev is_file : Verdict (List ℕ) → List ℕ → Bool
is_file (answered bytes) file = same_numbers bytes file
is_file (refused number segment) file = false

unfoldable pub examples : List Bool
unfolding times bytes_for bytes_of words_of sui_words month_words suis_by content_by bytes_by built_by
examples =
    -- one leap entry; two suis, each with its year and as many months as it has, no more; their months in turn
    is_file (built_by accepted table each (pos 2000) (pos 2) 48)
    (1 ∷ 0 ∷ 0 ∷ 0 ∷ 0 ∷ 0 ∷ 0 ∷ 0 ∷ 10 ∷ 0 ∷ 0 ∷ 0 ∷ 2 ∷ 0 ∷ 0 ∷ 0 ∷ 208 ∷ 7 ∷ 0 ∷ 0 ∷ 1 ∷ 209 ∷ 7 ∷ 0 ∷ 0 ∷ 1 ∷ 2 ∷ 0 ∷ 0 ∷ 0 ∷ 22 ∷ 250 ∷ 0 ∷ 0 ∷ 1 ∷ 0 ∷ 0 ∷ 0 ∷ 30 ∷ 54 ∷ 250 ∷ 0 ∷ 0 ∷ 1 ∷ 0 ∷ 0 ∷ 0 ∷ 30 ∷ [])
    -- 12 where one byte is missing
    ∷ is_refused (built_by accepted table each (pos 2000) (pos 2) 47) 12
    -- 1 to 128 suis
    ∷ is_refused (built_by accepted table each (pos 2000) (pos 0) 10000) 8
    ∷ is_accepted (built_by accepted table each (pos 2000) (pos 1) 10000)
    ∷ is_accepted (built_by accepted table each (pos 1700) (pos 128) 10000)
    ∷ is_refused (built_by accepted table each (pos 1700) (pos 129) 10000) 8
    ∷ is_refused (built_by accepted table each (pos 2000) (negsuc 0) 10000) 8
    ∷ is_refused (built_by accepted table each (pos 2000) (pos 9223372036854775807) 10000) 8
    -- the inputs before the count, the count before every sui
    ∷ is_refused (built_by (refused 7 0) table some (pos 2002) (pos 0) 0) 7
    ∷ is_refused (built_by accepted table some (pos 2002) (pos 0) 0) 8
    -- each sui in year order: 9 of 2002 before 8 of 2003, and 8 where 2003 is the first
    ∷ is_accepted (built_by accepted table some (pos 2000) (pos 2) 10000)
    ∷ is_refused (built_by accepted table some (pos 2000) (pos 4) 10000) 9
    ∷ is_refused (built_by accepted table some (pos 2003) (pos 1) 10000) 8
    -- every sui before 12
    ∷ is_refused (built_by accepted table some (pos 2000) (pos 3) 0) 9
    ∷ is_refused (built_by accepted table some (pos 2000) (pos 2) 0) 12
    ∷ []

pub examples_hold : T (all examples)
unfolding examples
examples_hold = tt
