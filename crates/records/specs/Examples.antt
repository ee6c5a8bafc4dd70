-- A sui of two months in lent lists of one, two and three places, and a refusal, each a computed fact, and all of them checked at once. Assumes nothing.
use Rattle.std.specs.Prelude.{Bool, true, false, ◌&&◌, List, [], ◌∷◌, ℕ, T, eqb, pos}
use Rattle.whole.specs.Evaluated.{same, all}
use Rattle.refusals.specs.Verdict.{Verdict, answered, refused}
use Rattle.refusals.specs.Evaluated.{is_refused}
use Rattle.refusals.specs.Lent.{written_into}
use Rattle.months.specs.declared.Month.{Month}
use Rattle.months.specs.declared.Sui.{Sui}
use Rattle.records.specs.Records.{records_into, all_records, records_counted}

-- the month with this first day
abbrev from : ℕ → Month
from day = record { handle = pos 0; first = pos day; length = pos 30 }

-- two months, and a place behind them
abbrev two : Sui
two = record { count = 2; months = from 10 ∷ from 40 ∷ from 70 ∷ [] }

-- what a list holds: the first days of its months
abbrev same_days : List Month → List ℕ → Bool
same_days [] [] = true
same_days [] (n ∷ ns) = false
same_days (m ∷ ms) [] = false
same_days (m ∷ ms) (n ∷ ns) = same m.first (pos n) && same_days ms ns

abbrev counts : Verdict ℕ → ℕ → Bool
counts (answered n) m = eqb n m
counts (refused number segment) m = false

abbrev held : Verdict Sui → ℕ → List Month → List Month
held found room out = written_into (records_into found room) all_records out

unfoldable examples : List Bool
unfolding records_into
examples =
    -- three places: the third keeps what it held
    counts (records_counted (records_into (answered two) 3)) 2
    ∷ same_days (held (answered two) 3 (from 1 ∷ from 2 ∷ from 3 ∷ [])) (10 ∷ 40 ∷ 3 ∷ [])
    -- two places are enough
    ∷ counts (records_counted (records_into (answered two) 2)) 2
    ∷ same_days (held (answered two) 2 (from 1 ∷ from 2 ∷ [])) (10 ∷ 40 ∷ [])
    -- one place: 12, and it keeps what it held
    ∷ is_refused (records_counted (records_into (answered two) 1)) 12
    ∷ same_days (held (answered two) 1 (from 1 ∷ [])) (1 ∷ [])
    -- what was refused stays refused, with no room and with much
    ∷ is_refused (records_counted (records_into (refused 9 0) 0)) 9
    ∷ same_days (held (refused 9 0) 3 (from 1 ∷ from 2 ∷ from 3 ∷ [])) (1 ∷ 2 ∷ 3 ∷ [])
    ∷ []

examples_hold : T (all examples)
unfolding examples records_into
examples_hold = tt
