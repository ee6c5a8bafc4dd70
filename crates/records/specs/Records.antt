-- A sui's months stored into a lent list of records: its own refusal, then 12 where the list has fewer places than there are records. Assumes nothing: these are
-- definitions.
use Rattle.std.specs.Prelude.{List, ℕ, ltb, length, take}
use Rattle.refusals.specs.Verdict.{Verdict, answered, refused, refuse_when, ◌before◌, ◌then◌}
use Rattle.months.specs.declared.Month.{Month}
use Rattle.months.specs.declared.Sui.{Sui}

-- the records of a sui
abbrev pub records_of : Sui → List Month
records_of sui = take sui.count sui.months

-- what is stored into so many places
unfoldable pub records_into : Verdict Sui → ℕ → Verdict (List Month)
records_into found room = found then (λ sui. refuse_when (ltb room (length (records_of sui))) 12 before answered (records_of sui))

abbrev pub all_records : List Month → List Month
all_records records = records

-- how many records are stored
abbrev pub records_counted : Verdict (List Month) → Verdict ℕ
records_counted v = v then (λ records. answered (length records))

-- the number that is answered, none after a refusal
abbrev pub count_in : Verdict ℕ → ℕ
count_in (answered n) = n
count_in (refused number segment) = 0
