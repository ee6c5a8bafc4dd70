-- What the entry points of this crate answer, on paper, and what each lent place holds afterwards: 13 for a file, or lists to be written, that break their rules, then 12
-- where lent room has fewer places than the whole answer fills. Assumes nothing: these are definitions.
use Rattle.std.specs.Prelude.{Bool, not, ◌||◌, List, ℕ, ltb, length}
use Rattle.refusals.specs.Verdict.{Verdict, answered, refuse_when, ◌before◌, ◌then◌}
use Rattle.almanac.specs.declared.Counts.{Counts}
use Rattle.content.specs.Content.{Content, entry_count, sui_count, month_count, lawful}
use Rattle.almanac.specs.Layout.{bytes_of, file_of}

-- the three counts of a content
abbrev pub counts_in : Content → Counts
counts_in c = record { entries = entry_count c; suis = sui_count c; months = month_count c }

-- ---- check a file
unfoldable pub checked_file : List ℕ → Verdict Counts
checked_file file = file_of file then (λ c. answered (counts_in c))

-- ---- read a file into lent words
-- 12 where any of the three lent places is too short for its list
abbrev pub too_short : Content → ℕ → ℕ → ℕ → Bool
too_short c leap suis months = ltb leap (length c.leap) || (ltb suis (length c.suis) || ltb months (length c.months))

unfoldable pub content_read : List ℕ → ℕ → ℕ → ℕ → Verdict Content
content_read file leap suis months = file_of file then (λ c. refuse_when (too_short c leap suis months) 12 before answered c)

unfoldable pub read_file : List ℕ → ℕ → ℕ → ℕ → Verdict Counts
read_file file leap suis months = content_read file leap suis months then (λ c. answered (counts_in c))

-- ---- write a content into a lent file
abbrev pub bytes_into : Content → ℕ → Verdict (List ℕ)
bytes_into c room = refuse_when (ltb room (length (bytes_of c))) 12 before answered (bytes_of c)

unfoldable pub bytes_to_write : Content → ℕ → Verdict (List ℕ)
bytes_to_write c room = refuse_when (not (lawful c)) 13 before bytes_into c room

abbrev pub all_bytes : List ℕ → List ℕ
all_bytes bytes = bytes

-- how many bytes are written
abbrev pub bytes_counted : Verdict (List ℕ) → Verdict ℕ
bytes_counted v = v then (λ bytes. answered (length bytes))

unfoldable pub written_file : Content → ℕ → Verdict ℕ
written_file c room = bytes_counted (bytes_to_write c room)
