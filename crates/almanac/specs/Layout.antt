-- The layout of the file (document 01, "Almanac file"): little-endian sections in this order, each after a 32-bit count: leap entries (signed 32-bit day, 32-bit
-- offset), suis (signed 32-bit year, one byte of months), months (32-bit handle, signed 32-bit first day, one byte length). Nothing follows. A content has
-- bytes, and bytes have at most one content. Assumes nothing: these are definitions.
use Rattle.std.specs.Prelude.{not, List, [], ◌∷◌, ◌++◌, ℕ, ◌+◌, ◌*◌, eqb, ltb, pos, length}
use Rattle.refusals.specs.Verdict.{Verdict, answered, refuse_when, ◌before◌, ◌then◌}
use Rattle.words.specs.Words.{pattern4, bytes4}
use Rattle.almanac.specs.declared.Counts.{Counts}
use Rattle.content.specs.Content.{Content, content, entry_count, sui_count, month_count, lawful}
use Rattle.almanac.specs.Fields.{Field, one_byte, unsigned, signed, times, numbers_in, bytes_for}

abbrev pub entry_fields : List Field
entry_fields = signed ∷ unsigned ∷ []

abbrev pub sui_fields : List Field
sui_fields = signed ∷ one_byte ∷ []

abbrev pub month_fields : List Field
month_fields = unsigned ∷ signed ∷ one_byte ∷ []

-- ---- from a content to its bytes
unfoldable pub bytes_of : Content → List ℕ
bytes_of c =
    bytes4 (pos (entry_count c)) ++ bytes_for (times (entry_count c) entry_fields) c.leap
    ++ (bytes4 (pos (sui_count c)) ++ bytes_for (times (sui_count c) sui_fields) c.suis)
    ++ (bytes4 (pos (month_count c)) ++ bytes_for (times (month_count c) month_fields) c.months)

-- ---- from bytes to their content
-- where the count of suis stands, and that of months: each behind the section before it
abbrev pub suis_at : ℕ → ℕ
suis_at entries = 4 + 8 * entries

abbrev pub months_at : ℕ → ℕ → ℕ
months_at entries suis = suis_at entries + 4 + 5 * suis

-- where a file of these counts ends
abbrev pub end_at : ℕ → ℕ → ℕ → ℕ
end_at entries suis months = months_at entries suis + 4 + 9 * months

-- the counts; 13 where the file ends too soon, or goes on
unfoldable pub counts_of : List ℕ → Verdict Counts
counts_of file =
    let entries = pattern4 file 0 in
    let suis = pattern4 file (suis_at entries) in
    let months = pattern4 file (months_at entries suis) in
    refuse_when (ltb (length file) 4) 13
    before refuse_when (ltb (length file) (suis_at entries + 4)) 13
    before refuse_when (ltb (length file) (months_at entries suis + 4)) 13
    before refuse_when (not (eqb (length file) (end_at entries suis months))) 13
    before answered (record { entries = entries; suis = suis; months = months })

unfoldable pub content_at : List ℕ → Counts → Content
content_at file n =
    content
    (numbers_in (times n.entries entry_fields) file 4)
    (numbers_in (times n.suis sui_fields) file (suis_at n.entries + 4))
    (numbers_in (times n.months month_fields) file (months_at n.entries n.suis + 4))

unfoldable pub content_of : List ℕ → Verdict Content
content_of file = counts_of file then (λ n. answered (content_at file n))

-- ---- a file is one whose content is lawful; 13 otherwise
unfoldable pub file_of : List ℕ → Verdict Content
file_of file = content_of file then (λ c. refuse_when (not (lawful c)) 13 before answered c)
