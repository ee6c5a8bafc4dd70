-- What `list_years` answers, on paper: 13 for bytes that are no lawful file, then 12 where the room has fewer places than all lines. Assumes nothing: these are
-- definitions.
use Rattle.std.specs.Prelude.{List, ℕ, ltb, ℤ, length}
use Rattle.refusals.specs.Verdict.{Verdict, answered, refuse_when, ◌before◌, ◌then◌}
use Rattle.almanac.specs.Layout.{file_of}
use Rattle.kept_years.specs.KeptYears.{lines_of}

-- lines put into so much room
abbrev pub lines_into : List ℕ → ℕ → Verdict (List ℕ)
lines_into bytes room = refuse_when (ltb room (length bytes)) 12 before answered bytes

unfoldable pub lines_listed : List ℕ → List ℤ → ℕ → Verdict (List ℕ)
lines_listed file years room = file_of file then (λ c. lines_into (lines_of c years) room)
