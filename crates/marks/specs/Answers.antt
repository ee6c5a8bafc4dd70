-- What the two entry points answer, on paper, and what the lent list holds afterwards (document 01, "Marks" and "Refusal numbers"): 2 to 5 for the series, then
-- 12 where the lent room has fewer places than the marks fill. A place is two words, index and second. Assumes nothing: these are definitions.
use Rattle.std.specs.Prelude.{List, ◌≡◌, ℕ, ◌*◌, ◌≤◌, ltb, length, ℤ, pos}
use Rattle.refusals.specs.Verdict.{Verdict, answered, refuse_when, ◌before◌}
use Rattle.series.specs.Series.{Series}
use Rattle.series.specs.Acceptance.{Accepted, series_judged}
use Rattle.marks.specs.declared.ListedMark.{ListedMark}
use Rattle.marks.specs.Marks.{Mark}
use Rattle.marks.specs.Listed.{listed_marks}
use Rattle.marks.specs.Words.{mark_words}

-- the number and values of each case
module _ (s : Series) where
  -- how many marks the series lists
  abbrev pub counted_marks : Verdict ℕ
  counted_marks = series_judged s before answered (length (listed_marks s))

  -- the same, where there is room for them: `room` is in words
  abbrev pub listed_into : ℕ → Verdict ℕ
  listed_into room = series_judged s before refuse_when (ltb room (length (mark_words (listed_marks s)))) 12 before answered (length (listed_marks s))

-- what an answer to a listing tells: the series is accepted, the number is that of the listed marks, and there is room for them
pub record Answered (s : Series) (room n : ℕ) : Type 0 where
  pub is_accepted : Accepted s
  pub is_count : n ≡ length (listed_marks s)
  pub has_room : 2 * n ≤ room

-- What is written into a lent slice (`written_into` of `refusals` says what it holds afterwards): two words a mark, however many.
abbrev pub words_listed : Series → ℕ → List ℤ
words_listed s n = mark_words (listed_marks s)

-- the program's listed mark on paper, and what stands where a list has none
abbrev pub mark_of : ListedMark → Mark
mark_of m = record { index = m.index; second = m.second.0 }

abbrev pub no_mark : Mark
no_mark = record { index = pos 0; second = pos 0 }
