-- A segment of a series, replaced: 6 where the series has no such segment; then 2 to 5, as the whole new series is judged; and what the lent coefficients then are.
-- Assumes nothing: these are definitions.
use Rattle.std.specs.Prelude.{List, ℕ, ◌*◌, leb, ℤ}
use Rattle.whole.specs.Lists.{placed}
use Rattle.refusals.specs.Verdict.{Verdict, answered, refused, accepted, refuse_when, ◌before◌, ◌then◌}
use Rattle.series.specs.Series.{Series, series, segments}
use Rattle.series.specs.Acceptance.{series_judged}

-- the coefficients with a part where segment k stood
abbrev pub replaced : List ℤ → ℕ → List ℤ → List ℤ
replaced coefs k part = placed (14 * k) part coefs

-- the new series
abbrev pub series_with : Series → ℕ → List ℤ → Series
series_with s k part = series s.body s.start (replaced s.coefs k part)

-- "writing nothing when the segment does not exist (6) or the new series is refused (2 to 5)": the coefficients that are written
unfoldable pub segment_replaced : Series → ℕ → List ℤ → Verdict (List ℤ)
segment_replaced s k part =
    refuse_when (leb (segments s.coefs) k) 6
    before series_judged (series_with s k part)
    before answered (replaced s.coefs k part)

-- what is returned of it
abbrev pub segment_checked : Series → ℕ → List ℤ → Verdict (Unit {0})
segment_checked s k part = segment_replaced s k part then (λ coefs. accepted)

-- what a lent place holds that an answer replaces whole: the answer, or after a refusal what it held
abbrev pub held_after : {A : Type 0} → Verdict A → A → A
held_after (answered a) held = a
held_after (refused number segment) held = held
