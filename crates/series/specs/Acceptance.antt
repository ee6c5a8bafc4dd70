-- When a series is accepted, and by which number it is refused otherwise (document 01, "Segments" and "Refusal numbers"): 2; then 3 over all segments;
-- then 4 over all; then 5 over all joints. Assumes nothing: these are definitions.
use Rattle.std.specs.Prelude.{◌≡◌, Bool, not, ◌||◌, List, ℕ, ◌*◌, ◌-◌, ◌%◌, ltb, eqb, ℤ, pos, neg_ℤ, ◌-ℤ◌, length}
use Rattle.std.specs.Int.Signed.{lt_z}
use Rattle.refusals.specs.Verdict.{Verdict, answered, accepted, refuse_when, ◌before◌}
use Rattle.refusals.specs.Search.{first_bad}
use Rattle.chebyshev.specs.Polynomials.{S}
use Rattle.chebyshev.specs.Segment.{value, slope, out_of_range}
use Rattle.series.specs.declared.Body.{Body}
use Rattle.series.specs.Bodies.{numbers}
use Rattle.series.specs.Series.{Series, segment, segments, covers, value_at}

-- 2: coefficient count not a multiple of 14, none, too many, or start out of range
abbrev pub judged_shape : Body → ℤ → ℕ → Verdict (Unit {0})
judged_shape body start count =
    refuse_when (not (eqb (count % 14) 0)) 2
    before refuse_when (eqb count 0) 2
    before refuse_when (ltb (14 * (numbers body).most_segments) count) 2
    before refuse_when (lt_z start (neg_ℤ (pos 10000000000))) 2
    before refuse_when (lt_z (pos 10000000000) start) 2

-- 3: |c0| ≤ 10^15, |cn| ≤ 4,000,000,000 (`limit` in chebyshev's Segment)
abbrev pub bad_range : List ℤ → ℕ → Bool
bad_range coefs k = out_of_range (segment coefs k)

-- 4: c1 minus the sum over n ≥ 2 of n²·|cn| is less than 100H
abbrev pub slow : Body → List ℤ → ℕ → Bool
slow body coefs k = lt_z (slope (segment coefs k)) (pos (100 * (numbers body).half_length))

-- 5: from the last second of the segment before to the first of segment k the value rises by less than 200 or more than 100,000
abbrev pub rise : Body → List ℤ → ℕ → ℤ
rise body coefs k = value (segment coefs k) (neg_ℤ (pos S)) -ℤ value (segment coefs (k - 1)) (pos S -ℤ pos (numbers body).step)

abbrev pub bad_rise : ℤ → Bool
bad_rise units = lt_z units (pos 200) || lt_z (pos 100000) units

abbrev pub bad_joint : Body → List ℤ → ℕ → Bool
bad_joint body coefs k = bad_rise (rise body coefs k)

-- each over all segments before the next: 3 of a later segment wins over 4 of an earlier one
abbrev pub judged_segments : Body → List ℤ → Verdict (Unit {0})
judged_segments body coefs =
    first_bad 3 (bad_range coefs) 0 (segments coefs)
    before first_bad 4 (slow body coefs) 0 (segments coefs)
    before first_bad 5 (bad_joint body coefs) 1 (segments coefs - 1)

unfoldable pub series_judged : Series → Verdict (Unit {0})
series_judged s = judged_shape s.body s.start (length s.coefs) before judged_segments s.body s.coefs

abbrev pub Accepted : Series → Type 0
Accepted s = series_judged s ≡ accepted

-- The value at a second: 2 to 5 on the whole series, then 6 outside the span.
unfoldable pub value_of : Series → ℤ → Verdict ℤ
value_of s second =
    series_judged s
    before refuse_when (not (covers s second)) 6
    before answered (value_at s second)
