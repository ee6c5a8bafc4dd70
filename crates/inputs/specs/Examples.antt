-- The order in which inputs are judged: zone before leap table before Sun before Moon before 7, computed on inputs that break several rules at once; and 7 for any mark, on
-- both sides of the first leap entry. Assumes nothing.
use Rattle.std.specs.Prelude.{Bool, not, List, [], ◌∷◌, ℕ, T, ℤ, pos, negsuc, replicate}
use Rattle.whole.specs.Floor.{floor_div}
use Rattle.whole.specs.Below.{every}
use Rattle.whole.specs.Evaluated.{all}
use Rattle.refusals.specs.Search.{first_bad}
use Rattle.refusals.specs.Evaluated.{is_refused, is_refused_at}
use Rattle.clock.specs.Leap.{leap_lawful, whole_pairs, first_entry, next_entry, good_entry, holds_from, holds}
use Rattle.clock.specs.Clock.{is_zone, tai, early}
use Rattle.clock.specs.Answers.{zone_judged, leap_judged}
use Rattle.chebyshev.specs.Polynomials.{P}
use Rattle.chebyshev.specs.Segment.{sum, value, slope}
use Rattle.series.specs.Acceptance.{series_judged}
use Rattle.marks.specs.Marks.{Mark}
use Rattle.inputs.specs.Inputs.{inputs, any_early, inputs_judged, judged_in}

-- a segment with c1 alone
abbrev one : ℤ → List ℤ
one c1 = pos 0 ∷ c1 ∷ replicate 12 (pos 0)

-- a table that begins in 2273, after every mark of a series that starts at 0: all are early
abbrev late : List ℤ
late = pos 100000 ∷ pos 32 ∷ []

abbrev bad : List ℤ
bad = pos 0 ∷ pos 1001 ∷ []

abbrev begins : List ℤ
begins = pos 0 ∷ pos 32 ∷ []

-- a mark at a second
abbrev at : ℕ → Mark
at second = record { index = pos 0; second = pos second }

unfoldable pub examples : List Bool
unfolding any_early early tai holds_from holds judged_in zone_judged is_zone inputs_judged leap_judged leap_lawful whole_pairs first_entry next_entry good_entry every series_judged first_bad value slope sum P floor_div
examples =
    -- a bad table, a bad coefficient of the Sun, no segment of the Moon
    is_refused (inputs_judged (inputs bad (pos 0) (one (pos 5000000000)) (pos 0) [])) 1
    -- 15 before 1, and before the Sun's 3; zones from -720 to 840
    ∷ is_refused (judged_in (inputs bad (pos 0) (one (pos 5000000000)) (pos 0) []) (pos 841)) 15
    ∷ is_refused (judged_in (inputs bad (pos 0) (one (pos 5000000000)) (pos 0) []) (pos 840)) 1
    ∷ is_refused (judged_in (inputs late (pos 0) (one (pos 5000000000)) (pos 0) []) (negsuc 720)) 15
    ∷ is_refused_at (judged_in (inputs late (pos 0) (one (pos 5000000000)) (pos 0) []) (negsuc 719)) 3 0
    -- the Sun's 3 before the Moon's 2; the Sun's 4 before the Moon's 3
    ∷ is_refused_at (inputs_judged (inputs late (pos 0) (one (pos 5000000000)) (pos 0) [])) 3 0
    ∷ is_refused_at (inputs_judged (inputs late (pos 0) (one (pos 1)) (pos 0) (one (pos 5000000000)))) 4 0
    -- the Moon's 4 before 7
    ∷ is_refused_at (inputs_judged (inputs late (pos 0) (one (pos 552960000)) (pos 0) (one (pos 17279999)))) 4 0
    -- 7 for any mark: the table (0, 32) begins with second 65 (64.184 s of TDB), and the mark before it is the first, the last, or none
    ∷ not (any_early begins (at 65 ∷ at 70 ∷ []))
    ∷ any_early begins (at 64 ∷ at 70 ∷ [])
    ∷ any_early begins (at 70 ∷ at 64 ∷ [])
    ∷ not (any_early begins [])
    ∷ []

pub examples_hold : T (all examples)
unfolding examples
examples_hold = tt
