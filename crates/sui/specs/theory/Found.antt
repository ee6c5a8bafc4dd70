-- The days of a sui as the program finds them: by counting solstices up to three eves it gets the index of the first solstice, from that the thirteen zhongqi, and
-- with their days it counts new moons. That is what the definition says. Assumes nothing.
use Rattle.std.specs.Prelude.{Bool, ◌&&◌, List, ◌+◌, ◌*◌, eqb, ℤ, ◌+ℤ◌, ◌-ℤ◌}
use Rattle.std.proofs.Math.IntN.{pos}
use Rattle.whole.specs.Tabulated.{tabulate}
use Rattle.series.specs.Series.{Series}
use Rattle.inputs.specs.Inputs.{day_of_mark}
use Rattle.turns.specs.Listed.{turns_by}
use Rattle.sui.specs.theory.Solstices.{eve}

module _ (leap : List ℤ) (s : Series) (zone : ℤ) where
  -- the index of the solstice in the year before, where there is one in that year and one in the year
  abbrev pub one_in_each : ℤ → Bool
  one_in_each year = eqb (turns_by leap s zone (eve year)) (turns_by leap s zone (eve (year -ℤ pos 1)) + 1) && eqb (turns_by leap s zone (eve (year +ℤ pos 1))) (turns_by leap s zone (eve (year -ℤ pos 1)) + 1 + 1)

  -- the thirteen zhongqi from an index on
  abbrev pub zhongqi_from : ℤ → List ℤ
  zhongqi_from j = tabulate (λ m. (day_of_mark leap s zone (j +ℤ pos (2 * m))).0) 13
