-- What the walk from sui to sui holds: the days of turns ahead of a place, and where the first sui begins. Assumes nothing: these are definitions.
use Rattle.std.specs.Prelude.{◌≡◌, Bool, cond, not, ◌&&◌, ◌||◌, List, [], ◌++◌, ℕ, zero, suc, ◌+◌, ◌-◌, ◌*◌, ◌≤◌, ◌<◌, eqb, leb, ltb, ℤ, pos, ◌-ℤ◌, length, get_or, take, drop}
use Rattle.std.specs.Int.Signed.{lt_z}
use Rattle.whole.specs.Tabulated.{tabulate}
use Rattle.refusals.specs.Verdict.{Verdict, answered, refused, refuse_when, ◌before◌}
use Rattle.series.specs.Series.{Series}
use Rattle.inputs.specs.Inputs.{Inputs, sun, moon}
use Rattle.inputs.specs.Known.{Known}
use Rattle.months.specs.Limits.{year_in_range}
use Rattle.turns.specs.Listed.{turn_index_of, turn_day, turns_by, turns_of}
use Rattle.turns.specs.declared.inner.TurnList.{TurnList}
use Rattle.turns.specs.Searched.{Searched}
use Rattle.sui.specs.theory.Found.{zhongqi_from}
use Rattle.sui.specs.theory.Solstices.{eve}
use Rattle.suis.specs.declared.inner.Places.{Places}

-- the days of consecutive turns from a place on; where there are fewer than so many, they are all that is left
pub record Ahead (leap : List ℤ) (s : Series) (zone : ℤ) (from few : ℕ) (days : List ℤ) : Type 0 where
  pub are_days : days ≡ tabulate (λ k. turn_day leap s zone (from + k)) (length days)
  pub inside : from + length days ≤ turns_of s
  pub enough : length days < few → from + length days ≡ turns_of s

-- the zhongqi days of m suis from a place on, one behind the other: thirteen each, from its first solstice to its second
unfoldable pub zhongqi_of : List ℤ → Series → ℤ → ℕ → ℕ → List ℤ
zhongqi_of leap s zone place zero = []
zhongqi_of leap s zone place (suc m) = zhongqi_of leap s zone place m ++ zhongqi_from leap s zone (turn_index_of s (place + m))

-- what finding a sui asks: accepted inputs, the turns of both, the place of the year's first solstice, the days ahead of it and of month 11's new moon, and its
-- zhongqi days where both solstices are listed
pub record YearAhead (i : Inputs) (zone : ℤ) (suns moons : TurnList) (year : ℤ) (place : ℕ) (solstices newmoons zhongqi : List ℤ) : Type 0 where
  pub is_known : Known i
  pub suns_searched : Searched i.leap (sun i) zone suns
  pub moons_searched : Searched i.leap (moon i) zone moons
  pub is_place : place ≡ turns_by i.leap (sun i) zone (eve (year -ℤ pos 1))
  pub solstices_ahead : Ahead i.leap (sun i) zone place 3 solstices
  pub some_moons : 0 < turns_by i.leap (moon i) zone (turn_day i.leap (sun i) zone place)
  pub moons_ahead : Ahead i.leap (moon i) zone (turns_by i.leap (moon i) zone (turn_day i.leap (sun i) zone place) - 1) 15 newmoons
  pub thirteen : length zhongqi ≡ 13
  pub are_zhongqi : suc place < turns_of (sun i) → zhongqi ≡ zhongqi_from i.leap (sun i) zone (turn_index_of (sun i) place)

-- the same in the lists of a walk from sui to sui: its solstices from place j on, its new moons from place `from` on, and the zhongqi days of sui j
pub record YearIn (i : Inputs) (zone : ℤ) (suns moons : TurnList) (year : ℤ) (place j from : ℕ) (solstices newmoons zhongqi : List ℤ) : Type 0 where
  pub solstices_reach : j ≤ length solstices
  pub moons_reach : from ≤ length newmoons
  pub zhongqi_reach : 13 * j + 13 ≤ length zhongqi
  pub ahead : YearAhead i zone suns moons year place (drop j solstices) (drop from newmoons) (take 13 (drop (13 * j) zhongqi))

-- how many of so many there are from a place on
unfoldable pub fewer : ℕ → ℕ → ℕ → ℕ
fewer listed from most = cond (ltb (listed - from) most) (listed - from) most

-- day j is not after `day`, and no further one is
unfoldable pub one_more : List ℤ → ℕ → ℤ → Bool
one_more days j day = ltb j (length days) && (not (lt_z day (get_or days j (pos 0))) && (leb (length days) (j + 1) || lt_z day (get_or days (j + 1) (pos 0))))

-- a sui of more than thirteen months: 8 where no new moon is listed behind the second solstice, else 9
unfoldable pub crowded : {A : Type 0} → ℕ → ℕ → Verdict A
crowded listed by = cond (leb listed by) (refused 8 0) (refused 9 0)

-- ---- where the first sui begins: its first solstice's place, and that of month 11's new moon
module _ (leap : List ℤ) (sun moon : Series) (zone year : ℤ) where
  abbrev pub solstices_before : ℕ
  solstices_before = turns_by leap sun zone (eve (year -ℤ pos 1))

  abbrev pub new_moons_by : ℕ
  new_moons_by = turns_by leap moon zone (turn_day leap sun zone solstices_before)

  unfoldable pub begun : Verdict Places
  begun =
      refuse_when (not (year_in_range year)) 8
      before refuse_when (leb (turns_of sun) solstices_before) 8
      before refuse_when (eqb new_moons_by 0) 8
      before answered (record { solstice = solstices_before; newmoon = new_moons_by - 1 })
