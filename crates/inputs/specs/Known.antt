-- What is known of inputs once they are accepted, and that it is all: `accepted_exactly_when`. Assumes nothing.
use Rattle.std.specs.Prelude.{◌≡◌, true, false, List, ℤ}
use Rattle.clock.specs.Leap.{leap_lawful}
use Rattle.series.specs.Series.{Series}
use Rattle.series.specs.Acceptance.{Accepted}
use Rattle.marks.specs.Listed.{listed_marks}
use Rattle.inputs.specs.Inputs.{Inputs, sun, moon, any_early}

-- one accepted series whose marks all lie after the first entry of a lawful table
pub record Ready (leap : List ℤ) (s : Series) : Type 0 where
  pub lawful_table : leap_lawful leap ≡ true
  pub is_accepted : Accepted s
  pub none_early : any_early leap (listed_marks s) ≡ false

pub record Known (i : Inputs) : Type 0 where
  pub sun_ready : Ready i.leap (sun i)
  pub moon_ready : Ready i.leap (moon i)
