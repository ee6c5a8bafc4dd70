-- The solstices of a year and the zhongqi between two of them, by index: how many solstices fall before each first of January tells the one of a year, and the
-- zhongqi from one solstice to the next are every second mark, 13 of them. Assumes nothing.
use Rattle.std.specs.Prelude.{◌-◌, ℤ, ◌-ℤ◌}
use Rattle.std.proofs.Math.IntN.{pos}
use Rattle.dates.specs.Calendar.{new_year}

-- ---- the day before the first of January
abbrev pub eve : ℤ → ℤ
eve year = new_year year -ℤ pos 1
