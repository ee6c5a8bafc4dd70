-- `one_sui::inner::eve` meets its contract. Assumes nothing.
use mathlib.Core.Path.{◌≡◌, ◌∙◌}
use native.Mathlib.Omega.{arith}
use mir.Syntax.{w64}
use mir.Val.{of_z, to_z}
use mir.Facts.{to_z-of_z}
use Rattle.whole.specs.Ranges.{Within, fits_of, back}
use Rattle.dates.specs.Calendar.{new_year}
use Rattle.sui.proofs.theory.Eves.{january_valid, january_number, eve_fits}
use Rattle.one_sui.proofs.inner.eve.Goals as goal
use Rattle.one_sui.proofs.inner.eve.Lts as lts
use Rattle.one_sui.proofs.inner.eve.Reads as reads
use Rattle.one_sui.proofs.inner.eve.Tie as tie

year_small : (start : lts.Start tie.the-claims reads.Pre reads.Post tie.handed_clauses) → Within 1000000000 start.args.year
year_small start = record { within = omega (arith, start.requires.within) }

pub day_number-first-requires : goal.day_number-first-requires
day_number-first-requires c = rw (to_z-of_z c.ranges.year) (record { date_value = january_valid c.args.year; within = year_small c })

-- the first of January
at_first : (c : lts.After-day_number tie.the-claims reads.Pre reads.Post tie.handed_clauses) → to_z w64 (of_z w64 c.day_number-first.result.0) ≡ new_year c.args.year
at_first c =
    to_z-of_z {w = w64} (fits_of c.day_number-first.result.0 (omega arith))
    ∙ (rw (to_z-of_z c.ranges.year) at c.day_number-first.ensures) ∙ january_number c.args.year

pub subtract-requires : goal.subtract-requires
subtract-requires c = rw (at_first c.before.before) (eve_fits c.args.year (year_small c.before.before.before))

pub returns : goal.returns
returns c = back c.subtract.result c.subtract.type_inv ∙ (rw (at_first c.before.before) at c.subtract.ensures)
