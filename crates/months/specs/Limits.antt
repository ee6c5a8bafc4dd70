-- The limits of the public entry over Y and days (document 01, "Months of a sui"): Y from 1700 to 2500, at most 3,000 strictly rising new-moon days and
-- exactly 13 strictly rising zhongqi days, all within ±200,000. They do not bind a build's marks. Assumes nothing: these are definitions.
use Rattle.std.specs.Prelude.{Bool, true, not, ◌&&◌, List, [], ◌∷◌, eqb, leb, ℤ, pos, negsuc, length}
use Rattle.std.specs.Int.Signed.{le_z, lt_z}
use Rattle.refusals.specs.Verdict.{Verdict, refuse_when, ◌before◌}
use Rattle.months.specs.declared.Sui.{Sui}
use Rattle.months.specs.Months.{sui_in}

unfoldable pub year_in_range : ℤ → Bool
year_in_range year = le_z (pos 1700) year && le_z year (pos 2500)

unfoldable pub rising : List ℤ → Bool
rising [] = true
rising (d ∷ []) = true
rising (d ∷ e ∷ days) = lt_z d e && rising (e ∷ days)

unfoldable pub day_in_range : ℤ → Bool
day_in_range day = le_z (negsuc 199999) day && le_z day (pos 200000)

unfoldable pub in_range : List ℤ → Bool
in_range [] = true
in_range (d ∷ days) = day_in_range d && in_range days

unfoldable pub days_kept : List ℤ → Bool
days_kept days = rising days && in_range days

unfoldable pub lists_kept : ℤ → List ℤ → List ℤ → Bool
lists_kept year moons zhongqi = year_in_range year && (leb (length moons) 3000 && (days_kept moons && (eqb (length zhongqi) 13 && days_kept zhongqi)))

-- 8 where they are not kept, and then the month rule
unfoldable pub months_of : ℤ → List ℤ → List ℤ → Verdict Sui
months_of year moons zhongqi = refuse_when (not (lists_kept year moons zhongqi)) 8 before sui_in year moons zhongqi
