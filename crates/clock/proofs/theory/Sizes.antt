-- How large seconds and milliseconds are, and that every converted day has a date. Assumes nothing.
use Rattle.std.specs.Prelude.{◌≡◌, true, ℤ}
use mathlib.Core.List.{List, [], ◌∷◌}
use Rattle.std.proofs.Common.{arith}
use Rattle.std.proofs.Math.IntN.{pos, negsuc}
use Rattle.whole.specs.Parts.{◌⩽◌}
use Rattle.whole.specs.Solver.{⇑, ⇓, ring}
use Rattle.whole.specs.Ranges.{Within, within, bounds}
use Rattle.whole.specs.Floor.{floor_div}
use Rattle.whole.proofs.Floor.{floor_div_ge, floor_div_le}
use Rattle.whole.specs.Tests.{in_range_says, says_in_range}
use Rattle.dates.specs.Answers.{has_date}
use Rattle.times.specs.declared.Second.{Second}
use Rattle.clock.specs.Leap.{leap_lawful, offset, entry_used}
use Rattle.clock.specs.Clock.{convertible, tai, local_milli, reading, day_of_milli, day_in}
use Rattle.clock.proofs.theory.Table.{offset_small}
use Rattle.clock.proofs.theory.Used.{used}
use Rattle.clock.proofs.theory.Inserted.{later, count_is}

second_range : (s : Second) → convertible s ≡ true → (negsuc 9999999999 ⩽ s.0) × (s.0 ⩽ pos 16000000000)
unfolding convertible
second_range s e = in_range_says (negsuc 9999999999) (pos 16000000000) s.0 e

pub second_small : (s : Second) → convertible s ≡ true → Within 16000000000 s.0
second_small s e = let r = second_range s e in let ρ = s.0 ∷ [] in record { within = ⇑ ρ (search ring) (omega (arith, ⇓ ρ r.0 (search ring), ⇓ ρ r.1 (search ring))) }

pub tai_small : (s : Second) → convertible s ≡ true → Within 20000000000000 (tai s)
unfolding tai
tai_small s e = let small = second_small s e in within (search bounds) tt

pub offset_used_small : (w : List ℤ) (t : ℤ) → leap_lawful w ≡ true → Within 2000 (offset w (entry_used w t))
offset_used_small w t l = offset_small w l (entry_used w t) (used w t l).below

-- a second of the conversion range, under an offset and in a zone that are small
module _ (s : Second) (o zone : ℤ) (k : convertible s ≡ true) (small : Within 2000 o) (z : Within 1000 zone) where
  from : negsuc 149999 ⩽ floor_div (local_milli (tai s) o zone).0 86400000
  unfolding tai local_milli
  from =
      let ρ = s.0 ∷ o ∷ zone ∷ [] in
      floor_div_ge {z = (local_milli (tai s) o zone).0} {q = negsuc 149999} 86400000 (omega arith) (⇑ ρ (search ring depth 12) (omega (arith, ⇓ ρ (second_range s k).0 (search ring), ⇓ ρ small.within (search ring), ⇓ ρ z.within (search ring))))

  to : floor_div (local_milli (tai s) o zone).0 86400000 ⩽ pos 200000
  unfolding tai local_milli
  to =
      let ρ = s.0 ∷ o ∷ zone ∷ [] in
      floor_div_le {z = (local_milli (tai s) o zone).0} {q = pos 200000} 86400000 (omega arith) (⇑ ρ (search ring depth 12) (omega (arith, ⇓ ρ (second_range s k).1 (search ring), ⇓ ρ small.within (search ring), ⇓ ρ z.within (search ring))))

  milli_has_date : has_date (day_of_milli (local_milli (tai s) o zone)).0 ≡ true
  unfolding has_date day_of_milli
  milli_has_date = says_in_range (negsuc 149999) (pos 200000) (floor_div (local_milli (tai s) o zone).0 86400000) from to

pub reading_has_date : (w : List ℤ) (s : Second) (zone : ℤ) → leap_lawful w ≡ true → convertible s ≡ true → Within 1000 zone → has_date (day_in w s zone).0 ≡ true
unfolding day_in
reading_has_date w s zone l k z = rw (count_is w l s zone) (milli_has_date s (offset w (entry_used w (later (tai s)))) zone k (offset_used_small w (later (tai s)) l) z)

pub reading_small : (w : List ℤ) (s : Second) (zone : ℤ) → leap_lawful w ≡ true → convertible s ≡ true → Within 1000 zone → Within 30000000000000 (reading w s zone).milli.0
unfolding reading local_milli
reading_small w s zone l k z =
    let t = tai_small s k in
    let o = offset_used_small w (tai s) l in
    within (search bounds) tt
