-- What an accepted zone, table and second are known to be. Assumes nothing.
use Rattle.std.specs.Prelude.{◌≡◌, true, false, not, List, [], ◌∷◌, ℤ, pos, negsuc}
use Rattle.std.proofs.Common.{arith}
use Rattle.std.proofs.lemmas.Bool.{not-false}
use Rattle.whole.specs.Ranges.{Within}
use Rattle.whole.specs.Solver.{⇑, ⇓, ring}
use Rattle.whole.specs.Tests.{in_range_says}
use Rattle.refusals.specs.Verdict.{accepted, ◌before◌, refuse_when, before_accepted, refuse_when_accepted}
use Rattle.times.specs.declared.Second.{Second}
use Rattle.clock.specs.Leap.{leap_lawful, holds}
use Rattle.clock.specs.Clock.{is_zone, convertible, tai, early, Readable}
use Rattle.clock.specs.Answers.{zone_judged, leap_judged, clock_judged}

-- every zone is within 1,000 minutes
pub zone_is_small : (zone : ℤ) → is_zone zone ≡ true → Within 1000 zone
unfolding is_zone
zone_is_small zone e =
    let r = in_range_says (negsuc 719) (pos 840) zone e in
    let ρ = zone ∷ [] in
    record { within = ⇑ ρ (search ring) (omega (arith, ⇓ ρ r.0 (search ring), ⇓ ρ r.1 (search ring))) }

pub zone_known : (zone : ℤ) → zone_judged zone ≡ accepted → Within 1000 zone
unfolding zone_judged
zone_known zone e = zone_is_small zone (not-false (is_zone zone) (refuse_when_accepted (not (is_zone zone)) 15 e))

pub lawful_known : (w : List ℤ) → leap_judged w ≡ accepted → leap_lawful w ≡ true
unfolding leap_judged
lawful_known w e = not-false (leap_lawful w) (refuse_when_accepted (not (leap_lawful w)) 1 e)

-- all of it
pub readable : (w : List ℤ) (s : Second) (zone : ℤ) → clock_judged w s zone ≡ accepted → Readable w s zone
unfolding clock_judged
readable w s zone e =
    let late = refuse_when (early w s) 7 in
    let converted = refuse_when (not (convertible s)) 6 in
    let z = before_accepted (zone_judged zone) (leap_judged w before converted before late) e in
    let a = before_accepted (leap_judged w) (converted before late) z.1 in
    let b = before_accepted converted late a.1 in
    record {
      lawful_table = lawful_known w a.0;
      in_range = not-false (convertible s) (refuse_when_accepted (not (convertible s)) 6 b.0);
      not_early = refuse_when_accepted (early w s) 7 b.1;
      zone_small = zone_known zone z.0;
    }

-- what is not early has a first entry that holds, and the other way round
pub first_holds : (w : List ℤ) (s : Second) → early w s ≡ false → holds w (tai s) 0 ≡ true
unfolding early
first_holds w s e = not-false (holds w (tai s) 0) e

pub holds_first : (w : List ℤ) (s : Second) → holds w (tai s) 0 ≡ true → early w s ≡ false
unfolding early
holds_first w s e = rw e
