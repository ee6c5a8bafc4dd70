-- The almanac file hangs on the zone by the days of marks alone, and does not carry it: where each listed new moon and each listed zhongqi has one day in two zones, both
-- builds give the same bytes, or the same refusal (`same_days_same_file`). Assumes nothing but what a statement says itself.
use Rattle.std.specs.Prelude.{◌≡◌, true, ℕ, ℤ}
use Rattle.std.proofs.Common.{ap₂}
use Rattle.refusals.specs.Verdict.{Verdict}
use Rattle.clock.specs.Clock.{is_zone}
use Rattle.clock.specs.Answers.{zone_judged}
use Rattle.marks.specs.Listed.{listed_marks}
use Rattle.inputs.specs.Inputs.{Inputs, sun, moon, judged_in}
use Rattle.months.specs.declared.Sui.{Sui}
use Rattle.sui.specs.Sui.{is_zhongqi, is_new_moon}
use Rattle.sui.proofs.Zones.{OneDay, same_days_same_sui}
use Rattle.built.specs.Build.{bytes_built, built_by}

-- no two zones are judged differently
judged_alike : (i : Inputs) (zone other : ℤ) → is_zone zone ≡ true → is_zone other ≡ true → judged_in i zone ≡ judged_in i other
unfolding judged_in zone_judged
judged_alike i zone other p q = rw (p, q)

module _ (i : Inputs) (zone other : ℤ) (one : is_zone zone ≡ true) (two : is_zone other ≡ true) where
  pub same_days_same_file : OneDay i.leap zone other is_zhongqi (listed_marks (sun i)) → OneDay i.leap zone other is_new_moon (listed_marks (moon i)) → (first count : ℤ) (room : ℕ) → bytes_built i zone first count room ≡ bytes_built i other first count room
  same_days_same_file zhongqi new-moons first count room =
      ap₂ (λ (judged : Verdict (Unit {0})) (sui : ℤ → Verdict Sui). built_by judged i.leap sui first count room)
      (judged_alike i zone other one two)
      (λ t year. same_days_same_sui i zone other zhongqi new-moons year t)
