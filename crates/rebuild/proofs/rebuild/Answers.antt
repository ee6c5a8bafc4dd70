-- `rebuild::rebuild` meets its contract. In the needs, `start` is the function's entry. Assumes nothing.
use Rattle.std.specs.Prelude.{Result, Ok, Err, ℕ}
use Rattle.std.specs.Result.{is_err}
use mathlib.Core.Path.{◌≡◌, sym, ap, ◌∙◌}
use mathlib.Core.Bool.{true, false}
use native.Mathlib.Omega.{arith}
use lib.ListN.{length}
use mir.Facts.{to_z-of_z}
use Rattle.whole.specs.Ranges.{fits_of}
use Rattle.refusals.specs.Verdict.{Verdict, answered, accepted, refusal, passed_on, ◌then◌, paper}
use Rattle.clock.specs.Clock.{is_zone}
use Rattle.clock.specs.Answers.{zone_judged}
use Rattle.clock.proofs.theory.Judged.{zone_is_small}
use Rattle.inputs.specs.Inputs.{inputs, inputs_judged}
use Rattle.inputs.proofs.Theorems.{known}
use Rattle.almanac.specs.Layout.{file_of}
use Rattle.rebuilt.specs.Rebuild.{rebuilt, years_in}
use Rattle.rebuilt.proofs.Theorems.{no_zone_is_15}
use Rattle.rebuild.specs.theory.Judging.{years_few}
use Rattle.rebuild.specs.theory.Over.{says_refused, same_says}
use Rattle.rebuild.specs.theory.Entry.{not_read, old_not_accepted, old_accepted}
use Rattle.rebuild.proofs.rebuild.Goals as goal
use Rattle.rebuild.proofs.rebuild.Goals.{After-is_zone, In_ok-span, Else-is_err, Else-not-is_zone}
use Rattle.refusals.specs.declared.Refusal.{Refusal}

-- the years of the old file
at_years : (c : In_ok-span) → answered c.in_ok-span.span ≡ (file_of c.args.old.now then λ d. answered (years_in d))
at_years c = sym (ap paper c.in_ok-span.was) ∙ c.years_in.ensures

-- the old inputs, by what their judge returned
old_refused : (judged : Result (Unit {0}) Refusal) {v : Verdict (Unit {0})} → paper judged ≡ v → is_err judged ≡ true → (r : Refusal) × (v ≡ refusal r)
old_refused (Ok a) p e = let z : ◌≡◌ {A = ℕ} 0 1 = cc in absurd (omega arith)
old_refused (Err r) p e = (r, sym p)

old_taken : (judged : Result (Unit {0}) Refusal) {v : Verdict (Unit {0})} → paper judged ≡ v → is_err judged ≡ false → v ≡ accepted
old_taken (Ok a) p e = sym p
old_taken (Err r) p e = let z : ◌≡◌ {A = ℕ} 0 1 = cc in absurd (omega arith)

is_accepted_lem : (c : Else-is_err) → inputs_judged (inputs c.args.oldleap.now c.args.oldsunstart.0 c.args.oldsun.now c.args.oldmoonstart.0 c.args.oldmoon.now) ≡ accepted
is_accepted_lem c = old_taken c.judge.result c.judge.ensures (sym c.is_err.ensures.value ∙ c.if-is_err.false)

-- the zone
zone_told : (c : After-is_zone) → c.is_zone.result ≡ is_zone c.args.zone
zone_told c = c.is_zone.ensures ∙ ap is_zone (to_z-of_z c.ranges.zone)

in_a_zone : (c : Else-not-is_zone) → is_zone c.args.zone ≡ true
in_a_zone c = sym (c.is_zone.ensures ∙ ap is_zone (to_z-of_z c.ranges.zone)) ∙ c.if-not-is_zone.false

in_zone : (c : Else-not-is_zone) → zone_judged c.args.zone ≡ accepted
unfolding zone_judged
in_zone c = rw (in_a_zone c)

pub returns-then-not-is_zone : goal.returns-then-not-is_zone
returns-then-not-is_zone c =
    let a = c.args in
    let all = says_refused (rebuilt (inputs c.args.oldleap.now c.args.oldsunstart.0 c.args.oldsun.now c.args.oldmoonstart.0 c.args.oldmoon.now) (inputs c.args.leap.now c.args.sunstart.0 c.args.sun.now c.args.moonstart.0 c.args.moon.now) a.zone a.old.now (length a.file.now) (length a.years.now)) a.file.now a.years.now
    (no_zone_is_15 (inputs c.args.oldleap.now c.args.oldsunstart.0 c.args.oldsun.now c.args.oldmoonstart.0 c.args.oldmoon.now) (inputs c.args.leap.now c.args.sunstart.0 c.args.sun.now c.args.moonstart.0 c.args.moon.now) a.zone (sym (zone_told (goal.at.returns-then-not-is_zone c).After-is_zone) ∙ c.if-not-is_zone.true) a.old.now (length a.file.now) (length a.years.now)) in
    record {
      result_value = all.0;
      file_after = all.1.0;
      years_after = all.1.1;
    }

pub returns-then-is_err : goal.returns-then-is_err
returns-then-is_err c =
    let a = c.args in
    let all = says_refused (rebuilt (inputs c.args.oldleap.now c.args.oldsunstart.0 c.args.oldsun.now c.args.oldmoonstart.0 c.args.oldmoon.now) (inputs c.args.leap.now c.args.sunstart.0 c.args.sun.now c.args.moonstart.0 c.args.moon.now) a.zone a.old.now (length a.file.now) (length a.years.now)) a.file.now a.years.now
    (old_not_accepted (inputs c.args.oldleap.now c.args.oldsunstart.0 c.args.oldsun.now c.args.oldmoonstart.0 c.args.oldmoon.now) (inputs c.args.leap.now c.args.sunstart.0 c.args.sun.now c.args.moonstart.0 c.args.moon.now) a.zone (in_zone (goal.at.returns-then-is_err c).Else-not-is_zone) a.old.now (length a.file.now) (length a.years.now) (at_years (goal.at.returns-then-is_err c).In_ok-span) (old_refused c.judge.result c.judge.ensures (sym c.is_err.ensures.value ∙ c.if-is_err.true)).1) in
    record {
      result_value = all.0;
      file_after = all.1.0;
      years_after = all.1.1;
    }

pub rebuild_accepted-requires : goal.rebuild_accepted-requires
rebuild_accepted-requires c =
    let few = years_few c.args.old.now (sym (at_years (goal.at.rebuild_accepted-requires c).In_ok-span)) in
    rw (to_z-of_z c.ranges.zone) (record { known = known (inputs c.args.oldleap.now c.args.oldsunstart.0 c.args.oldsun.now c.args.oldmoonstart.0 c.args.oldmoon.now) (is_accepted_lem (goal.at.rebuild_accepted-requires c).Else-is_err); within = zone_is_small c.args.zone (in_a_zone (goal.at.rebuild_accepted-requires c).Else-not-is_zone); n_nonzero = omega (arith, few.0); n_bound = few.1 })

pub returns-in_err-span : goal.returns-in_err-span
returns-in_err-span c =
    let a = c.args in
    let all = says_refused (rebuilt (inputs c.args.oldleap.now c.args.oldsunstart.0 c.args.oldsun.now c.args.oldmoonstart.0 c.args.oldmoon.now) (inputs c.args.leap.now c.args.sunstart.0 c.args.sun.now c.args.moonstart.0 c.args.moon.now) a.zone a.old.now (length a.file.now) (length a.years.now)) a.file.now a.years.now
    (not_read (inputs c.args.oldleap.now c.args.oldsunstart.0 c.args.oldsun.now c.args.oldmoonstart.0 c.args.oldmoon.now) (inputs c.args.leap.now c.args.sunstart.0 c.args.sun.now c.args.moonstart.0 c.args.moon.now) a.zone (in_zone (goal.at.returns-in_err-span c).Else-not-is_zone) a.old.now (length a.file.now) (length a.years.now) (sym (ap paper c.in_err-span.was) ∙ c.years_in.ensures)) in
    record {
      result_value = passed_on c.from_residual.result c.in_err-span.field-0.0 c.from_residual.ensures.1 all.0;
      file_after = all.1.0;
      years_after = all.1.1;
    }

pub returns : goal.returns
returns c =
    let a = c.args in
    let few = years_few a.old.now (sym (at_years (goal.at.returns c).In_ok-span)) in
    let f = fits_of c.in_ok-span.span.first (omega arith) in
    let all = same_says (old_accepted (inputs c.args.oldleap.now c.args.oldsunstart.0 c.args.oldsun.now c.args.oldmoonstart.0 c.args.oldmoon.now) (inputs c.args.leap.now c.args.sunstart.0 c.args.sun.now c.args.moonstart.0 c.args.moon.now) a.zone (in_zone (goal.at.returns c).Else-not-is_zone) a.old.now (length a.file.now) (length a.years.now) (at_years (goal.at.returns c).In_ok-span) (is_accepted_lem (goal.at.returns c).Else-is_err) few.0 few.1) a.file.now a.years.now
    (let done = rw (to_z-of_z f, to_z-of_z c.ranges.zone) at c.rebuild_accepted.ensures in (done.result_value, (done.file_after, done.years_after))) in
    record {
      result_value = all.0;
      file_after = all.1.0;
      years_after = all.1.1;
    }
