-- `rebuild::known::rebuild_found` meets its contract. In the needs, `start` is the function's entry. Assumes nothing.
use mathlib.Core.Path.{◌≡◌, sym, ◌∙◌}
use mathlib.Core.Bool.{true}
use Prim.Native.Nat.{ℕ, ◌+◌, ◌*◌, ◌/◌, ◌≤◌}
use native.Mathlib.Omega.{arith}
use lib.IntN.{ℤ}
use lib.ListN.{length, replicate, length-replicate}
use mir.Facts.{to_z-of_z}
use Rattle.whole.specs.Lists.{placed}
use Rattle.refusals.specs.Verdict.{answered}
use Rattle.clock.proofs.theory.Table.{few}
use Rattle.inputs.specs.Inputs.{inputs}
use Rattle.almanac.specs.Layout.{months_at}
use Rattle.built.specs.Build.{bytes_of_years}
use Rattle.rebuilt.specs.Rebuild.{is_file, most_bytes}
use Rattle.rebuilt.specs.theory.Given.{is_file_lem}
use Rattle.kept_or_made.specs.OldDays.{days_of_years}
use Rattle.rebuild.specs.theory.Copied.{all_found, copies_from_old, listed_is_kept}
use Rattle.rebuild.specs.theory.Over.{rebuilt_over, says_refused, same_says, not_its_file, is_its_file}
use Rattle.rebuild.proofs.known.rebuild_found.Goals as goal
use Rattle.rebuild.proofs.known.rebuild_found.Goals.{After-gives, After-keep_days, Else-not-gives}

at_gives : (c : After-gives) → (c.gives.result ≡ is_file (bytes_of_years (inputs c.args.oldleap.now c.args.oldsunstart.0 c.args.oldsun.now c.args.oldmoonstart.0 c.args.oldmoon.now) c.args.zone c.args.first c.args.n most_bytes) c.args.old.now)
at_gives c = rw (to_z-of_z c.ranges.zone, to_z-of_z c.ranges.first) at c.gives.ensures

given : (c : Else-not-gives) → is_file (bytes_of_years (inputs c.args.oldleap.now c.args.oldsunstart.0 c.args.oldsun.now c.args.oldmoonstart.0 c.args.oldmoon.now) c.args.zone c.args.first c.args.n most_bytes) c.args.old.now ≡ true
given c = sym (rw (to_z-of_z c.ranges.zone, to_z-of_z c.ranges.first) at c.gives.ensures) ∙ c.if-not-gives.false

old_bytes : (c : Else-not-gives) → (bytes_of_years (inputs c.args.oldleap.now c.args.oldsunstart.0 c.args.oldsun.now c.args.oldmoonstart.0 c.args.oldmoon.now) c.args.zone c.args.first c.args.n most_bytes) ≡ answered c.args.old.now
old_bytes c = is_file_lem (bytes_of_years (inputs c.args.oldleap.now c.args.oldsunstart.0 c.args.oldsun.now c.args.oldmoonstart.0 c.args.oldmoon.now) c.args.zone c.args.first c.args.n most_bytes) c.args.old.now (given c)

enough : (first : ℤ) (n : ℕ) → n ≤ 128 → 28 * n ≤ length (replicate 3584 first)
enough first n few = rw (length-replicate 3584 first) (omega arith)

put : (c : After-keep_days) → (let a = c.args in c.keep_days.new.out ≡ placed 0 (days_of_years (inputs c.args.oldleap.now c.args.oldsunstart.0 c.args.oldsun.now c.args.oldmoonstart.0 c.args.oldmoon.now) a.zone a.first a.n) (replicate 3584 c.args.first))
put c = rw (to_z-of_z c.ranges.zone, to_z-of_z c.ranges.first) at c.keep_days.ensures

-- where the old file's months stand
known_at : (c : After-keep_days) → (let a = c.args in (length a.oldleap.now / 2 ≤ 64) × (a.n ≤ 128))
known_at c = let b = c.requires.begun in (few c.args.oldleap.now b.is_known.sun_ready.lawful_table, b.few_years)

pub gives-requires : goal.gives-requires
gives-requires c = rw (to_z-of_z c.ranges.zone, to_z-of_z c.ranges.first) c.requires

pub returns-then-not-gives : goal.returns-then-not-gives
returns-then-not-gives c =
    let a = c.args in
    let all = says_refused (rebuilt_over (inputs c.args.oldleap.now c.args.oldsunstart.0 c.args.oldsun.now c.args.oldmoonstart.0 c.args.oldmoon.now) (inputs c.args.leap.now c.args.sunstart.0 c.args.sun.now c.args.moonstart.0 c.args.moon.now) a.zone a.old.now a.first a.n (length a.file.now) (length a.years.now)) a.file.now a.years.now
    (not_its_file (inputs c.args.oldleap.now c.args.oldsunstart.0 c.args.oldsun.now c.args.oldmoonstart.0 c.args.oldmoon.now) (inputs c.args.leap.now c.args.sunstart.0 c.args.sun.now c.args.moonstart.0 c.args.moon.now) a.zone a.old.now a.first a.n (length a.file.now) (length a.years.now) (sym (at_gives (goal.at.returns-then-not-gives c).After-gives) ∙ c.if-not-gives.true)) in
    record {
      result_value = all.0;
      file_after = all.1.0;
      years_after = all.1.1;
    }

pub keep_days-requires : goal.keep_days-requires
keep_days-requires c =
    let a = c.args in
    let b = c.requires.begun in
    rw (to_z-of_z c.ranges.zone, to_z-of_z c.ranges.first) (record { walks = c.requires; all_found = all_found (inputs c.args.oldleap.now c.args.oldsunstart.0 c.args.oldsun.now c.args.oldmoonstart.0 c.args.oldmoon.now) a.zone a.first b.is_known b.suns_searched.zone_small a.n b.some_years b.few_years (old_bytes (goal.at.keep_days-requires c).Else-not-gives); n_in_bounds = enough c.args.first c.args.n c.requires.begun.few_years })

pub overflow_mul-at : goal.overflow_mul-at
overflow_mul-at c = let known = known_at (goal.at.overflow_mul-at c).After-keep_days in record { fits = omega (arith, known) }

pub overflow_add-at : goal.overflow_add-at
overflow_add-at c = let known = known_at (goal.at.overflow_add-at c).After-keep_days in record { fits = omega (arith, known) }

pub overflow_add-at-2 : goal.overflow_add-at-2
overflow_add-at-2 c = let known = known_at (goal.at.overflow_add-at-2 c).After-keep_days in record { fits = omega (arith, known) }

pub rebuild_new-requires : goal.rebuild_new-requires
rebuild_new-requires c =
    let a = c.args in
    let b = c.requires.begun in
    let there : months_at (length a.oldleap.now / 2) a.n + 4 ≡ 12 + 8 * (length a.oldleap.now / 2) + 5 * a.n = omega arith in
    rw (to_z-of_z c.ranges.zone, to_z-of_z c.ranges.first) (record { walks = c.requires; copies = rw there at (copies_from_old (inputs c.args.oldleap.now c.args.oldsunstart.0 c.args.oldsun.now c.args.oldmoonstart.0 c.args.oldmoon.now) a.zone a.first b.is_known b.suns_searched.zone_small a.n b.some_years b.few_years (old_bytes (goal.at.rebuild_new-requires c).Else-not-gives) (replicate 3584 c.args.first) (enough c.args.first c.args.n c.requires.begun.few_years) (put (goal.at.rebuild_new-requires c).After-keep_days) (inputs c.args.leap.now c.args.sunstart.0 c.args.sun.now c.args.moonstart.0 c.args.moon.now)) })

pub returns : goal.returns
returns c =
    let a = c.args in
    let b = c.requires.begun in
    let listed = listed_is_kept (inputs c.args.oldleap.now c.args.oldsunstart.0 c.args.oldsun.now c.args.oldmoonstart.0 c.args.oldmoon.now) a.zone a.first b.is_known b.suns_searched.zone_small a.n b.some_years b.few_years (old_bytes (goal.at.returns c).Else-not-gives) (replicate 3584 c.args.first) (enough c.args.first c.args.n c.requires.begun.few_years) (put (goal.at.returns c).After-keep_days) (inputs c.args.leap.now c.args.sunstart.0 c.args.sun.now c.args.moonstart.0 c.args.moon.now) in
    let all = same_says (is_its_file (inputs c.args.oldleap.now c.args.oldsunstart.0 c.args.oldsun.now c.args.oldmoonstart.0 c.args.oldmoon.now) (inputs c.args.leap.now c.args.sunstart.0 c.args.sun.now c.args.moonstart.0 c.args.moon.now) a.zone a.old.now a.first a.n (length a.file.now) (length a.years.now) (given (goal.at.returns c).Else-not-gives) listed) a.file.now a.years.now
    (let done = rw (to_z-of_z c.ranges.zone, to_z-of_z c.ranges.first) at c.rebuild_new.ensures in (done.result_value, (done.file_after, done.years_after))) in
    record {
      result_value = all.0;
      file_after = all.1.0;
      years_after = all.1.1;
    }
