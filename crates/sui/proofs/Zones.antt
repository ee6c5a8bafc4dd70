-- A sui hangs on the zone by the days of its marks alone: where each listed new moon and each listed zhongqi has one day in two zones, every sui is the same in both
-- (`same_days_same_sui`). So two zones differ only where a new moon or a zhongqi falls between their midnights. Assumes nothing but what a statement says itself.
use Rattle.std.specs.Prelude.{◌≡◌, cond, not, ◌&&◌, ◌+ℤ◌, ◌-ℤ◌, ◌*ℤ◌}
use Rattle.std.proofs.Math.Path.{refl, ap, ap₂}
use Rattle.std.proofs.Math.Bool.{Bool, true, false}
use mathlib.Core.List.{List, [], ◌∷◌, map}
use Rattle.std.proofs.Common.{arith, eqb-true, eq-eqb}
use Rattle.std.proofs.Math.IntN.{ℤ, pos}
use Rattle.whole.specs.Booleans.{both}
use Rattle.whole.specs.Floor.{floor_div, floor_mod}
use Rattle.whole.proofs.Floor.{floor_div_floor_mod, floor_mod_unique}
use Rattle.whole.specs.Solver.{⇑, ⇓, ring}
use Rattle.whole.specs.Selected.{select}
use Rattle.whole.specs.Tests.{is_exactly}
use Rattle.refusals.specs.Verdict.{Verdict, answered, refused, refuse_when, ◌before◌, ◌then◌}
use Rattle.dates.specs.Calendar.{year_of}
use Rattle.marks.specs.Marks.{Mark}
use Rattle.marks.specs.Listed.{listed_marks}
use Rattle.inputs.specs.Inputs.{Inputs, sun, moon}
use Rattle.months.specs.declared.SuiDays.{SuiDays}
use Rattle.months.specs.Months.{days_of, sui_of}
use Rattle.months.specs.Limits.{year_in_range}
use Rattle.sui.specs.Sui.{is_solstice, is_zhongqi, is_new_moon, one_solstice, mark_day, new_moon_days_of, solstices_of, zhongqi_days_of, days_by_marks, sui_days, sui_of_year}

-- ---- which marks have one day in two zones
module _ (leap : List ℤ) (zone other : ℤ) where
  abbrev pub OneDay : (Mark → Bool) → List Mark → Type 0
  OneDay which [] = Unit {0}
  OneDay which (m ∷ marks) = (which m ≡ true → mark_day leap zone m ≡ mark_day leap other m) × OneDay which marks

-- ---- a sui whose marks have one day is one sui
-- every solstice is a zhongqi
solstice_is_zhongqi : (m : Mark) → is_solstice m ≡ true → is_zhongqi m ≡ true
unfolding is_solstice is_zhongqi
solstice_is_zhongqi m e =
    let j = m.index in
    let q = floor_div j 24 in
    let ρ = j ∷ q ∷ pos (floor_mod j 24) ∷ [] in
    let at : floor_mod j 24 ≡ 18 = eqb-true (floor_mod j 24) 18 e in
    eq-eqb (floor_mod j 2) 0 (floor_mod_unique j (pos 12 *ℤ q +ℤ pos 9) 2 0 (omega arith) (⇑ ρ (search ring depth 9) (omega (arith, at, ⇓ ρ (floor_div_floor_mod j 24 (omega arith)) (search ring depth 9)))))

then_same : {A B : Type 0} (v : Verdict A) {f g : A → Verdict B} → ((a : A) → f a ≡ g a) → v then f ≡ v then g
then_same (answered a) e = e a
then_same (refused number segment) e = refl

module _ (leap : List ℤ) (zone other : ℤ) where
  -- the days of those that are selected
  same_days_lem : (which : Mark → Bool) (marks : List Mark) → OneDay leap zone other which marks → map (mark_day leap zone) (select which marks) ≡ map (mark_day leap other) (select which marks)
  unfolding select
  same_days_lem which [] one = refl
  same_days_lem which (m ∷ marks) one = go (which m) refl (same_days_lem which marks one.1)
    where
      go : (b : Bool) → which m ≡ b → map (mark_day leap zone) (select which marks) ≡ map (mark_day leap other) (select which marks) → map (mark_day leap zone) (cond b (m ∷ select which marks) (select which marks)) ≡ map (mark_day leap other) (cond b (m ∷ select which marks) (select which marks))
      go true e behind = ap₂ (λ (d : ℤ) (days : List ℤ). d ∷ days) (one.0 e) behind
      go false e behind = behind

  -- fewer of them
  of_fewer : (which more : Mark → Bool) (marks : List Mark) → OneDay leap zone other which marks → OneDay leap zone other (λ m. which m && more m) marks
  of_fewer which more [] one = tt
  of_fewer which more (m ∷ marks) one = (λ e. one.0 (both (which m) (more m) e).0, of_fewer which more marks one.1)

  module _ (suns : List Mark) (zhongqi : OneDay leap zone other is_zhongqi suns) where
    same_solstices : (year : ℤ) → solstices_of leap zone suns year ≡ solstices_of leap other suns year
    unfolding solstices_of select
    same_solstices year = go suns zhongqi
      where
        in_year_lem : ℤ → Mark → Bool
        in_year_lem z m = is_solstice m && is_exactly year (year_of (mark_day leap z m))

        go : (marks : List Mark) → OneDay leap zone other is_zhongqi marks → select (in_year_lem zone) marks ≡ select (in_year_lem other) marks
        go [] one = refl
        go (m ∷ marks) one = step (is_solstice m) refl (go marks one.1)
          where
            step : (b : Bool) → is_solstice m ≡ b → select (in_year_lem zone) marks ≡ select (in_year_lem other) marks → cond (in_year_lem zone m) (m ∷ select (in_year_lem zone) marks) (select (in_year_lem zone) marks) ≡ cond (in_year_lem other m) (m ∷ select (in_year_lem other) marks) (select (in_year_lem other) marks)
            step true e behind = rw (one.0 (solstice_is_zhongqi m e), behind)
            step false e behind = rw e behind

    same_zhongqi : (first last : Mark) → zhongqi_days_of leap zone suns first last ≡ zhongqi_days_of leap other suns first last
    unfolding zhongqi_days_of
    same_zhongqi first last = same_days_lem _ suns (of_fewer is_zhongqi _ suns zhongqi)

    module _ (moons : List Mark) (new-moons : OneDay leap zone other is_new_moon moons) where
      same_new_moons : new_moon_days_of leap zone moons ≡ new_moon_days_of leap other moons
      unfolding new_moon_days_of
      same_new_moons = same_days_lem is_new_moon moons new-moons

      same_by_marks : (year : ℤ) → days_by_marks leap zone suns moons year ≡ days_by_marks leap other suns moons year
      unfolding days_by_marks
      same_by_marks year =
          rw (same_solstices (year -ℤ pos 1), same_solstices year)
          (ap (λ (v : Verdict SuiDays). refuse_when (not (year_in_range year)) 8 before v)
          (then_same (one_solstice (solstices_of leap other suns (year -ℤ pos 1))) (λ first.
          then_same (one_solstice (solstices_of leap other suns year)) (λ last. ap₂ days_of same_new_moons (same_zhongqi first last)))))

module _ (i : Inputs) (zone other : ℤ) (zhongqi : OneDay i.leap zone other is_zhongqi (listed_marks (sun i))) (new-moons : OneDay i.leap zone other is_new_moon (listed_marks (moon i))) where
  pub same_days_same_sui : (year : ℤ) → sui_of_year i zone year ≡ sui_of_year i other year
  unfolding sui_days
  same_days_same_sui year = ap (λ (v : Verdict SuiDays). v then sui_of year) (same_by_marks i.leap zone other (listed_marks (sun i)) zhongqi (listed_marks (moon i)) new-moons year)
