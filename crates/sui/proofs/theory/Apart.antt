-- New moons lie on different days: four marks of the Moon take more than 129,600 seconds, since a second rises by at most 100,000 units, and in so long a time a
-- day ends, whatever the leap table does. So new-moon days rise strictly. Assumes nothing.
use Rattle.std.specs.Prelude.{◌≡◌, refl, true, List, [], ◌∷◌, ℕ, zero, suc, ◌+◌, ◌*◌, ◌<◌, ℤ, pos, ◌+ℤ◌, ◌-ℤ◌, ◌*ℤ◌, ◌≤ℤ◌, ◌<ℤ◌}
use Rattle.std.proofs.Common.{sym, ap, ◌∙◌, arith}
use Rattle.std.specs.Int.Signed.{lt_z}
use Rattle.whole.specs.Booleans.{both_hold}
use Rattle.whole.specs.Distance.{distance_from, lies_after}
use Rattle.whole.specs.Floor.{floor_div}
use Rattle.whole.proofs.Floor.{floor_div_mono, floor_div_add}
use Rattle.whole.specs.Parts.{◌⩽◌}
use Rattle.whole.specs.Solver.{⇑, ⇓, ring, yes_lt}
use Rattle.whole.specs.Tabulated.{tabulate}
use Rattle.times.specs.declared.Second.{Second}
use Rattle.clock.specs.Leap.{leap_lawful, offset, entry_used}
use Rattle.clock.specs.Clock.{tai, local_milli, day_of_milli, day_in}
use Rattle.clock.proofs.theory.Inserted.{later, count_is}
use Rattle.clock.proofs.theory.Sizes.{offset_used_small}
use Rattle.series.specs.declared.Body.TheVariants.{Moon}
use Rattle.series.specs.Series.{Series, series, value_at, last_second}
use Rattle.series.specs.Acceptance.{Accepted}
use Rattle.marks.specs.Listed.{first_reached, second_of_mark}
use Rattle.marks.proofs.Theorems.{located_crossing, later_marks_are_later}
use Rattle.inputs.specs.Inputs.{Inputs, moon, day_of_mark}
use Rattle.inputs.specs.Known.{Known}
use Rattle.months.specs.Limits.{rising}
use Rattle.whole.specs.Selected.{tabulate_cons}
use Rattle.sui.specs.Sui.{new_moon_days}
use Rattle.turns.specs.Turns.{gap}
use Rattle.turns.specs.Listed.{turn_index_of, turns_of, turn_after, turn_by_last, turn_day}
use Rattle.sui.proofs.theory.Solstices.{new_moons_are}
use Rattle.sui.proofs.theory.Speed.{rises_at_most_over}

-- ---- a day ends in 129,600 seconds: offsets are small
pub day_ends : (leap : List ℤ) → leap_lawful leap ≡ true → (a b : Second) → a.0 +ℤ pos 129600 ⩽ b.0 → (zone : ℤ) → (day_in leap a zone).0 <ℤ (day_in leap b zone).0
unfolding day_in day_of_milli local_milli tai
day_ends leap l a b h zone =
    let o = offset leap (entry_used leap (later (tai a))) in
    let p = offset leap (entry_used leap (later (tai b))) in
    let m = pos 1000 *ℤ a.0 -ℤ pos 32184 -ℤ pos 1000 *ℤ o +ℤ pos 60000 *ℤ zone in
    let n = pos 1000 *ℤ b.0 -ℤ pos 32184 -ℤ pos 1000 *ℤ p +ℤ pos 60000 *ℤ zone in
    let ρ = a.0 ∷ b.0 ∷ o ∷ p ∷ zone ∷ [] in
    let small = (offset_used_small leap (later (tai a)) l).within in
    let small' = (offset_used_small leap (later (tai b)) l).within in
    let on : m +ℤ pos 1 *ℤ pos 86400000 ⩽ n = ⇑ ρ (search ring depth 12) (omega (arith, ⇓ ρ h (search ring depth 9), ⇓ ρ small (search ring depth 9), ⇓ ρ small' (search ring depth 9))) in
    let up = floor_div_mono {y = m +ℤ pos 1 *ℤ pos 86400000} {z = n} 86400000 (omega arith) on in
    let σ = floor_div m 86400000 ∷ floor_div n 86400000 ∷ [] in
    rw (count_is leap l a zone, count_is leap l b zone)
    (⇑ σ (search ring depth 9) (omega (arith, ⇓ σ (rw (floor_div_add m (pos 1) 86400000 (omega arith)) at up) (search ring depth 9))))

-- ---- new moons are more than 129,600 seconds apart
module _ (start : ℤ) (coefs : List ℤ) (e : Accepted (series Moon start coefs)) (k : ℕ) (h : suc k < turns_of (series Moon start coefs)) where
  abbrev s : Series
  s = series Moon start coefs

  four_on : turn_index_of s (suc k) ≡ turn_index_of s k +ℤ pos 4
  four_on =
      let lowest = first_reached s in
      let ρ = lowest ∷ pos (gap Moon lowest) ∷ pos k ∷ [] in
      let more : 4 * suc k ≡ 4 * k + 4 = omega arith in
      rw more (⇑ ρ (search ring depth 9) refl)

  pub moons_apart : second_of_mark s (turn_index_of s k) +ℤ pos 129600 ⩽ second_of_mark s (turn_index_of s (suc k))
  moons_apart =
      let i = turn_index_of s k in
      let j = turn_index_of s (suc k) in
      let a = second_of_mark s i in
      let b = second_of_mark s j in
      let here = located_crossing s e i (turn_after s k) (turn_by_last s k (omega arith)) in
      let there = located_crossing s e j (turn_after s (suc k)) (turn_by_last s (suc k) h) in
      let τ = i ∷ j ∷ [] in
      let in_order = later_marks_are_later s e i j (turn_after s k) (⇑ τ (search ring depth 9) (omega (arith, ⇓ τ four_on (search ring depth 9)))) (turn_by_last s (suc k) h) in
      let c = a -ℤ pos 1 in
      let ρ = a ∷ b ∷ start ∷ last_second s ∷ [] in
      let up : c ≤ℤ b = ⇑ ρ (search ring depth 9) (omega (arith, ⇓ ρ in_order (search ring depth 9))) in
      let n = distance_from c b in
      let on : b ≡ c +ℤ pos n = lies_after up in
      let from : start ≤ℤ c = ⇑ ρ (search ring depth 9) (omega (arith, ⇓ ρ here.after_first (search ring depth 9))) in
      let most = rises_at_most_over s e n c from (rw (← on) there.by_last) in
      let σ = value_at s c ∷ value_at s b ∷ i ∷ j ∷ a ∷ b ∷ pos n ∷ [] in
      ⇑ σ (search ring depth 9)
      (omega (
        arith,
        ⇓ σ (rw (← on) at most) (search ring depth 9),
        ⇓ σ on (search ring depth 9),
        ⇓ σ here.less_before (search ring depth 9),
        ⇓ σ there.reached_here (search ring depth 9),
        ⇓ σ four_on (search ring depth 9),
      ))

-- ---- so their days rise
rising_tabulated : (f : ℕ → ℤ) (n : ℕ) → ((k : ℕ) → suc k < n → f k <ℤ f (suc k)) → rising (tabulate f n) ≡ true
unfolding rising
rising_tabulated f zero h = refl
rising_tabulated f (suc zero) h = refl
rising_tabulated f (suc (suc n)) h =
    ap rising (tabulate_cons f (suc n) ∙ ap (λ (l : List ℤ). f 0 ∷ l) (tabulate_cons (λ k. f (suc k)) n))
    ∙ both_hold (lt_z (f 0) (f 1)) (rising (f 1 ∷ tabulate (λ k. f (suc (suc k))) n)) (yes_lt (h 0 (omega arith)))
    (ap rising (sym (tabulate_cons (λ k. f (suc k)) n)) ∙ rising_tabulated (λ k. f (suc k)) (suc n) (λ k l. h (suc k) (omega arith)))

pub new_moons_rise : (i : Inputs) (zone : ℤ) → Known i → rising (new_moon_days i zone) ≡ true
unfolding day_of_mark
new_moons_rise i zone k =
    ap rising (new_moons_are i zone k)
    ∙ rising_tabulated (turn_day i.leap (moon i) zone) (turns_of (moon i))
    (λ n h. day_ends i.leap k.moon_ready.lawful_table (record { 0 = second_of_mark (moon i) (turn_index_of (moon i) n) }) (record { 0 = second_of_mark (moon i) (turn_index_of (moon i) (suc n)) }) (moons_apart i.moon_start i.moon_coefs k.moon_ready.is_accepted n h) zone)
