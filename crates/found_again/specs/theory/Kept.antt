-- Days that a correction keeps: a mark that stays at its second is on the same day, and where the first turns of both walks have the same index, so have the turns
-- behind them, one by one. Assumes nothing.
use Rattle.std.specs.Prelude.{◌≡◌, refl, List, [], ◌∷◌, ◌⊎◌, ℕ, suc, ◌+◌, ◌*◌, ◌≤◌, ◌<◌, ℤ, pos, ◌+ℤ◌, take, drop, ◌≤ℤ◌, ◌<ℤ◌}
use Rattle.std.proofs.Common.{sym, ◌∙◌, inl, inr, ⊎_elim, arith}
use Rattle.std.proofs.Math.Path.{ap}
use Rattle.whole.specs.Solver.{⇑, ⇓, ring}
use Rattle.whole.specs.Selected.{tabulate_same}
use Rattle.clock.specs.Clock.{day_in}
use Rattle.series.specs.declared.Body.{Body}
use Rattle.series.specs.declared.Body.TheVariants.{Sun}
use Rattle.series.specs.Series.{Series, series}
use Rattle.marks.specs.Listed.{first_reached, last_reached}
use Rattle.inputs.specs.Inputs.{day_of_mark}
use Rattle.turns.specs.Turns.{circle_of, gap, turn_index, up_to_turn}
use Rattle.turns.specs.Listed.{first_turn_of, turn_index_of, turns_of, turn_after, turn_by_last}
use Rattle.sui.specs.theory.Found.{zhongqi_from}
use Rattle.sui.proofs.theory.Solstices.{one_circle_on}
use Rattle.suis.specs.Ahead.{Ahead}
use Rattle.kept_days.specs.KeptDays.{outside_says, DaysKept, ZhongqiKept}
use Rattle.suis.specs.theory.Lookups.{day_is_lem}
use Rattle.corrected.specs.Shared.{Stays}

-- turns go on by the circle
turn_further : (body : Body) (lowest : ℤ) (place k : ℕ) → turn_index body lowest (place + k) ≡ turn_index body lowest place +ℤ pos (circle_of body * k)
turn_further body lowest place k = ⇑ (lowest ∷ pos (gap body lowest) ∷ pos (circle_of body) ∷ pos place ∷ pos k ∷ []) (search ring depth 12) refl

-- a mark that stays keeps its day
module _ (leap : List ℤ) {old new : Series} (zone : ℤ) {low high : ℤ} (kept : Stays old new low high) where
  day_stays : (j : ℤ) → first_reached new <ℤ j → j ≤ℤ last_reached new → (j ≤ℤ low) ⊎ (high <ℤ j) → (day_of_mark leap old zone j).0 ≡ (day_of_mark leap new zone j).0
  unfolding day_of_mark
  day_stays j after by apart = ap (λ (second : ℤ). (day_in leap (record { 0 = second }) zone).0) (sym (kept.stays j after by apart).2)

module _ (leap : List ℤ) (body : Body) (start : ℤ) (oldcoefs coefs : List ℤ) (zone : ℤ) {low high : ℤ} (kept : Stays (series body start oldcoefs) (series body start coefs) low high) (oldplace place : ℕ) (alike : turn_index_of (series body start oldcoefs) oldplace ≡ turn_index_of (series body start coefs) place) where
  abbrev old : Series
  old = series body start oldcoefs

  abbrev new : Series
  new = series body start coefs

  pub same_turn : (k : ℕ) → turn_index_of old (oldplace + k) ≡ turn_index_of new (place + k)
  same_turn k =
      turn_further body (first_reached old) oldplace k
      ∙ ap (λ (j : ℤ). j +ℤ pos (circle_of body * k)) alike
      ∙ sym (turn_further body (first_reached new) place k)

  pub days_kept_lem : {few : ℕ} {known : List ℤ} → Ahead leap old zone oldplace few known → DaysKept leap new zone place low high known
  days_kept_lem {few} {known} ahead =
      record {
        each = λ k h listed apart.
            let index = turn_index_of new (place + k) in
            day_is_lem ahead k h
            ∙ ap (λ (j : ℤ). (day_of_mark leap old zone j).0) (same_turn k)
            ∙ day_stays leap zone kept index (turn_after new (place + k)) (turn_by_last new (place + k) listed) (outside_says low high index index apart);
      }

-- the zhongqi between two solstices that both stay, and none between them moves
module _ (leap : List ℤ) (start : ℤ) (oldcoefs coefs : List ℤ) (zone : ℤ) {low high : ℤ} (kept : Stays (series Sun start oldcoefs) (series Sun start coefs) low high) (oldplace place : ℕ) (alike : turn_index_of (series Sun start oldcoefs) oldplace ≡ turn_index_of (series Sun start coefs) place) where
  abbrev oldsun : Series
  oldsun = series Sun start oldcoefs

  abbrev sun : Series
  sun = series Sun start coefs

  module _ (j : ℕ) (listed : suc (place + j) < turns_of sun) where
    abbrev index : ℤ
    index = turn_index_of sun (place + j)

    last_by : (index +ℤ pos 24) ≤ℤ last_reached sun
    last_by = rw (one_circle_on start coefs (place + j)) at (turn_by_last sun (suc (place + j)) listed)

    module _ (apart : ((index +ℤ pos 24) ≤ℤ low) ⊎ (high <ℤ index)) where
      -- each of the thirteen lies outside
      each_apart : (m : ℕ) → m ≤ 12 → ((index +ℤ pos (2 * m)) ≤ℤ low) ⊎ (high <ℤ (index +ℤ pos (2 * m)))
      each_apart m h =
          let ρ = index ∷ low ∷ high ∷ pos m ∷ [] in
          ⊎_elim
          (λ (l : (index +ℤ pos 24) ≤ℤ low). inl (⇑ ρ (search ring depth 9) (omega (arith, ⇓ ρ l (search ring depth 9)))))
          (λ (l : high <ℤ index). inr (⇑ ρ (search ring depth 9) (omega (arith, ⇓ ρ l (search ring depth 9)))))
          apart

      each_after : (m : ℕ) → first_reached sun <ℤ (index +ℤ pos (2 * m))
      each_after m = let ρ = first_reached sun ∷ index ∷ pos m ∷ [] in ⇑ ρ (search ring depth 9) (omega (arith, ⇓ ρ (turn_after sun (place + j)) (search ring depth 9)))

      each_by : (m : ℕ) → m ≤ 12 → (index +ℤ pos (2 * m)) ≤ℤ last_reached sun
      each_by m h = let ρ = last_reached sun ∷ index ∷ pos m ∷ [] in ⇑ ρ (search ring depth 9) (omega (arith, ⇓ ρ last_by (search ring depth 9)))

      thirteen_stay : zhongqi_from leap oldsun zone index ≡ zhongqi_from leap sun zone index
      thirteen_stay = tabulate_same 13 (λ m h. day_stays leap zone kept (index +ℤ pos (2 * m)) (each_after m) (each_by m (omega arith)) (each_apart m (omega arith)))

      -- the second solstice was listed before
      was_listed : suc (oldplace + j) < turns_of oldsun
      was_listed =
          let further : oldplace + suc j ≡ suc (oldplace + j) = omega arith in
          let here : place + suc j ≡ suc (place + j) = omega arith in
          let last : turn_index_of oldsun (suc (oldplace + j)) ≡ index +ℤ pos (2 * 12) =
          ap (turn_index_of oldsun) (sym further) ∙ same_turn leap Sun start oldcoefs coefs zone kept oldplace place alike (suc j) ∙ ap (turn_index_of sun) here ∙ one_circle_on start coefs (place + j) in
          up_to_turn Sun (first_turn_of oldsun) (last_reached oldsun) (suc (oldplace + j))
          (rw last (kept.stays (index +ℤ pos (2 * 12)) (each_after 12) (each_by 12 (omega arith)) (each_apart 12 (omega arith))).1)

  pub zhongqi_kept : (m : ℕ) {known : List ℤ} → ((j : ℕ) → j < m → suc (oldplace + j) < turns_of oldsun → take 13 (drop (13 * j) known) ≡ zhongqi_from leap oldsun zone (turn_index_of oldsun (oldplace + j))) → ZhongqiKept leap sun zone place m low high known
  zhongqi_kept m {known} were =
      record {
        of_sui = λ j h listed. record {
          are_zhongqi = λ o.
              let apart = outside_says low high (index j listed) (index j listed +ℤ pos 24) o in
              were j h (was_listed j listed apart)
              ∙ ap (zhongqi_from leap oldsun zone) (same_turn leap Sun start oldcoefs coefs zone kept oldplace place alike j)
              ∙ thirteen_stay j listed apart;
        };
      }
