-- An inserted second, the second before it and the second after it: the count stays from the first to the second and goes on by a second to the third, and that of
-- the inserted one lies in the last second of a minute. Assumes nothing.
use Rattle.std.specs.Prelude.{ℕ, suc, ◌/◌, ◌%◌, ◌<◌, ◌≤◌, ◌≡◌, refl, true, false, ℤ, ◌+ℤ◌, ◌-ℤ◌, ◌*ℤ◌}
use Rattle.std.proofs.Math.Path.{sym, ap}
use Rattle.std.proofs.Common.{◌∙◌, ⊎_elim, arith, div-add-mod', mod-lt}
use mathlib.Core.List.{List, [], ◌∷◌}
use Rattle.std.proofs.Math.IntN.{pos}
use Rattle.whole.specs.Parts.{◌⩽◌, ◌≺◌}
use Rattle.whole.specs.Laws.{≤_antisymm, ≤_trans}
use Rattle.whole.specs.Booleans.{not_both}
use Rattle.whole.specs.Solver.{⇑, ⇓, ring, yes_le}
use Rattle.whole.specs.Floor.{floor_div, floor_mod}
use Rattle.whole.proofs.Floor.{floor_div_ge, floor_div_le, floor_div_floor_mod, floor_mod_lt, floor_mod_unique, floor_mod_is}
use Rattle.times.specs.declared.Milli.{Milli}
use Rattle.times.specs.declared.Second.{Second}
use Rattle.clock.specs.Leap.{leap_lawful, entries, day, offset, holds_from, holds, entry_used, inserted}
use Rattle.clock.specs.Clock.{tai, local_milli, reading, read_off, milli_in, count_in}
use Rattle.clock.proofs.theory.Table.{offset_next, moment_later, moments_in_order}
use Rattle.clock.proofs.theory.Used.{Used, used, used_is, entry_between}
use Rattle.clock.proofs.theory.Inserted.{later, inside, not_yet, none_inserts, next_used, by_next, count_is}
use Rattle.clock.proofs.theory.Counts.{tai_is, count_no_faster, Stays, on_or_stays}

-- the milliseconds of a minute, from those of the day
in-minute : (c : ℤ) → floor_mod c 60000 ≡ floor_mod c 86400000 % 60000
in-minute c =
    let q = floor_div c 86400000 in
    let r = floor_mod c 86400000 in
    let ρ = c ∷ q ∷ pos r ∷ pos (r / 60000) ∷ pos (r % 60000) ∷ [] in
    floor_mod_unique c (pos 1440 *ℤ q +ℤ pos (r / 60000)) 60000 (r % 60000) (mod-lt r (omega arith))
    (⇑ ρ (search ring depth 9) (omega (arith, ⇓ ρ (floor_div_floor_mod c 86400000 (omega arith)) (search ring depth 9), div-add-mod' r 60000)))

-- ---- c lies in the last second before minute x
module _ (x c : ℤ) (from : pos 60000 *ℤ x -ℤ pos 1000 ⩽ c) (to : c ≺ pos 60000 *ℤ x) where
  last_second_lem : 59000 ≤ floor_mod c 86400000 % 60000
  last_second_lem =
      let r = c -ℤ pos 60000 *ℤ (x -ℤ pos 1) in
      let ρ = c ∷ x ∷ pos (floor_mod c 60000) ∷ [] in
      let is : pos (floor_mod c 60000) ≡ r =
      floor_mod_is c (x -ℤ pos 1) r 60000
      (⇑ ρ (search ring depth 9) (omega (arith, ⇓ ρ from (search ring depth 9))))
      (⇑ ρ (search ring depth 9) (omega (arith, ⇓ ρ to (search ring depth 9))))
      (⇑ ρ (search ring depth 12) (omega arith)) in
      omega (arith, in-minute c, ⇓ ρ is (search ring depth 9), ⇓ ρ from (search ring depth 9))

  -- where no day begins with minute x, a second more is of the same day
  same_day : 0 < floor_mod x 1440 → floor_div c 86400000 ≡ floor_div (c +ℤ pos 1000) 86400000
  same_day some =
      let q = floor_div x 1440 in
      let r = floor_mod x 1440 in
      let ρ = c ∷ x ∷ q ∷ pos r ∷ [] in
      let is = floor_div_floor_mod x 1440 (omega arith) in
      ≤_antisymm
      (≤_trans
      (floor_div_le {z = c} {q = q} 86400000 (omega arith) (⇑ ρ (search ring depth 9) (omega (arith, floor_mod_lt x 1440 (omega arith), ⇓ ρ is (search ring depth 9), ⇓ ρ to (search ring depth 9)))))
      (floor_div_ge {z = c +ℤ pos 1000} {q = q} 86400000 (omega arith) (⇑ ρ (search ring depth 9) (omega (arith, some, ⇓ ρ is (search ring depth 9), ⇓ ρ from (search ring depth 9))))))
      (≤_trans
      (floor_div_le {z = c +ℤ pos 1000} {q = q} 86400000 (omega arith) (⇑ ρ (search ring depth 9) (omega (arith, floor_mod_lt x 1440 (omega arith), ⇓ ρ is (search ring depth 9), ⇓ ρ to (search ring depth 9)))))
      (floor_div_ge {z = c} {q = q} 86400000 (omega arith) (⇑ ρ (search ring depth 9) (omega (arith, some, ⇓ ρ is (search ring depth 9), ⇓ ρ from (search ring depth 9))))))

-- whole days do not change where in a day a minute lies
zone_midnight : (d zone : ℤ) → floor_mod (pos 1440 *ℤ d +ℤ zone) 1440 ≡ floor_mod zone 1440
zone_midnight d zone =
    let ρ = d ∷ zone ∷ floor_div zone 1440 ∷ pos (floor_mod zone 1440) ∷ [] in
    floor_mod_unique (pos 1440 *ℤ d +ℤ zone) (d +ℤ floor_div zone 1440) 1440 (floor_mod zone 1440) (floor_mod_lt zone 1440 (omega arith))
    (⇑ ρ (search ring depth 9) (omega (arith, ⇓ ρ (floor_div_floor_mod zone 1440 (omega arith)) (search ring depth 9))))

-- ---- entry i + 1 inserts second s: it does not hold then, and holds a second later
pub record Inside (w : List ℤ) (i : ℕ) (s : Second) : Type 0 where
  pub lawful : leap_lawful w ≡ true
  pub listed : suc i < entries w
  pub reached : holds_from w (suc i) ⩽ later (tai s)
  pub to : tai s ≺ holds_from w (suc i)

module _ {w : List ℤ} {i : ℕ} {s : Second} (here : Inside w i s) where
  abbrev l : leap_lawful w ≡ true
  l = here.lawful

  abbrev m : suc i < entries w
  m = here.listed

  abbrev reached : holds_from w (suc i) ⩽ later (tai s)
  reached = here.reached

  abbrev to : tai s ≺ holds_from w (suc i)
  to = here.to

  pub is_inserted : inserted w (tai s) ≡ true
  is_inserted = inside w (tai s) i m reached to

  holds_inside : holds_from w i +ℤ pos 1000 ⩽ tai s
  holds_inside = let ρ = holds_from w i ∷ holds_from w (suc i) ∷ tai s ∷ [] in ⇑ ρ (search ring) (omega (arith, ⇓ ρ (moment_later w l i m) (search ring), ⇓ ρ reached (search ring)))

  used_inside : Used w (tai s) i
  used_inside = let ρ = holds_from w i ∷ tai s ∷ [] in entry_between w (tai s) i l (omega arith) (⇑ ρ (search ring) (omega (arith, ⇓ ρ holds_inside (search ring)))) (λ n. to)

  count_inside : (zone : ℤ) → (count_in w s zone).0 ≡ tai s -ℤ pos 1000 *ℤ offset w (suc i) +ℤ pos 60000 *ℤ zone
  unfolding local_milli
  count_inside zone =
      ap (λ (c : Milli). c.0) (count_is w l s zone)
      ∙ ap (λ (j : ℕ). tai s -ℤ pos 1000 *ℤ offset w j +ℤ pos 60000 *ℤ zone) (used_is w (later (tai s)) (suc i) (next_used w l (tai s) i used_inside m reached))

  -- the minute that begins behind it
  abbrev minute : ℤ → ℤ
  minute zone = pos 1440 *ℤ day w (suc i) +ℤ zone

  pub count_from : (zone : ℤ) → pos 60000 *ℤ minute zone -ℤ pos 1000 ⩽ (count_in w s zone).0
  unfolding holds_from
  count_from zone =
      let ρ = tai s ∷ day w (suc i) ∷ offset w (suc i) ∷ zone ∷ (count_in w s zone).0 ∷ [] in
      ⇑ ρ (search ring depth 12) (omega (arith, ⇓ ρ (count_inside zone) (search ring depth 9), ⇓ ρ reached (search ring depth 9)))

  pub count_to : (zone : ℤ) → (count_in w s zone).0 ≺ pos 60000 *ℤ minute zone
  unfolding holds_from
  count_to zone =
      let ρ = tai s ∷ day w (suc i) ∷ offset w (suc i) ∷ zone ∷ (count_in w s zone).0 ∷ [] in
      ⇑ ρ (search ring depth 12) (omega (arith, ⇓ ρ (count_inside zone) (search ring depth 9), ⇓ ρ to (search ring depth 9)))

  pub at_the_end : (zone : ℤ) → 59000 ≤ floor_mod (count_in w s zone).0 86400000 % 60000
  at_the_end zone = last_second_lem (minute zone) (count_in w s zone).0 (count_from zone) (count_to zone)

  pub milli_is_later : (zone : ℤ) → (milli_in w s zone).0 ≡ (count_in w s zone).0 +ℤ pos 1000
  unfolding milli_in count_in read_off reading
  milli_is_later zone = rw is_inserted (⇑ ((local_milli (tai s) (offset w (entry_used w (tai s))) zone).0 ∷ []) (search ring depth 9) refl)

  pub day_stays_inside : (zone : ℤ) → 0 < floor_mod zone 1440 → floor_div (count_in w s zone).0 86400000 ≡ floor_div (milli_in w s zone).0 86400000
  day_stays_inside zone some =
      same_day (minute zone) (count_in w s zone).0 (count_from zone) (count_to zone) (rw (zone_midnight (day w (suc i)) zone) some)
      ∙ ap (λ (c : ℤ). floor_div c 86400000) (sym (milli_is_later zone))

  -- in UTC itself the minute behind it is the first of a day
  pub ends_the_day : floor_div (count_in w s (pos 0)).0 86400000 ≡ day w (suc i) -ℤ pos 1
  ends_the_day =
      let c = (count_in w s (pos 0)).0 in
      let ρ = c ∷ day w (suc i) ∷ [] in
      ≤_antisymm
      (floor_div_le {z = c} {q = day w (suc i) -ℤ pos 1} 86400000 (omega arith) (⇑ ρ (search ring depth 9) (omega (arith, ⇓ ρ (count_to (pos 0)) (search ring depth 9)))))
      (floor_div_ge {z = c} {q = day w (suc i) -ℤ pos 1} 86400000 (omega arith) (⇑ ρ (search ring depth 9) (omega (arith, ⇓ ρ (count_from (pos 0)) (search ring depth 9)))))

  -- ---- the second before it
  module _ (before : Second) (b : before.0 +ℤ pos 1 ≡ s.0) where
    one_before : later (tai before) ≡ tai s
    one_before = let ρ = before.0 ∷ s.0 ∷ tai before ∷ tai s ∷ [] in ⇑ ρ (search ring depth 9) (omega (arith, ⇓ ρ b (search ring), ⇓ ρ (tai_is before) (search ring depth 9), ⇓ ρ (tai_is s) (search ring depth 9)))

    pub first_holds_before : holds w (tai before) 0 ≡ true
    unfolding holds
    first_holds_before =
        let ρ = holds_from w i ∷ tai before ∷ tai s ∷ [] in
        yes_le {a = holds_from w 0} {b = tai before} (≤_trans (moments_in_order w l 0 i (omega arith) (omega arith)) (⇑ ρ (search ring) (omega (arith, ⇓ ρ holds_inside (search ring), ⇓ ρ one_before (search ring)))))

    pub count_before : (zone : ℤ) → (count_in w before zone).0 ≡ (count_in w s zone).0
    unfolding local_milli
    count_before zone =
        let ρ = tai before ∷ tai s ∷ offset w i ∷ offset w (suc i) ∷ zone ∷ [] in
        ap (λ (c : Milli). c.0) (count_is w l before zone)
        ∙ ap (λ (j : ℕ). tai before -ℤ pos 1000 *ℤ offset w j +ℤ pos 60000 *ℤ zone) (ap (entry_used w) one_before ∙ used_is w (tai s) i used_inside)
        ∙ ⇑ ρ {A = tai before -ℤ pos 1000 *ℤ offset w i +ℤ pos 60000 *ℤ zone ≡ tai s -ℤ pos 1000 *ℤ offset w (suc i) +ℤ pos 60000 *ℤ zone} (search ring depth 12) (omega (arith, ⇓ ρ one_before (search ring), ⇓ ρ (offset_next w l i m) (search ring)))
        ∙ sym (count_inside zone)

    pub plain_before : inserted w (tai before) ≡ false
    plain_before = ⊎_elim goes (λ (stays : Stays w before s (pos 0)). stays.plain) (on_or_stays w l before s (let ρ = before.0 ∷ s.0 ∷ [] in ⇑ ρ (search ring) (omega (arith, ⇓ ρ b (search ring)))) (pos 0))
      where
        goes : (count_in w before (pos 0)).0 +ℤ pos 1000 ⩽ (count_in w s (pos 0)).0 → inserted w (tai before) ≡ false
        goes h = let ρ = (count_in w before (pos 0)).0 ∷ (count_in w s (pos 0)).0 ∷ [] in absurd (omega (arith, ⇓ ρ h (search ring), ⇓ ρ (count_before (pos 0)) (search ring)))

  -- ---- the second after it
  module _ (after : Second) (a : s.0 +ℤ pos 1 ≡ after.0) where
    pub count_after : (zone : ℤ) → (count_in w after zone).0 ≡ (count_in w s zone).0 +ℤ pos 1000
    count_after zone =
        let ρ = (count_in w s zone).0 ∷ (count_in w after zone).0 ∷ s.0 ∷ after.0 ∷ [] in
        let order : s.0 ⩽ after.0 = ⇑ ρ (search ring depth 9) (omega (arith, ⇓ ρ a (search ring depth 9))) in
        ≤_antisymm
        (⇑ ρ (search ring depth 9) (omega (arith, ⇓ ρ (count_no_faster w l s after order zone) (search ring depth 9), ⇓ ρ a (search ring depth 9))))
        (⊎_elim (λ (h : (count_in w s zone).0 +ℤ pos 1000 ⩽ (count_in w after zone).0). h) (λ (stays : Stays w s after zone). not_both is_inserted stays.plain) (on_or_stays w l s after (⇑ ρ (search ring depth 9) (omega (arith, ⇓ ρ a (search ring depth 9)))) zone))

    pub begins_the_day : floor_div (count_in w after (pos 0)).0 86400000 ≡ day w (suc i)
    begins_the_day =
        let c = (count_in w after (pos 0)).0 in
        let ρ = c ∷ (count_in w s (pos 0)).0 ∷ day w (suc i) ∷ [] in
        ≤_antisymm
        (floor_div_le {z = c} {q = day w (suc i)} 86400000 (omega arith) (⇑ ρ (search ring depth 9) (omega (arith, ⇓ ρ (count_after (pos 0)) (search ring depth 9), ⇓ ρ (count_to (pos 0)) (search ring depth 9)))))
        (floor_div_ge {z = c} {q = day w (suc i)} 86400000 (omega arith) (⇑ ρ (search ring depth 9) (omega (arith, ⇓ ρ (count_after (pos 0)) (search ring depth 9), ⇓ ρ (count_from (pos 0)) (search ring depth 9)))))

-- ---- any second
module _ (w : List ℤ) (l : leap_lawful w ≡ true) (s : Second) where
  -- it is an inserted one, or it is not
  pub inside_or_not : {X : Type 0} → ((i : ℕ) → Inside w i s → X) → (inserted w (tai s) ≡ false → X) → X
  inside_or_not f g =
      let i = entry_used w (tai s) in
      let u = used w (tai s) l in
      by_next w l (tai s) i u
      (λ m h. f i (record { lawful = l; listed = m; reached = h; to = not_yet w l (tai s) i u m }))
      (λ n. g (none_inserts w l (tai s) i u n))

  plain_count : (zone : ℤ) → inserted w (tai s) ≡ false → (count_in w s zone).0 ≡ (milli_in w s zone).0
  unfolding count_in milli_in read_off reading
  plain_count zone e = rw e

  pub day_stays : (zone : ℤ) → 0 < floor_mod zone 1440 → floor_div (count_in w s zone).0 86400000 ≡ floor_div (milli_in w s zone).0 86400000
  day_stays zone some = inside_or_not (λ i here. day_stays_inside here zone some) (λ e. ap (λ (c : ℤ). floor_div c 86400000) (plain_count zone e))

  -- an inserted second ends a minute
  pub ends_the_minute : inserted w (tai s) ≡ true → (zone : ℤ) → 59000 ≤ floor_mod (count_in w s zone).0 86400000 % 60000
  ends_the_minute e zone = inside_or_not (λ i here. at_the_end here zone) (λ f. not_both e f)
