-- Of two readings in order, the first is shown first: by the day, by the minute of the day, or by the second that is said. Assumes nothing.
use Rattle.std.specs.Prelude.{ℕ, ◌+◌, ◌/◌, ◌%◌, ◌<◌, ◌≤◌, ◌≡◌, refl, Bool, ℤ, ◌+ℤ◌, ◌*ℤ◌, ◌≤ℤ◌, ◌<ℤ◌}
use Rattle.std.proofs.Math.Path.{sym, ap}
use Rattle.std.proofs.Common.{◌∙◌}
use Rattle.std.proofs.Math.Bool.{true, false, cond}
use mathlib.Core.List.{List, [], ◌∷◌}
use Rattle.std.proofs.Math.Logic.{⊎_elim}
use native.Mathlib.Omega.{arith}
use Rattle.std.proofs.Math.Decide.{dec_lt}
use Rattle.std.proofs.Math.IntN.{pos}
use Rattle.whole.specs.Parts.{◌⩽◌, ◌≺◌, ℤ_rules}
use Rattle.whole.specs.Laws.{≤_total, ≤_antisymm, <→≤}
use Rattle.whole.specs.Solver.{⇑, ⇓, ring}
use Rattle.whole.specs.Floor.{floor_div, floor_mod}
use Rattle.whole.proofs.Floor.{floor_div_mono, floor_div_floor_mod}
use Rattle.whole.specs.Order.{first_by, less_first, same_then, same_not, not_both_first}
use Rattle.times.specs.declared.Second.{Second}
use Rattle.dates.specs.Calendar.{date_for}
use Rattle.dates.proofs.Order.{date_first, later_day_later_date, same_date_then, same_date_not, not_both_dates_first}
use Rattle.clock.specs.declared.ShownTime.{ShownTime}
use Rattle.clock.specs.Leap.{leap_lawful, inserted}
use Rattle.clock.specs.Clock.{tai, reading, count_in, day_of_milli, second_said, shown_by, shown_in}
use Rattle.clock.specs.Order.{shown_first}
use Rattle.clock.proofs.theory.Counts.{count_goes_on, Stays, on_or_stays}
use Rattle.clock.proofs.theory.Around.{Inside, is_inserted, at_the_end, count_before, plain_before, ends_the_minute}

-- ---- of two times, not both come first
pub not_both_shown_first : (t u : ShownTime) → shown_first t u ≡ true → shown_first u t ≡ false
unfolding shown_first
not_both_shown_first t u e =
    not_both_dates_first t.date u.date _ _
    (not_both_first _ _ _ _
    (not_both_first _ _ _ _
    (not_both_first _ _ _ _
    (not_both_first _ _ _ _ (λ f. refl)))))
    e

pub not_before_itself : (t : ShownTime) → shown_first t t ≡ false
unfolding shown_first
not_before_itself t = same_date_not t.date t.date _ refl (same_not _ _ _ refl (same_not _ _ _ refl (same_not _ _ _ refl (same_not _ _ _ refl refl))))

-- ---- by the numbers of two readings: days D and D', milliseconds r and r' of the day, seconds said and milliseconds
abbrev by_second : (second second' a b : ℕ) → Bool
by_second second second' a b = first_by (pos second) (pos second') (first_by (pos a) (pos b) false)

abbrev by_minute : (r r' second second' a b : ℕ) → Bool
by_minute r r' second second' a b = first_by (pos (r / 60000 % 60)) (pos (r' / 60000 % 60)) (by_second second second' a b)

abbrev by_hour : (r r' second second' a b : ℕ) → Bool
by_hour r r' second second' a b = first_by (pos (r / 3600000)) (pos (r' / 3600000)) (by_minute r r' second second' a b)

-- in one minute the second said is a later one
module _ (D D' : ℤ) (r r' second second' a b : ℕ) (order : pos 86400000 *ℤ D +ℤ pos r ⩽ pos 86400000 *ℤ D' +ℤ pos r') (days : D ⩽ D') (later_said : D ≡ D' → r / 60000 ≡ r' / 60000 → second < second') where
  module _ (e : D ≡ D') where
    in_order : r ≤ r'
    in_order = let ρ = D ∷ D' ∷ pos r ∷ pos r' ∷ [] in omega (arith, ⇓ ρ order (search ring depth 9), ⇓ ρ e (search ring depth 9))

    second_decides : r / 3600000 ≡ r' / 3600000 → r / 60000 % 60 ≡ r' / 60000 % 60 → by_second second second' a b ≡ true
    second_decides p q = let l = later_said e (omega (arith, p, q)) in less_first (pos second) (pos second') _ (omega ℤ_rules)

    minute_decides : r / 3600000 ≡ r' / 3600000 → by_minute r r' second second' a b ≡ true
    minute_decides p = go (dec_lt (r / 60000 % 60) (r' / 60000 % 60))
      where
        go : Dec (r / 60000 % 60 < r' / 60000 % 60) → by_minute r r' second second' a b ≡ true
        go (yes l) = less_first (pos (r / 60000 % 60)) (pos (r' / 60000 % 60)) _ (omega ℤ_rules)
        go (no l) = let q : r / 60000 % 60 ≡ r' / 60000 % 60 = omega (arith, p, in_order) in same_then (pos (r / 60000 % 60)) (pos (r' / 60000 % 60)) _ (ap pos q) (second_decides p q)

    hour_decides : by_hour r r' second second' a b ≡ true
    hour_decides = go (dec_lt (r / 3600000) (r' / 3600000))
      where
        go : Dec (r / 3600000 < r' / 3600000) → by_hour r r' second second' a b ≡ true
        go (yes l) = less_first (pos (r / 3600000)) (pos (r' / 3600000)) _ (omega ℤ_rules)
        go (no l) = let p : r / 3600000 ≡ r' / 3600000 = omega (arith, in_order) in same_then (pos (r / 3600000)) (pos (r' / 3600000)) _ (ap pos p) (minute_decides p)

  date_decides : date_first (date_for D) (date_for D') (by_hour r r' second second' a b) ≡ true
  date_decides =
      ⊎_elim (λ (l : D' ≤ℤ D). let e = ≤_antisymm days l in same_date_then (date_for D) (date_for D') _ (ap date_for e) (hour_decides e))
      (λ (l : D <ℤ D'). later_day_later_date D D' l _)
      (≤_total D' D)

-- ---- two seconds in order
module _ (w : List ℤ) (l : leap_lawful w ≡ true) (s s' : Second) (h : s.0 ≺ s'.0) (zone : ℤ) where
  abbrev c : ℤ
  c = (count_in w s zone).0

  abbrev c' : ℤ
  c' = (count_in w s' zone).0

  -- in the same minute the second said is a later one: either the count goes on by a second, or the later second is the sixtieth
  later_said : floor_div c 86400000 ≡ floor_div c' 86400000 → floor_mod c 86400000 / 60000 ≡ floor_mod c' 86400000 / 60000 → second_said (inserted w (tai s)) (floor_mod c 86400000) < second_said (inserted w (tai s')) (floor_mod c' 86400000)
  unfolding second_said
  later_said days minutes = ⊎_elim (λ (on : c +ℤ pos 1000 ⩽ c'). goes on (inserted w (tai s)) (inserted w (tai s')) refl) (λ (stay : Stays w s s' zone). rw (stay.plain, stay.sixtieth) (omega arith)) (on_or_stays w l s s' h zone)
    where
      goes : c +ℤ pos 1000 ⩽ c' → (x x' : Bool) → inserted w (tai s) ≡ x → cond x 60 (floor_mod c 86400000 / 1000 % 60) < cond x' 60 (floor_mod c' 86400000 / 1000 % 60)
      goes on x x' e =
          let ρ = c ∷ c' ∷ floor_div c 86400000 ∷ floor_div c' 86400000 ∷ pos (floor_mod c 86400000) ∷ pos (floor_mod c' 86400000) ∷ [] in
          let further : floor_mod c 86400000 + 1000 ≤ floor_mod c' 86400000 = omega (arith, ⇓ ρ on (search ring depth 9), ⇓ ρ days (search ring depth 9), ⇓ ρ (floor_div_floor_mod c 86400000 (omega arith)) (search ring depth 9), ⇓ ρ (floor_div_floor_mod c' 86400000 (omega arith)) (search ring depth 9)) in
          said x x' e further
        where
          said : (x x' : Bool) → inserted w (tai s) ≡ x → floor_mod c 86400000 + 1000 ≤ floor_mod c' 86400000 → cond x 60 (floor_mod c 86400000 / 1000 % 60) < cond x' 60 (floor_mod c' 86400000 / 1000 % 60)
          said true x' e further = absurd (omega (arith, minutes, ends_the_minute w l s e zone))
          said false true e further = omega arith
          said false false e further = omega (arith, minutes)

  pub shown_first_lem : shown_first (shown_in w s zone) (shown_in w s' zone) ≡ true
  unfolding shown_first shown_in shown_by day_of_milli count_in reading
  shown_first_lem =
      let rest = floor_mod c 86400000 in
      let rest' = floor_mod c' 86400000 in
      let order = count_goes_on w l s s' (<→≤ h) zone in
      let ρ = c ∷ c' ∷ floor_div c 86400000 ∷ floor_div c' 86400000 ∷ pos rest ∷ pos rest' ∷ [] in
      date_decides (floor_div c 86400000) (floor_div c' 86400000) rest rest' (second_said (inserted w (tai s)) rest) (second_said (inserted w (tai s')) rest') (rest % 1000) (rest' % 1000)
      (⇑ ρ (search ring depth 9) (omega (arith, ⇓ ρ order (search ring depth 9), ⇓ ρ (floor_div_floor_mod c 86400000 (omega arith)) (search ring depth 9), ⇓ ρ (floor_div_floor_mod c' 86400000 (omega arith)) (search ring depth 9))))
      (floor_div_mono 86400000 (omega arith) order)
      later_said

-- ---- an inserted second and the one before it
module _ {w : List ℤ} {i : ℕ} {s : Second} (here : Inside w i s) (before : Second) (b : before.0 +ℤ pos 1 ≡ s.0) (zone : ℤ) where
  alike : floor_mod (count_in w before zone).0 86400000 ≡ floor_mod (count_in w s zone).0 86400000
  alike = ap (λ (x : ℤ). floor_mod x 86400000) (count_before here before b zone)

  fifty_nine : second_said false (floor_mod (count_in w before zone).0 86400000) ≡ 59
  unfolding second_said
  fifty_nine = omega (arith, alike, at_the_end here zone)

  pub said_before : (shown_in w before zone).second ≡ 59
  unfolding shown_in shown_by count_in reading
  said_before = ap (λ (x : Bool). second_said x (floor_mod (count_in w before zone).0 86400000)) (plain_before here before b) ∙ fifty_nine

  pub said_inside : shown_in w s zone ≡ record { date = (shown_in w before zone).date; hour = (shown_in w before zone).hour; minute = (shown_in w before zone).minute; second = 60; millisecond = (shown_in w before zone).millisecond }
  unfolding shown_in shown_by second_said count_in reading
  said_inside = λ t. record {
    date = date_for (day_of_milli (record { 0 = sym (count_before here before b zone) t })).0;
    hour = sym alike t / 3600000;
    minute = sym alike t / 60000 % 60;
    second = said t;
    millisecond = sym alike t % 1000;
  }
    where
      said : (shown_in w s zone).second ≡ 60
      said = rw (is_inserted here)
