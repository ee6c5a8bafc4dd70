-- Which of a series' listed marks are its turns, and their days: the listed marks are those of consecutive indices, the turns come once a circle among them, and
-- their days rise. Assumes nothing.
use Rattle.std.specs.Prelude.{◌≡◌, refl, List, [], ◌∷◌, ℕ, zero, suc, ◌*◌, ◌/◌, ◌≤◌, ◌<◌, ℤ, ◌+ℤ◌, ◌≤ℤ◌, ◌<ℤ◌}
use Rattle.std.proofs.Common.{sym, ap₂, ◌∙◌, arith, mul-le-mul_left, mul-le-mul_right}
use Rattle.std.proofs.Math.Path.{ap}
use Rattle.std.proofs.Math.Nat.{mul-lt-mul_of_pos_left}
use borrow.Author.Tests.{eqb-true, eq-eqb}
use Rattle.std.proofs.Math.IntN.{pos}
use Rattle.whole.specs.Floor.{floor_mod}
use Rattle.whole.specs.Distance.{distance_from, distance_is, next}
use Rattle.whole.specs.Solver.{⇑, ⇓, ring}
use Rattle.whole.specs.Tabulated.{tabulate}
use Rattle.series.specs.Series.{Series}
use Rattle.series.specs.Acceptance.{Accepted}
use Rattle.marks.specs.Marks.{Mark}
use Rattle.marks.specs.Crossings.{marked, numbered}
use Rattle.marks.specs.Listed.{listed_marks, first_reached, last_reached, second_of_mark}
use Rattle.marks.proofs.Theorems.{listed_by_index}
use Rattle.marks.proofs.theory.Nth.{indices_ordered, marks_length, marks_few}
use Rattle.inputs.specs.Inputs.{day_of_mark}
use Rattle.inputs.specs.Known.{Ready}
use Rattle.inputs.proofs.Theorems.{mark_days_rise}
use Rattle.whole.specs.Selected.{select, tabulate_same, tabulate_cons, Passing, selected}
use Rattle.turns.specs.theory.Counting.{Rises, by}
use Rattle.turns.specs.Turns.{turn_of, circle_of, some_circle, is_turn, gap, first_turn, turn_index, place_of, at_place, is_turn_lem, turn_is, turns_up_to, turn_up_to, up_to_turn}

-- marks by their indices, as the first values of a function
pub numbered_is : (at : ℤ → ℤ) (j : ℤ) (n : ℕ) → numbered at j n ≡ tabulate (λ k. marked (j +ℤ pos k) (at (j +ℤ pos k))) n
unfolding numbered
numbered_is at j zero = refl
numbered_is at j (suc n) =
    let here : j ≡ j +ℤ pos 0 = ⇑ (j ∷ []) (search ring depth 9) refl in
    ap₂ ◌∷◌ (ap (λ (x : ℤ). marked x (at x)) here)
    (numbered_is at (j +ℤ pos 1) n ∙ tabulate_same n (λ k h. ap (λ (x : ℤ). marked x (at x)) (sym (next j k))))
    ∙ sym (tabulate_cons (λ k. marked (j +ℤ pos k) (at (j +ℤ pos k))) n)

module _ (s : Series) where
  -- mark j of the series
  abbrev pub mark_of : ℤ → Mark
  mark_of j = marked j (second_of_mark s j)

  -- the series' turns: the first, the k-th, and how many
  abbrev pub first_turn_of : ℤ
  first_turn_of = first_turn s.body (first_reached s)

  abbrev pub turn_index_of : ℕ → ℤ
  turn_index_of k = turn_index s.body (first_reached s) k

  abbrev pub turns_of : ℕ
  turns_of = turns_up_to s.body first_turn_of (last_reached s)

  -- the place of the k-th among the listed marks
  abbrev pub place_in : ℕ → ℕ
  place_in k = place_of s.body (first_reached s) k

  pub places_rise : (j k : ℕ) → j < k → place_in j < place_in k
  places_rise j k h = omega (arith, mul-lt-mul_of_pos_left {m = j} {n = k} {k = circle_of s.body} h (some_circle s.body))

  pub turn_after : (k : ℕ) → first_reached s <ℤ turn_index_of k
  turn_after k = let ρ = first_reached s ∷ pos (gap s.body (first_reached s)) ∷ pos (circle_of s.body * k) ∷ [] in ⇑ ρ (search ring depth 9) (omega arith)

  pub turns_in_order : (i k : ℕ) → i ≤ k → turn_index_of i ≤ℤ turn_index_of k
  turns_in_order i k h =
      let q = circle_of s.body in
      let ρ = first_reached s ∷ pos (gap s.body (first_reached s)) ∷ pos (q * i) ∷ pos (q * k) ∷ [] in
      let up = mul-le-mul_left {m = i} {n = k} q h in
      ⇑ ρ (search ring depth 9) (omega (arith, up))

  pub turn_by_last : (k : ℕ) → k < turns_of → turn_index_of k ≤ℤ last_reached s
  turn_by_last k h = turn_up_to s.body first_turn_of (last_reached s) k h

module _ (s : Series) (e : Accepted s) where
  -- how many marks are listed, and the k-th
  abbrev pub listed : ℕ
  listed = distance_from (first_reached s) (last_reached s)

  abbrev pub nth : ℕ → Mark
  nth k = mark_of s (first_reached s +ℤ pos 1 +ℤ pos k)

  pub listed_is : listed_marks s ≡ tabulate nth listed
  listed_is = listed_by_index s e ∙ numbered_is (second_of_mark s) (first_reached s +ℤ pos 1) listed

  -- an index that is not larger than the last is that of a listed place
  pub place_listed : (i : ℕ) → (first_reached s +ℤ pos 1 +ℤ pos i) ≤ℤ last_reached s → i < listed
  place_listed i h =
      let ρ = first_reached s ∷ last_reached s ∷ pos i ∷ pos listed ∷ [] in
      omega (arith, ⇓ ρ (distance_is (indices_ordered s e)) (search ring depth 9), ⇓ ρ h (search ring depth 9))

  pub listed_place : (i : ℕ) → i < listed → (first_reached s +ℤ pos 1 +ℤ pos i) ≤ℤ last_reached s
  listed_place i h =
      let ρ = first_reached s ∷ last_reached s ∷ pos i ∷ pos listed ∷ [] in
      ⇑ ρ (search ring depth 9) (omega (arith, ⇓ ρ (distance_is (indices_ordered s e)) (search ring depth 9)))

  turns_pass : Passing (is_turn s.body) nth (place_in s) listed (turns_of s)
  unfolding is_turn
  turns_pass =
      record {
        inside = λ k h. place_listed (place_in s k) (rw (at_place s.body (first_reached s) k) (turn_by_last s k h));
        pass = λ k h. eq-eqb (floor_mod (first_reached s +ℤ pos 1 +ℤ pos (place_in s k)) (circle_of s.body)) (turn_of s.body) (rw (at_place s.body (first_reached s) k) (is_turn_lem s.body (first_reached s) k));
        no_others = λ i h t. found i h (eqb-true (floor_mod (first_reached s +ℤ pos 1 +ℤ pos i) (circle_of s.body)) (turn_of s.body) t);
      }
    where
      found : (i : ℕ) → i < listed → floor_mod (first_reached s +ℤ pos 1 +ℤ pos i) (circle_of s.body) ≡ turn_of s.body → (k : ℕ) × (k < turns_of s) × (place_in s k ≡ i)
      found i h t =
          let k = i / circle_of s.body in
          let at : place_in s k ≡ i = turn_is s.body (first_reached s) i t in
          let index : first_reached s +ℤ pos 1 +ℤ pos i ≡ turn_index_of s k = ap (λ (p : ℕ). first_reached s +ℤ pos 1 +ℤ pos p) (sym at) ∙ at_place s.body (first_reached s) k in
          (k, up_to_turn s.body (first_turn_of s) (last_reached s) k (rw index at (listed_place i h)), at)

  -- the listed turns are the marks of those indices
  pub turns_listed : select (is_turn s.body) (listed_marks s) ≡ tabulate (λ k. mark_of s (turn_index_of s k)) (turns_of s)
  turns_listed =
      ap (select (is_turn s.body)) listed_is ∙ selected (is_turn s.body) nth (place_in s) (places_rise s) listed (turns_of s) turns_pass
      ∙ tabulate_same (turns_of s) (λ k h. ap (mark_of s) (at_place s.body (first_reached s) k))

  pub turns_few : turns_of s ≤ 2000200000000000
  turns_few = go (turns_of s) refl
    where
      go : (n : ℕ) → turns_of s ≡ n → n ≤ 2000200000000000
      go zero q = omega arith
      go (suc n) q =
          let last : n < turns_of s = omega arith in
          let place = place_listed (place_in s n) (rw (at_place s.body (first_reached s) n) (turn_by_last s n last)) in
          let some = some_circle s.body in
          let more : 1 * n ≤ circle_of s.body * n = mul-le-mul_right n (omega arith) in
          omega (arith, marks_few s e, marks_length s e)

-- ---- days
module _ (leap : List ℤ) (s : Series) (zone : ℤ) where
  abbrev pub turn_day : ℕ → ℤ
  turn_day k = (day_of_mark leap s zone (turn_index_of s k)).0

  -- the days of the turns, in turn
  abbrev pub turn_days : List ℤ
  turn_days = tabulate turn_day (turns_of s)

  pub turn_days_rise : Ready leap s → Rises turn_day (turns_of s)
  turn_days_rise r i k h l = mark_days_rise leap s r (turn_index_of s i) (turn_index_of s k) (turn_after s i) (turns_in_order s i k h) (turn_by_last s k l) zone

  -- how many have a day not after a day
  abbrev pub turns_by : ℤ → ℕ
  turns_by day = by turn_day day (turns_of s)
