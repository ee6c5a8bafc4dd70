-- Segments that are shared, and marks that stay, on both sides of each bound. Three segments of the Sun, of which the middle one is corrected: marks 3 and 4, which lie
-- there, come a second later, and no other moves. Assumes nothing.
use Rattle.std.specs.Prelude.{◌≡◌, refl, List, [], ◌∷◌, ◌++◌, ℕ, ℤ, pos, nat_abs, get_or}
use Rattle.std.proofs.Common.{sym, ap, ◌∙◌, inl, inr, arith, lit<, lit≤}
use Rattle.std.specs.Int.Signed.{le_z_yes, lt_z_yes}
use Rattle.whole.specs.Floor.{floor_div}
use Rattle.refusals.specs.Search.{first_bad}
use Rattle.chebyshev.specs.Polynomials.{P}
use Rattle.chebyshev.specs.Segment.{sum, value, slope}
use Rattle.series.specs.declared.Body.TheVariants.{Sun}
use Rattle.series.specs.Series.{series, segment, value_at}
use Rattle.series.specs.Acceptance.{Accepted, series_judged}
use Rattle.series.specs.Examples.{three, sun_segment}
use Rattle.marks.specs.Marks.{index_at}
use Rattle.marks.specs.Listed.{first_reached, last_reached, second_of_mark, MarkAt}
use Rattle.marks.proofs.Theorems.{located_nowhere_else}
use Rattle.corrected.specs.Shared.{Shared, Stays}
use Rattle.corrected.specs.theory.Compared.{SameBefore, none_before, one_before, none_behind, one_behind}
use Rattle.corrected.specs.theory.Kept.{stays_outside}

-- the old coefficients, those with another middle, those without the last segment, those with one more, and those with a word more
abbrev last : List ℤ
last = three (pos 2764800100) (pos 552960000) (pos 0)

abbrev old : List ℤ
old = sun_segment ++ three (pos 1658880100) (pos 552960000) (pos 0) ++ last

abbrev new : List ℤ
new = sun_segment ++ three (pos 1658879900) (pos 552960000) (pos 0) ++ last

abbrev fewer : List ℤ
fewer = sun_segment ++ three (pos 1658880100) (pos 552960000) (pos 0)

abbrev more : List ℤ
more = old ++ last

abbrev ragged : List ℤ
ragged = old ++ pos 1 ∷ []

-- ---- the middle segment alone
pub middle_changed : Shared old new 1 2
middle_changed = record {
  in_order = lit≤ tt;
  inside = lit≤ tt;
  before = one_before old new 0 (none_before old new) (lit< tt, refl);
  behind = one_behind old new 3 (lit< tt) (none_behind old new) (lit< tt, refl);
}

-- more may be counted in, up to all
pub all_counted_in : Shared old new 0 3
all_counted_in = record { in_order = lit≤ tt; inside = lit≤ tt; before = none_before old new; behind = none_behind old new }

-- but not less: the middle one differs, neither before a segment 2 nor from a segment 1 on
differs : segment new 1 ≡ segment old 1 → ⊥
differs e = let same : ◌≡◌ {A = ℕ} 1658879900 1658880100 = ap (λ (part : List ℤ). nat_abs (get_or part 0 (pos 0))) e in omega arith

pub not_before_2 : Shared old new 2 2 → ⊥
not_before_2 h = differs (h.before 1 (lit< tt)).1

pub not_behind_1 : Shared old new 1 1 → ⊥
not_behind_1 h = differs (h.behind 1 (lit≤ tt) (lit< tt)).1

-- nor in another order, nor past the last segment
pub in_order_only : Shared old new 2 1 → ⊥
in_order_only h = let l = h.in_order in omega arith

pub inside_only : Shared old new 1 4 → ⊥
inside_only h = let l = h.inside in omega arith

-- ---- nothing changed; a segment less; a segment more, which the old ones do not have; a word more, which is no segment
pub nothing_changed : Shared old old 3 3
nothing_changed = record { in_order = lit≤ tt; inside = lit≤ tt; before = λ k h. (h, refl); behind = none_behind old old }

pub last_taken_away : Shared old fewer 2 2
last_taken_away = record {
  in_order = lit≤ tt;
  inside = lit≤ tt;
  before = one_before old fewer 1 (one_before old fewer 0 (none_before old fewer) (lit< tt, refl)) (lit< tt, refl);
  behind = none_behind old fewer;
}

-- three segments are the same, as they are of any list that begins with the old one
three_same : (new : List ℤ) → segment new 0 ≡ segment old 0 → segment new 1 ≡ segment old 1 → segment new 2 ≡ segment old 2 → SameBefore old new 3
three_same new p q r = one_before old new 2 (one_before old new 1 (one_before old new 0 (none_before old new) (lit< tt, p)) (lit< tt, q)) (lit< tt, r)

pub last_added : Shared old more 3 4
last_added = record { in_order = lit≤ tt; inside = lit≤ tt; before = three_same more refl refl refl; behind = none_behind old more }

pub added_is_not_shared : Shared old more 4 4 → ⊥
added_is_not_shared h = let l = (h.before 3 (lit< tt)).0 in omega arith

pub added_is_not_behind : Shared old more 3 3 → ⊥
added_is_not_behind h = let l = (h.behind 3 (lit≤ tt) (lit< tt)).0 in omega arith

pub word_added : Shared old ragged 3 3
word_added = record { in_order = lit≤ tt; inside = lit≤ tt; before = three_same ragged refl refl refl; behind = none_behind old ragged }

-- ---- marks: 2 is reached before the middle segment, and 4 by the first second of the one behind it
old_accepted : Accepted (series Sun (pos 0) old)
unfolding series_judged value slope sum P floor_div first_bad
old_accepted = refl

new_accepted : Accepted (series Sun (pos 0) new)
unfolding series_judged value slope sum P floor_div first_bad
new_accepted = refl

pub others_stay : Stays (series Sun (pos 0) old) (series Sun (pos 0) new) (pos 2) (pos 4)
unfolding value_at value sum P floor_div index_at
others_stay = stays_outside Sun (pos 0) old new 1 2 old_accepted new_accepted middle_changed

-- before the first segment none is reached behind the first second, and behind the last segment all are
pub none_known_to_stay : Stays (series Sun (pos 0) old) (series Sun (pos 0) new) (pos 0) (pos 6)
unfolding value_at value sum P floor_div index_at
none_known_to_stay = stays_outside Sun (pos 0) old new 0 3 old_accepted new_accepted all_counted_in

pub all_stay : Stays (series Sun (pos 0) old) (series Sun (pos 0) old) (pos 6) (pos 6)
unfolding value_at value sum P floor_div index_at
all_stay = stays_outside Sun (pos 0) old old 3 3 old_accepted old_accepted nothing_changed

-- marks 3 and 4 do not stay
old_at_3 : MarkAt (series Sun (pos 0) old) (pos 3) (pos 4050000)
unfolding value_at value sum P floor_div
old_at_3 = record { after_first = lt_z_yes tt; by_last = le_z_yes tt; less_before = lt_z_yes tt; reached_here = le_z_yes tt }

new_at_3 : MarkAt (series Sun (pos 0) new) (pos 3) (pos 4050001)
unfolding value_at value sum P floor_div
new_at_3 = record { after_first = lt_z_yes tt; by_last = le_z_yes tt; less_before = lt_z_yes tt; reached_here = le_z_yes tt }

old_at_4 : MarkAt (series Sun (pos 0) old) (pos 4) (pos 5400000)
unfolding value_at value sum P floor_div
old_at_4 = record { after_first = lt_z_yes tt; by_last = le_z_yes tt; less_before = lt_z_yes tt; reached_here = le_z_yes tt }

new_at_4 : MarkAt (series Sun (pos 0) new) (pos 4) (pos 5400001)
unfolding value_at value sum P floor_div
new_at_4 = record { after_first = lt_z_yes tt; by_last = le_z_yes tt; less_before = lt_z_yes tt; reached_here = le_z_yes tt }

first_is : first_reached (series Sun (pos 0) new) ≡ pos 0
unfolding value_at value sum P floor_div index_at
first_is = refl

last_is : last_reached (series Sun (pos 0) new) ≡ pos 6
unfolding value_at value sum P floor_div index_at
last_is = refl

-- a mark that stays is at one second
one_second : (j t u : ℤ) → MarkAt (series Sun (pos 0) new) j t → MarkAt (series Sun (pos 0) old) j u → second_of_mark (series Sun (pos 0) new) j ≡ second_of_mark (series Sun (pos 0) old) j → t ≡ u
one_second j t u c d kept = located_nowhere_else (series Sun (pos 0) new) new_accepted j t c ∙ kept ∙ sym (located_nowhere_else (series Sun (pos 0) old) old_accepted j u d)

pub mark_3_moves : Stays (series Sun (pos 0) old) (series Sun (pos 0) new) (pos 3) (pos 4) → ⊥
mark_3_moves h =
    let kept = (h.stays (pos 3) (rw first_is (lt_z_yes tt)) (rw last_is (le_z_yes tt)) (inl (le_z_yes tt))).2 in
    let same : ◌≡◌ {A = ℕ} 4050001 4050000 = ap nat_abs (one_second (pos 3) (pos 4050001) (pos 4050000) new_at_3 old_at_3 kept) in
    omega arith

pub mark_4_moves : Stays (series Sun (pos 0) old) (series Sun (pos 0) new) (pos 2) (pos 3) → ⊥
mark_4_moves h =
    let kept = (h.stays (pos 4) (rw first_is (lt_z_yes tt)) (rw last_is (le_z_yes tt)) (inr (lt_z_yes tt))).2 in
    let same : ◌≡◌ {A = ℕ} 5400001 5400000 = ap nat_abs (one_second (pos 4) (pos 5400001) (pos 5400000) new_at_4 old_at_4 kept) in
    omega arith
