-- What the two loops of the walk hold: how they start, one turn, and how they end. Assumes nothing.
use Rattle.std.specs.Prelude.{◌≡◌, ℕ, ◌+◌, ◌*◌, ◌≤◌, ◌<◌, ℤ, pos, ◌+ℤ◌, ◌≤ℤ◌, ◌<ℤ◌, length, drop, set}
use Rattle.std.proofs.Common.{sym, ◌∙◌, arith, zero-add}
use Rattle.std.proofs.Math.Path.{ap}
use mathlib.Core.List.{List, [], ◌∷◌, ◌++◌}
use Rattle.whole.specs.Parts.{ℤ_rules, parts_add}
use Rattle.whole.specs.Lists.{placed, placed_none, placed_both, placed_length, two_put}
use Rattle.whole.specs.Distance.{distance_from, one_nearer}
use Rattle.series.specs.Bodies.{numbers}
use Rattle.series.specs.Series.{Series, InSpan, value_at, last_second}
use Rattle.series.specs.Acceptance.{Accepted}
use Rattle.series.proofs.theory.Span.{start_in_span, span_few}
use Rattle.marks.specs.Marks.{Mark}
use Rattle.marks.specs.Crossings.{marked}
use Rattle.marks.specs.Listed.{marks_between, listed_marks, reached_at}
use Rattle.marks.specs.Words.{mark_words}
use Rattle.marks.proofs.theory.StretchLaws.{few}
use Rattle.marks.proofs.theory.Words.{words_length}
use Rattle.walk.specs.Visits.{next_listed, next_not_listed, over}

-- where the walk stands: at a second of the span, knowing how many marks are reached there
pub record Standing (s : Series) (second reached : ℤ) : Type 0 where
  pub in_span : InSpan s second
  pub knows : reached ≡ reached_at s second

-- what the seconds behind it list
abbrev pub rest : Series → ℤ → List Mark
rest s second = marks_between s second (last_second s)

-- what the first loop holds there: the marks so far and those of the rest are all
pub record Counted (s : Series) (second reached : ℤ) (count : ℕ) : Type 0 where
  pub stands : Standing s second reached
  pub all : count + length (rest s second) ≡ length (listed_marks s)

-- what the second holds: the words so far end at `end`, and with those of the rest put behind them the slice is what is wanted
pub record Written (s : Series) (second reached : ℤ) (end : ℕ) (out wanted : List ℤ) : Type 0 where
  pub stands : Standing s second reached
  pub room : end + length (mark_words (rest s second)) ≤ length out
  pub all : placed end (mark_words (rest s second)) out ≡ wanted

-- ---- the first second
module _ (s : Series) (e : Accepted s) {reached : ℤ} (knows : reached ≡ reached_at s s.start) where
  stands_first : Standing s s.start reached
  stands_first = record { in_span = start_in_span s e; knows = knows }

  pub counted_none : Counted s s.start reached 0
  counted_none = record { stands = stands_first; all = zero-add (length (listed_marks s)) }

  pub written_none : (out : List ℤ) → 2 * length (listed_marks s) ≤ length out → Written s s.start reached 0 out (mark_words (listed_marks s) ++ drop (2 * length (listed_marks s)) out)
  written_none out room =
      let size = words_length (listed_marks s) in
      let behind : 0 + length (mark_words (listed_marks s)) ≡ 2 * length (listed_marks s) = omega arith in
      record { stands = stands_first; room = omega arith; all = ap (λ (k : ℕ). mark_words (listed_marks s) ++ drop k out) behind }

-- ---- a turn: a second is left
module _ {s : Series} {before reached : ℤ} (stands : Standing s before reached) (left : before <ℤ last_second s) where
  pub next_in_span : InSpan s (before +ℤ pos 1)
  next_in_span =
      let from = stands.in_span.from_start in
      let p = parts_add before (pos 1) in
      record { from_start = omega ℤ_rules; to_last = omega ℤ_rules }

  pub falls : distance_from (before +ℤ pos 1) (last_second s) < distance_from before (last_second s)
  falls = let n = one_nearer left in omega arith

  module _ {index : ℤ} (knows : index ≡ reached_at s (before +ℤ pos 1)) where
    stands_next : Standing s (before +ℤ pos 1) index
    stands_next = record { in_span = next_in_span; knows = knows }

    -- "if the value has reached more marks than the second before"
    module _ (more : reached <ℤ index) where
      lists : rest s before ≡ marked index (before +ℤ pos 1) ∷ rest s (before +ℤ pos 1)
      lists = rw knows (next_listed (value_at s) (numbers s.body).mark_size left (rw (stands.knows, knows) at more))

      pub counted_more : {count : ℕ} → Counted s before reached count → Counted s (before +ℤ pos 1) index (count + 1)
      counted_more c =
          let n = ap length lists in
          let a = c.all in
          record { stands = stands_next; all = omega arith }

      words : mark_words (rest s before) ≡ index ∷ (before +ℤ pos 1) ∷ mark_words (rest s (before +ℤ pos 1))
      unfolding mark_words
      words = ap mark_words lists

      pub room_for_one : {end : ℕ} {out wanted : List ℤ} → Written s before reached end out wanted → end + 2 ≤ length out
      room_for_one w =
          let n = ap length words in
          let r = w.room in
          omega arith

      pub written_more : {end : ℕ} {out wanted : List ℤ} → Written s before reached end out wanted → Written s (before +ℤ pos 1) index (end + 2) (set (set out end index) (end + 1) (before +ℤ pos 1)) wanted
      written_more {end} {out} {wanted} w =
          let n = ap length words in
          let r = w.room in
          let mark : List ℤ = index ∷ (before +ℤ pos 1) ∷ [] in
          let long : length (placed end mark out) ≡ length out = placed_length out mark end (room_for_one w) in
          rw (two_put out end index (before +ℤ pos 1) (room_for_one w))
          (record {
            stands = stands_next;
            room = omega arith;
            all = placed_both out mark end (mark_words (rest s (before +ℤ pos 1))) (omega arith) ∙ ap (λ (x : List ℤ). placed end x out) (sym words) ∙ w.all;
          })

    -- and if not
    module _ (none : index ≤ℤ reached) where
      lists_nothing : rest s before ≡ rest s (before +ℤ pos 1)
      lists_nothing = next_not_listed (value_at s) (numbers s.body).mark_size left (rw (stands.knows, knows) at none)

      pub counted_same : {count : ℕ} → Counted s before reached count → Counted s (before +ℤ pos 1) index count
      counted_same {count} c = record { stands = stands_next; all = ap (λ (l : List Mark). count + length l) (sym lists_nothing) ∙ c.all }

      pub written_same : {end : ℕ} {out wanted : List ℤ} → Written s before reached end out wanted → Written s (before +ℤ pos 1) index end out wanted
      written_same {end} {out} w =
          let same = ap mark_words (sym lists_nothing) in
          record { stands = stands_next; room = rw same w.room; all = ap (λ (l : List ℤ). placed end l out) same ∙ w.all }

-- a span has few seconds, so the marks that are counted are few
pub marks_few : {s : Series} {second reached : ℤ} {count : ℕ} → Accepted s → Counted s second reached count → count < 5529600000
marks_few {s} e c =
    let seconds = span_few s e in
    let marks-in-it = few (value_at s) (numbers s.body).mark_size s.start (last_second s) in
    let a = c.all in
    omega arith

-- ---- the last second
module _ {s : Series} {second reached : ℤ} (none_left : last_second s ≤ℤ second) where
  nothing : Standing s second reached → rest s second ≡ []
  nothing stands = over (value_at s) (numbers s.body).mark_size stands.in_span.to_last none_left

  pub counted_all : {count : ℕ} → Counted s second reached count → count ≡ length (listed_marks s)
  counted_all c =
      let n = ap length (nothing c.stands) in
      let a = c.all in
      omega arith

  pub written_all : {end : ℕ} {out wanted : List ℤ} → Written s second reached end out wanted → out ≡ wanted
  unfolding mark_words
  written_all {end} {out} w =
      placed_none out end ∙ ap (λ (l : List Mark). placed end (mark_words l) out) (sym (nothing w.stands)) ∙ w.all
