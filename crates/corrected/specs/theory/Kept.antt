-- Which marks of a corrected series keep their second, where both series begin at one: whether a mark is at a second depends on the values there and at the second
-- before alone. Assumes nothing.
use Rattle.std.specs.Prelude.{◌≡◌, refl, Bool, true, false, cond, List, ℕ, zero, suc, ltb, ℤ, pos, ◌-ℤ◌, ◌≤ℤ◌, ◌<ℤ◌}
use Rattle.std.proofs.Common.{⊎_elim, arith, ltb-true}
use Rattle.whole.specs.Parts.{ℤ_rules, →≤}
use Rattle.whole.specs.Laws.{≤_trans, ≤-<_trans, <→≤, ≤_total}
use Rattle.whole.specs.Distance.{clash, one_before}
use Rattle.series.specs.declared.Body.{Body}
use Rattle.series.specs.Bodies.{numbers}
use Rattle.series.specs.Series.{Series, series, segments, segment_start, last_second, segment_at, value_at}
use Rattle.series.specs.Acceptance.{Accepted}
use Rattle.series.specs.Rising.{Rising}
use Rattle.series.proofs.Theorems.{accepted_rises}
use Rattle.series.proofs.theory.Span.{segment_in_span}
use Rattle.marks.specs.Listed.{reached_at, first_reached, last_reached, second_of_mark, MarkAt}
use Rattle.marks.proofs.Theorems.{located_crossing, located_nowhere_else}
use Rattle.marks.proofs.theory.Indices.{reaches, not_reached, index_mono}
use Rattle.marks.proofs.theory.Located.{side}
use Rattle.corrected.specs.Shared.{Shared, Stays}
use Rattle.corrected.specs.theory.Compared.{SameAt}
use Rattle.corrected.specs.theory.Values.{lies_before, lies_from, before_lies, same_value, first_in_span, last_in_span}

-- the marks that are reached before segment k, and by its first second; before the first segment those of the first second, behind the last all
abbrev pub reached_before : Series → ℕ → ℤ
reached_before s zero = first_reached s
reached_before s (suc k) = reached_at s (segment_start s (suc k) -ℤ pos 1)

pub reached_before_some : (s : Series) (k : ℕ) → (k ≡ 0 → ⊥) → reached_at s (segment_start s k -ℤ pos 1) ≡ reached_before s k
reached_before_some s zero some = absurd (some refl)
reached_before_some s (suc k) some = refl

abbrev pub reached_from : Series → ℕ → ℤ
reached_from s k = cond (ltb k (segments s.coefs)) (reached_at s (segment_start s k)) (last_reached s)

-- ---- a mark that is at a second is one of those that are listed
module _ (s : Series) (e : Accepted s) where
  rising : Rising (value_at s) s.start (last_second s) (numbers s.body).mark_size
  rising = accepted_rises s e

  mark_is_listed : (j second : ℤ) → MarkAt s j second → (first_reached s <ℤ j) × (j ≤ℤ last_reached s)
  mark_is_listed j second c =
      let x = c.after_first in
      let y = c.by_last in
      let z = one_before second in (
        ≤-<_trans (index_mono rising (→≤ (omega arith)) (omega ℤ_rules) (omega ℤ_rules)) (not_reached (value_at s) (numbers s.body).mark_size rising.some_mark j (second -ℤ pos 1) c.less_before),
        ≤_trans (reaches (value_at s) (numbers s.body).mark_size rising.some_mark j second c.reached_here) (index_mono rising (<→≤ x) y (→≤ (omega arith))),
      )

module _ (body : Body) (start : ℤ) (old new : List ℤ) (first end : ℕ) (e : Accepted (series body start old)) (f : Accepted (series body start new)) (shared : Shared old new first end) where
  abbrev earlier : Series
  earlier = series body start old

  abbrev later : Series
  later = series body start new

  -- ---- one mark
  module _ (j second : ℤ) (c : MarkAt later j second) where
    kept : SameAt old new (segment_at later (second -ℤ pos 1)) → SameAt old new (segment_at later second) → (first_reached earlier <ℤ j) × (j ≤ℤ last_reached earlier) × (second ≡ second_of_mark earlier j)
    kept last here = let listed = mark_is_listed earlier e j second there in (listed.0, listed.1, located_nowhere_else earlier e j second there)
      where
        there : MarkAt earlier j second
        there = record {
          after_first = c.after_first;
          by_last = before_lies earlier (<→≤ c.after_first) (segments old) here.0;
          less_before = rw (same_value body start old new (second -ℤ pos 1) last) at c.less_before;
          reached_here = rw (same_value body start old new second here) at c.reached_here;
        }

    from_start : start ≤ℤ (second -ℤ pos 1)
    from_start = let x = c.after_first in let z = one_before second in omega ℤ_rules

    -- by a second before segment `first`
    kept_before : second <ℤ segment_start later first → (first_reached earlier <ℤ j) × (j ≤ℤ last_reached earlier) × (second ≡ second_of_mark earlier j)
    kept_before h =
        let z = one_before second in
        kept (shared.before (segment_at later (second -ℤ pos 1)) (lies_before later from_start first (omega ℤ_rules))) (shared.before (segment_at later second) (lies_before later (<→≤ c.after_first) first h))

    -- behind the first second of segment `end`
    kept_behind : segment_start later end <ℤ second → (first_reached earlier <ℤ j) × (j ≤ℤ last_reached earlier) × (second ≡ second_of_mark earlier j)
    kept_behind h =
        let z = one_before second in
        let y = c.by_last in
        kept
        (shared.behind (segment_at later (second -ℤ pos 1)) (lies_from later from_start end (omega ℤ_rules)) (segment_in_span later f (record { from_start = from_start; to_last = omega ℤ_rules })))
        (shared.behind (segment_at later second) (lies_from later (<→≤ c.after_first) end (<→≤ h)) (segment_in_span later f (record { from_start = <→≤ c.after_first; to_last = y })))

  -- ---- all of them
  module _ (j : ℤ) (l : first_reached later <ℤ j) (h : j ≤ℤ last_reached later) where
    abbrev second : ℤ
    second = second_of_mark later j

    at_second : MarkAt later j second
    at_second = located_crossing later f j l h

    abbrev Kept : Type 0
    Kept = (first_reached earlier <ℤ j) × (j ≤ℤ last_reached earlier) × (second ≡ second_of_mark earlier j)

    front : (k : ℕ) → first ≡ k → j ≤ℤ reached_before later k → Kept
    front zero p low = absurd (clash l low)
    front (suc k) p low =
        let i = last_in_span later f {k = suc k} (omega (arith, shared.in_order, shared.inside)) (omega arith) in
        let by = (side (accepted_rises later f) j second (segment_start later (suc k) -ℤ pos 1) at_second i.from_start i.to_last).1 low in
        let z = one_before (segment_start later (suc k)) in
        kept_before j second at_second (rw p (omega ℤ_rules))

    rear : (b : Bool) → ltb end (segments new) ≡ b → cond b (reached_at later (segment_start later end)) (last_reached later) <ℤ j → Kept
    rear false p high = absurd (clash high h)
    rear true p high =
        let inside = ltb-true end (segments new) p in
        let i = first_in_span later f {k = end} (omega arith) inside in
        kept_behind j second at_second
        (⊎_elim
        (λ (k : second ≤ℤ segment_start later end). absurd (clash high ((side (accepted_rises later f) j second (segment_start later end) at_second i.from_start i.to_last).0 k)))
        (λ (k : segment_start later end <ℤ second). k)
        (≤_total second (segment_start later end)))

  pub stays_outside : Stays earlier later (reached_before later first) (reached_from later end)
  stays_outside = record { stays = λ j l h outside. ⊎_elim (front j l h first refl) (rear j l h (ltb end (segments new)) refl) outside }
