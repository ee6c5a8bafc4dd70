-- What the finder uses of a stretch: its halves are stretches, shorter, with room that adds up; and where it stops. Assumes nothing.
use mathlib.Core.Path.{◌≡◌, refl, sym, ap, ap₂, ◌∙◌}
use mathlib.Core.Logic.{⊎_elim}
use mathlib.Core.List.{[], ◌∷◌, ◌++◌}
use Prim.Native.Nat.{ℕ, zero, suc, ◌+◌, ◌*◌, ◌-◌, ◌/◌, ◌^◌, ◌≤◌, ◌<◌}
use native.Mathlib.Omega.{arith}
use lib.ListN.{length}
use lib.IntN.{ℤ, pos, ◌+ℤ◌}
use lib.Signed.{◌≤ℤ◌, ◌<ℤ◌}
use Rattle.whole.specs.Parts.{ℤ_rules, →≤, →≡, parts_add}
use Rattle.whole.specs.Laws.{≤_antisymm, <→≤, ≤_total}
use Rattle.whole.specs.Distance.{distance_from, lies_after, distance_of, distances_add, distance_positive}
use Rattle.series.specs.Rising.{Rising}
use Rattle.series.specs.Series.{Series, last_second}
use Rattle.series.specs.Acceptance.{Accepted}
use Rattle.series.proofs.Theorems.{accepted_rises}
use Rattle.series.proofs.theory.Span.{span_ordered, span_few}
use Rattle.marks.specs.Marks.{index_at, marks}
use Rattle.marks.proofs.theory.Indices.{index_mono}
use Rattle.marks.proofs.theory.StretchLaws.{joined, none, neighbours, length_is, few}
use Rattle.marks.specs.Words.{mark_words}
use Rattle.marks.proofs.theory.Words.{words_append}
use Rattle.marks.specs.Stretch.{Stretch, StretchOf}
use Rattle.marks.specs.Listed.{first_reached, last_reached}

-- a second strictly inside a stretch
pub record Inside (lo hi middle : ℤ) : Type 0 where
  pub after_lo : lo <ℤ middle
  pub before_hi : middle <ℤ hi

more_than_one : (n : ℕ) → 0 < n → (n ≡ 1 → ⊥) → 1 < n
more_than_one zero h ne = absurd (omega arith)
more_than_one (suc zero) h ne = absurd (ne refl)
more_than_one (suc (suc n)) h ne = omega arith

-- as the middle of more than one second is
pub inside : {lo hi middle : ℤ} → lo ≤ℤ hi → 0 < distance_from lo hi → (distance_from lo hi ≡ 1 → ⊥) → middle ≡ lo +ℤ pos (distance_from lo hi / 2) → Inside lo hi middle
inside {lo} {hi} {middle} o some ne e =
    let far = more_than_one (distance_from lo hi) some ne in
    let p = parts_add lo (pos (distance_from lo hi)) in
    let q = parts_add lo (pos (distance_from lo hi / 2)) in
    let r = lies_after o in
    record { after_lo = omega ℤ_rules; before_hi = omega ℤ_rules }

rises_between : {v : ℤ → ℤ} {first last a b i j : ℤ} {size : ℕ} → Rising v first last size → first ≤ℤ a → a ≤ℤ b → b ≤ℤ last → i ≡ index_at v size a → j ≡ index_at v size b → i ≤ℤ j
rises_between rising f o l p q = rw (p, q) (index_mono rising f o l)

pub record Halves (v : ℤ → ℤ) (size : ℕ) (first last lo hi lowest highest mid between : ℤ) (room : ℕ) : Type 0 where
  pub below : Stretch v size first last lo mid lowest between (2 * distance_from lowest between)
  pub above : Stretch v size first last mid hi between highest (room - 2 * distance_from lowest between)
  pub below_falls : distance_from lo mid < distance_from lo hi
  pub above_falls : distance_from mid hi < distance_from lo hi
  pub within : 2 * distance_from lowest between ≤ room
  pub rises : lowest ≤ℤ between
  pub holds : mark_words (marks v size lo mid) ++ mark_words (marks v size mid hi) ≡ mark_words (marks v size lo hi)

module _ {v : ℤ → ℤ} {size : ℕ} {first last lo hi lowest highest : ℤ} {room : ℕ} (s : Stretch v size first last lo hi lowest highest room) where
  pub indices_rise : lowest ≤ℤ highest
  indices_rise = rises_between s.rising s.from_first s.ordered s.by_last s.at_lo s.at_hi

  pub few_seconds : distance_from lo hi < 2 ^ 62
  few_seconds =
      let x = s.from_first in
      let y = s.by_last in
      let z = s.ordered in
      let o : first ≤ℤ last = omega ℤ_rules in
      omega (ℤ_rules, lies_after z, lies_after o, parts_add lo (pos (distance_from lo hi)), parts_add first (pos (distance_from first last)), s.short)

  pub halves : {mid between : ℤ} → Inside lo hi mid → between ≡ index_at v size mid → Halves v size first last lo hi lowest highest mid between room
  halves {mid} {between} in_between e =
      let l = in_between.after_lo in
      let h = in_between.before_hi in
      let x = s.from_first in
      let y = s.by_last in
      let below : Stretch v size first last lo mid lowest between (2 * distance_from lowest between) = record { rising = s.rising; short = s.short; from_first = x; ordered = <→≤ l; by_last = omega ℤ_rules; at_lo = s.at_lo; at_hi = e; room_is = refl } in
      let above : (n : ℕ) → n ≡ 2 * distance_from between highest → Stretch v size first last mid hi between highest n = λ n q. record { rising = s.rising; short = s.short; from_first = omega ℤ_rules; ordered = <→≤ h; by_last = y; at_lo = e; at_hi = s.at_hi; room_is = q } in
      let i = rises_between s.rising x (<→≤ l) (omega ℤ_rules) s.at_lo e in
      let j = rises_between s.rising (omega ℤ_rules) (<→≤ h) y e s.at_hi in
      let d : distance_from lowest highest ≡ distance_from lowest between + distance_from between highest = distances_add i j in
      let t : distance_from lo hi ≡ distance_from lo mid + distance_from mid hi = distances_add (<→≤ l) (<→≤ h) in
      let t₁ = distance_positive l in
      let t₂ = distance_positive h in
      let r = s.room_is in
      record {
        below = below;
        above = above (room - 2 * distance_from lowest between) (omega arith);
        below_falls = omega arith;
        above_falls = omega arith;
        within = omega arith;
        rises = i;
        holds = words_append (marks v size lo mid) (marks v size mid hi) ∙ ap mark_words (joined v size (<→≤ l) (<→≤ h));
      }

  -- where the indices at the ends are one
  pub no_marks : lowest ≡ highest → mark_words (marks v size lo hi) ≡ []
  unfolding mark_words
  no_marks e = ap mark_words (none s.rising s.from_first s.ordered s.by_last (sym s.at_lo ∙ e ∙ s.at_hi))

  pub no_room : lowest ≡ highest → room ≡ 0
  no_room e = s.room_is ∙ rw (distance_of lowest highest 0 (sym e ∙ →≡ (omega (arith, parts_add lowest (pos 0)))))

  differ : (lowest ≡ highest → ⊥) → lowest <ℤ highest
  differ ne = ⊎_elim (λ (h : highest ≤ℤ lowest). absurd (ne (≤_antisymm indices_rise h))) (λ (h : lowest <ℤ highest). h) (≤_total highest lowest)

  -- where they differ: two neighbouring seconds, or more than one second
  pub some_seconds : (lowest ≡ highest → ⊥) → 0 < distance_from lo hi
  some_seconds ne =
      ⊎_elim
      (λ (h : hi ≤ℤ lo). absurd (ne (s.at_lo ∙ ap (index_at v size) (≤_antisymm s.ordered h) ∙ sym s.at_hi)))
      (λ (h : lo <ℤ hi). distance_positive h)
      (≤_total hi lo)

  next_second : distance_from lo hi ≡ 1 → hi ≡ lo +ℤ pos 1
  next_second e = lies_after s.ordered ∙ rw e

  one_listed : (lowest ≡ highest → ⊥) → distance_from lo hi ≡ 1 → marks v size lo hi ≡ record { index = index_at v size hi; second = hi } ∷ []
  one_listed ne e = neighbours s.rising lo hi (next_second e) (rw (s.at_lo, s.at_hi) at (differ ne))

  pub one_mark : (lowest ≡ highest → ⊥) → distance_from lo hi ≡ 1 → mark_words (marks v size lo hi) ≡ highest ∷ hi ∷ []
  unfolding mark_words
  one_mark ne e = ap mark_words (one_listed ne e) ∙ ap (λ (j : ℤ). j ∷ hi ∷ []) (sym s.at_hi)

  pub one_room : (lowest ≡ highest → ⊥) → distance_from lo hi ≡ 1 → room ≡ 2
  one_room ne e =
      let n : distance_from lowest highest ≡ 1 = ap₂ distance_from s.at_lo s.at_hi ∙ sym (length_is s.rising s.from_first s.ordered s.by_last) ∙ ap length (one_listed ne e) in
      let r = s.room_is in
      omega arith

  -- how many marks a stretch has, and that they are few
  pub marks_of : length (marks v size lo hi) ≡ distance_from lowest highest
  marks_of = length_is s.rising s.from_first s.ordered s.by_last ∙ sym (ap₂ distance_from s.at_lo s.at_hi)

  pub few_marks : distance_from lowest highest < 2 ^ 62
  few_marks =
      let m = marks_of in
      let f = few v size lo hi in
      let n = few_seconds in
      omega arith

-- the whole span of an accepted series is a stretch
pub span : (s : Series) → Accepted s → {lowest highest : ℤ} → lowest ≡ first_reached s → highest ≡ last_reached s → StretchOf s s.start (last_second s) lowest highest (2 * distance_from lowest highest)
span s e p q =
    let few = span_few s e in
    record { rising = accepted_rises s e; short = omega arith; from_first = →≤ (omega arith); ordered = span_ordered s e; by_last = →≤ (omega arith); at_lo = p; at_hi = q; room_is = refl }
