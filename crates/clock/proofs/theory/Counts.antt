-- The count off which day and time are read, from a second to a later one: it never goes back and goes on by no more than the seconds do; and it goes on by a
-- second at least, or it stays where the later one is inserted and the earlier one is not. Assumes nothing.
use Prim.Native.Nat.{ℕ, suc, ◌+◌, ◌-◌, ◌<◌, ◌≤◌}
use Rattle.std.specs.Prelude.{◌≡◌, refl, true, false, ◌⊎◌, ℤ, ◌+ℤ◌, ◌-ℤ◌, ◌*ℤ◌}
use Rattle.std.proofs.Math.Path.{ap}
use Rattle.std.proofs.Common.{◌∙◌, inl, inr, ⊎_elim}
use mathlib.Core.List.{List, [], ◌∷◌}
use native.Mathlib.Omega.{arith}
use Rattle.std.proofs.Math.Decide.{dec_lt}
use Rattle.std.proofs.Math.IntN.{pos}
use Rattle.whole.specs.Parts.{◌⩽◌, ◌≺◌}
use Rattle.whole.specs.Laws.{≤_total}
use Rattle.whole.specs.Solver.{⇑, ⇓, ring, le_yes, le_no}
use Rattle.times.specs.declared.Second.{Second}
use Rattle.times.specs.declared.Milli.{Milli}
use Rattle.clock.specs.Leap.{leap_lawful, entries, offset, holds_from, holds, entry_used, inserted}
use Rattle.clock.specs.Clock.{tai, local_milli, count_in}
use Rattle.clock.proofs.theory.Table.{offset_is, moment_later, moments_apart}
use Rattle.clock.proofs.theory.Used.{Used, used, used_is, entry_goes_on}
use Rattle.clock.proofs.theory.Inserted.{later, inside, not_yet, none_inserts, next_used, by_next, count_is}

pub tai_is : (s : Second) → tai s ≡ pos 1000 *ℤ s.0 -ℤ pos 32184
unfolding tai
tai_is s = refl

-- seconds and TAI milliseconds go on together
pub tai_goes_on : (s s' : Second) → s.0 ⩽ s'.0 → tai s ⩽ tai s'
unfolding tai
tai_goes_on s s' h = let ρ = s.0 ∷ s'.0 ∷ [] in ⇑ ρ (search ring depth 9) (omega (arith, ⇓ ρ h (search ring)))

-- the count stays: the time shown goes on from the fifty-ninth second to the sixtieth
pub record Stays (w : List ℤ) (s s' : Second) (zone : ℤ) : Type 0 where
  pub same : (count_in w s zone).0 ≡ (count_in w s' zone).0
  pub plain : inserted w (tai s) ≡ false
  pub sixtieth : inserted w (tai s') ≡ true

-- the entry under whose offset a second's count is read
abbrev entry : List ℤ → Second → ℕ
entry w s = entry_used w (later (tai s))

module _ (w : List ℤ) (l : leap_lawful w ≡ true) where
  entry_used_lem : (s : Second) → Used w (later (tai s)) (entry w s)
  entry_used_lem s = used w (later (tai s)) l

  count_of : (s : Second) (zone : ℤ) → (count_in w s zone).0 ≡ pos 1000 *ℤ (s.0 -ℤ offset w 0 -ℤ pos (entry w s)) -ℤ pos 32184 +ℤ pos 60000 *ℤ zone
  unfolding local_milli
  count_of s zone =
      let ρ = s.0 ∷ tai s ∷ offset w 0 ∷ offset w (entry w s) ∷ pos (entry w s) ∷ zone ∷ [] in
      ap (λ (m : Milli). m.0) (count_is w l s zone)
      ∙ ⇑ ρ (search ring depth 12) (omega (arith, ⇓ ρ (offset_is w l (entry w s) (entry_used_lem s).below) (search ring), ⇓ ρ (tai_is s) (search ring depth 9)))

  module _ (s s' : Second) where
    abbrev a : ℕ
    a = entry w s

    abbrev b : ℕ
    b = entry w s'

    begun : 0 < b → holds_from w b ⩽ later (tai s')
    unfolding holds
    begun h = le_yes {a = holds_from w b} {b = later (tai s')} ((entry_used_lem s').here h)

    -- where the entry changes, a day and a second lie between each two
    apart : a < b → pos 1000 *ℤ s.0 +ℤ pos 86401000 *ℤ pos (b - suc a) ≺ pos 1000 *ℤ s'.0
    unfolding holds
    apart m =
        let before : later (tai s) ≺ holds_from w (suc a) = le_no {a = holds_from w (suc a)} {b = later (tai s)} ((entry_used_lem s).none_after (suc a) (omega arith) (omega (arith, (entry_used_lem s').below))) in
        let k : suc a + (b - suc a) ≡ b = omega arith in
        let between = rw k at (moments_apart w l (suc a) (b - suc a) (omega (arith, (entry_used_lem s').below))) in
        let ρ = s.0 ∷ s'.0 ∷ tai s ∷ tai s' ∷ holds_from w (suc a) ∷ holds_from w b ∷ pos (b - suc a) ∷ [] in
        ⇑ ρ (search ring depth 9) (omega (arith, ⇓ ρ before (search ring depth 9), ⇓ ρ (begun (omega arith)) (search ring depth 9), ⇓ ρ between (search ring depth 9), ⇓ ρ (tai_is s) (search ring depth 9), ⇓ ρ (tai_is s') (search ring depth 9)))

    module _ (h : s.0 ⩽ s'.0) where
      entries_go_on : a ≤ b
      entries_go_on = let ρ = tai s ∷ tai s' ∷ [] in entry_goes_on w (later (tai s)) (later (tai s')) a b (⇑ ρ (search ring) (omega (arith, ⇓ ρ (tai_goes_on s s' h) (search ring)))) (entry_used_lem s) (entry_used_lem s')

      -- no more entries begin to hold than seconds pass
      few_begin : pos b ⩽ pos a +ℤ (s'.0 -ℤ s.0)
      few_begin = go (dec_lt a b)
        where
          go : Dec (a < b) → pos b ⩽ pos a +ℤ (s'.0 -ℤ s.0)
          go (yes m) = let ρ = s.0 ∷ s'.0 ∷ pos a ∷ pos b ∷ pos (b - suc a) ∷ [] in ⇑ ρ (search ring depth 9) (omega (arith, ⇓ ρ (apart m) (search ring depth 9)))
          go (no m) = let ρ = s.0 ∷ s'.0 ∷ pos a ∷ pos b ∷ [] in ⇑ ρ (search ring depth 9) (omega (arith, ⇓ ρ h (search ring), entries_go_on))

      pub count_goes_on : (zone : ℤ) → (count_in w s zone).0 ⩽ (count_in w s' zone).0
      count_goes_on zone =
          let ρ = s.0 ∷ s'.0 ∷ offset w 0 ∷ pos a ∷ pos b ∷ zone ∷ [] in
          rw (count_of s zone, count_of s' zone) (⇑ ρ (search ring depth 12) (omega (arith, ⇓ ρ few_begin (search ring depth 9))))

      pub count_no_faster : (zone : ℤ) → (count_in w s' zone).0 -ℤ pos 1000 *ℤ (s'.0 -ℤ s.0) ⩽ (count_in w s zone).0
      count_no_faster zone =
          let ρ = s.0 ∷ s'.0 ∷ offset w 0 ∷ pos a ∷ pos b ∷ zone ∷ [] in
          rw (count_of s zone, count_of s' zone) (⇑ ρ (search ring depth 12) (omega (arith, entries_go_on)))

    -- ---- one entry more than seconds pass: the next second is the one that it inserts
    module _ (m : s.0 ≺ s'.0) (many : pos a +ℤ (s'.0 -ℤ s.0) ⩽ pos b) where
      more : a < b
      more = let ρ = s.0 ∷ s'.0 ∷ pos a ∷ pos b ∷ [] in omega (arith, ⇓ ρ m (search ring), ⇓ ρ many (search ring depth 9))

      next_entry_lem : b ≡ suc a
      next_entry_lem = let ρ = s.0 ∷ s'.0 ∷ pos a ∷ pos b ∷ pos (b - suc a) ∷ [] in omega (arith, more, ⇓ ρ many (search ring depth 9), ⇓ ρ (apart more) (search ring depth 9))

      next_second : tai s' ≡ later (tai s)
      next_second =
          let ρ = s.0 ∷ s'.0 ∷ tai s ∷ tai s' ∷ pos a ∷ pos b ∷ [] in
          ⇑ ρ (search ring depth 9) (omega (arith, next_entry_lem, ⇓ ρ m (search ring), ⇓ ρ many (search ring depth 9), ⇓ ρ (tai_is s) (search ring depth 9), ⇓ ρ (tai_is s') (search ring depth 9)))

      moment : holds_from w (suc a) ⩽ later (tai s')
      moment = rw next_entry_lem at (begun (omega (arith, more)))

      inside_next : inserted w (tai s') ≡ true
      unfolding holds
      inside_next =
          inside w (tai s') a (omega (arith, next_entry_lem, (entry_used_lem s').below)) moment
          (rw next_second (le_no {a = holds_from w (suc a)} {b = later (tai s)} ((entry_used_lem s).none_after (suc a) (omega arith) (omega (arith, next_entry_lem, (entry_used_lem s').below)))))

      -- the second before it is not inserted: the entries would be two seconds apart
      not_inside : inserted w (tai s) ≡ false
      not_inside = by_next w l (tai s) i u two (λ n. none_inserts w l (tai s) i u n)
        where
          i : ℕ
          i = entry_used w (tai s)

          u : Used w (tai s) i
          u = used w (tai s) l

          two : (n : suc i < entries w) → holds_from w (suc i) ⩽ later (tai s) → inserted w (tai s) ≡ false
          two n k =
              let is : a ≡ suc i = used_is w (later (tai s)) (suc i) (next_used w l (tai s) i u n k) in
              let day : holds_from w (suc i) +ℤ pos 86401000 ⩽ holds_from w (suc (suc i)) = moment_later w l (suc i) (omega (arith, is, next_entry_lem, (entry_used_lem s').below)) in
              let begins : holds_from w (suc (suc i)) ⩽ later (tai s') = rw is at moment in
              let ρ = tai s ∷ tai s' ∷ holds_from w (suc i) ∷ holds_from w (suc (suc i)) ∷ [] in
              absurd (omega (arith, ⇓ ρ day (search ring), ⇓ ρ begins (search ring), ⇓ ρ next_second (search ring), ⇓ ρ (not_yet w l (tai s) i u n) (search ring)))

      stays : (zone : ℤ) → Stays w s s' zone
      stays zone =
          let ρ = s.0 ∷ s'.0 ∷ tai s ∷ tai s' ∷ offset w 0 ∷ pos a ∷ pos b ∷ zone ∷ [] in
          record {
            same = rw (count_of s zone, count_of s' zone) (⇑ ρ (search ring depth 12) (omega (arith, next_entry_lem, ⇓ ρ next_second (search ring), ⇓ ρ (tai_is s) (search ring depth 9), ⇓ ρ (tai_is s') (search ring depth 9))));
            plain = not_inside;
            sixtieth = inside_next;
          }

    pub on_or_stays : s.0 ≺ s'.0 → (zone : ℤ) → ((count_in w s zone).0 +ℤ pos 1000 ⩽ (count_in w s' zone).0) ⊎ Stays w s s' zone
    on_or_stays m zone = ⊎_elim (λ (few : pos b +ℤ pos 1 ⩽ pos a +ℤ (s'.0 -ℤ s.0)). inl (on few)) (λ (many : pos a +ℤ (s'.0 -ℤ s.0) ≺ pos b +ℤ pos 1). inr (stays m (all many) zone)) (≤_total (pos b +ℤ pos 1) (pos a +ℤ (s'.0 -ℤ s.0)))
      where
        on : pos b +ℤ pos 1 ⩽ pos a +ℤ (s'.0 -ℤ s.0) → (count_in w s zone).0 +ℤ pos 1000 ⩽ (count_in w s' zone).0
        on few =
            let ρ = s.0 ∷ s'.0 ∷ offset w 0 ∷ pos a ∷ pos b ∷ zone ∷ [] in
            rw (count_of s zone, count_of s' zone) (⇑ ρ (search ring depth 12) (omega (arith, ⇓ ρ few (search ring depth 9))))

        all : pos a +ℤ (s'.0 -ℤ s.0) ≺ pos b +ℤ pos 1 → pos a +ℤ (s'.0 -ℤ s.0) ⩽ pos b
        all many = let ρ = s.0 ∷ s'.0 ∷ pos a ∷ pos b ∷ [] in ⇑ ρ (search ring depth 9) (omega (arith, ⇓ ρ many (search ring depth 9)))
