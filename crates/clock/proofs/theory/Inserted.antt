-- Which seconds are inserted, by the entry used: those at which the next entry holds a second later. So the count off which day and time are read is the local
-- millisecond under the offset that is used a second later (`count_is`). Assumes nothing.
use Prim.Native.Nat.{ℕ, zero, suc, ◌<◌, ◌≤◌}
use Rattle.std.specs.Prelude.{◌≡◌, Bool, ℤ, ◌+ℤ◌, ◌-ℤ◌}
use Rattle.std.proofs.Math.Path.{refl, sym}
use Rattle.std.proofs.Common.{◌∙◌, arith}
use Rattle.std.proofs.Math.Bool.{true, false, cond}
use mathlib.Core.List.{List, [], ◌∷◌}
use Rattle.std.proofs.Math.Decide.{dec_lt}
use Rattle.std.proofs.Math.IntN.{pos}
use Rattle.std.specs.Int.Signed.{le_z, lt_z}
use Rattle.whole.specs.Parts.{◌⩽◌, ◌≺◌}
use Rattle.whole.specs.Laws.{≤_trans, <-≤_trans}
use Rattle.whole.specs.Below.{any_true, any_false}
use Rattle.whole.specs.Booleans.{both_hold, first_fails, second_fails}
use Rattle.whole.specs.Solver.{⇑, ⇓, ring, le_yes, le_no, yes_le, no_le, yes_lt, no_lt}
use Rattle.times.specs.declared.Second.{Second}
use Rattle.clock.specs.Leap.{leap_lawful, entries, offset, holds_from, holds, entry_used, inserted_by, inserted}
use Rattle.clock.specs.Clock.{tai, local_milli, reading, read_off, count_in}
use Rattle.clock.proofs.theory.Table.{offset_next, moment_later, moments_in_order}
use Rattle.clock.proofs.theory.Used.{Used, used, used_is, holds_on, entry_between}

-- a second later
abbrev pub later : ℤ → ℤ
later t = t +ℤ pos 1000

pub is_later : (t : ℤ) → t ⩽ later t
is_later t = let ρ = t ∷ [] in ⇑ ρ (search ring) (omega arith)

-- inside the second that entry i + 1 inserts
pub inside : (w : List ℤ) (t : ℤ) (i : ℕ) → suc i < entries w → holds_from w (suc i) ⩽ later t → t ≺ holds_from w (suc i) → inserted w t ≡ true
unfolding inserted inserted_by
inside w t i m from to =
    let ρ = t ∷ holds_from w (suc i) ∷ [] in
    any_true (inserted_by w t) (entries w) (suc i) m
    (both_hold (le_z (holds_from w (suc i) -ℤ pos 1000) t) (lt_z t (holds_from w (suc i)))
    (yes_le {a = holds_from w (suc i) -ℤ pos 1000} {b = t} (⇑ ρ (search ring depth 9) (omega (arith, ⇓ ρ from (search ring)))))
    (yes_lt to))

module _ (w : List ℤ) (l : leap_lawful w ≡ true) (t : ℤ) (i : ℕ) (u : Used w t i) where
  pub not_yet : suc i < entries w → t ≺ holds_from w (suc i)
  unfolding holds
  not_yet m = le_no {a = holds_from w (suc i)} {b = t} (u.none_after (suc i) (omega arith) m)

  -- ---- the next entry holds a second later
  module _ (m : suc i < entries w) (h : holds_from w (suc i) ⩽ later t) where
    next_inserts : inserted w t ≡ true
    next_inserts = inside w t i m h (not_yet m)

    pub next_used : Used w (later t) (suc i)
    next_used = entry_between w (later t) (suc i) l m h after
      where
        after : suc (suc i) < entries w → later t ≺ holds_from w (suc (suc i))
        after n = let ρ = holds_from w (suc i) ∷ holds_from w (suc (suc i)) ∷ t ∷ [] in ⇑ ρ (search ring) (omega (arith, ⇓ ρ (moment_later w l (suc i) n) (search ring), ⇓ ρ (not_yet m) (search ring)))

  -- ---- there is none, or it does not
  module _ (none : suc i < entries w → later t ≺ holds_from w (suc i)) where
    none_behind : (j : ℕ) → i < j → j < entries w → later t ≺ holds_from w j
    none_behind j h k = <-≤_trans (none (omega arith)) (moments_in_order w l (suc i) j (omega arith) k)

    pub none_inserts : inserted w t ≡ false
    unfolding inserted inserted_by holds
    none_inserts = any_false (inserted_by w t) (entries w) each
      where
        each : (j : ℕ) → j < entries w → inserted_by w t j ≡ false
        each zero h = refl
        each (suc j) h = go (dec_lt i (suc j))
          where
            go : Dec (i < suc j) → inserted_by w t (suc j) ≡ false
            go (yes b) =
                let ρ = t ∷ holds_from w (suc j) ∷ [] in
                first_fails (le_z (holds_from w (suc j) -ℤ pos 1000) t) (lt_z t (holds_from w (suc j))) (no_le {a = holds_from w (suc j) -ℤ pos 1000} {b = t} (⇑ ρ (search ring depth 9) (omega (arith, ⇓ ρ (none_behind (suc j) b h) (search ring)))))
            go (no b) =
                let held : holds_from w i ⩽ t = le_yes {a = holds_from w i} {b = t} (u.here (omega arith)) in
                second_fails (le_z (holds_from w (suc j) -ℤ pos 1000) t) (lt_z t (holds_from w (suc j))) (no_lt (≤_trans (moments_in_order w l (suc j) i (omega arith) u.below) held))

    same_used : Used w (later t) i
    unfolding holds
    same_used =
        record {
          below = u.below;
          here = λ z. holds_on w t (later t) i (is_later t) (u.here z);
          none_after = λ k p q. no_le {a = holds_from w k} {b = later t} (none_behind k p q);
        }

  -- ---- one or the other
  pub by_next : {X : Type 0} → ((m : suc i < entries w) → holds_from w (suc i) ⩽ later t → X) → ((suc i < entries w → later t ≺ holds_from w (suc i)) → X) → X
  by_next {X} f g = go (dec_lt (suc i) (entries w)) (le_z (holds_from w (suc i)) (later t)) refl
    where
      go : Dec (suc i < entries w) → (b : Bool) → le_z (holds_from w (suc i)) (later t) ≡ b → X
      go (no n) b e = g (λ m. absurd (omega arith))
      go (yes m) true e = f m (le_yes {a = holds_from w (suc i)} {b = later t} e)
      go (yes m) false e = g (λ n. le_no {a = holds_from w (suc i)} {b = later t} e)

  -- what a program tests
  pub last_inserts_nothing : entries w ≤ suc i → inserted w t ≡ false
  last_inserts_nothing h = none_inserts (λ m. absurd (omega arith))

  pub next_decides : suc i < entries w → holds w (later t) (suc i) ≡ inserted w t
  unfolding holds
  next_decides m = go (le_z (holds_from w (suc i)) (later t)) refl
    where
      go : (b : Bool) → le_z (holds_from w (suc i)) (later t) ≡ b → le_z (holds_from w (suc i)) (later t) ≡ inserted w t
      go true e = e ∙ sym (next_inserts m (le_yes {a = holds_from w (suc i)} {b = later t} e))
      go false e = e ∙ sym (none_inserts (λ n. le_no {a = holds_from w (suc i)} {b = later t} e))

  -- ---- the count
  count_by : (zone : ℤ) → cond (inserted w t) ((local_milli t (offset w i) zone).0 -ℤ pos 1000) (local_milli t (offset w i) zone).0 ≡ (local_milli t (offset w (entry_used w (later t))) zone).0
  unfolding local_milli
  count_by zone = by_next when_inserted when_not
    where
      when_inserted : (m : suc i < entries w) → holds_from w (suc i) ⩽ later t → cond (inserted w t) ((local_milli t (offset w i) zone).0 -ℤ pos 1000) (local_milli t (offset w i) zone).0 ≡ (local_milli t (offset w (entry_used w (later t))) zone).0
      when_inserted m h =
          let ρ = t ∷ offset w i ∷ offset w (suc i) ∷ zone ∷ [] in
          rw (next_inserts m h, used_is w (later t) (suc i) (next_used m h)) (⇑ ρ (search ring depth 12) (omega (arith, ⇓ ρ (offset_next w l i m) (search ring))))

      when_not : (suc i < entries w → later t ≺ holds_from w (suc i)) → cond (inserted w t) ((local_milli t (offset w i) zone).0 -ℤ pos 1000) (local_milli t (offset w i) zone).0 ≡ (local_milli t (offset w (entry_used w (later t))) zone).0
      when_not n = rw (none_inserts n, used_is w (later t) i (same_used n))

pub count_is : (w : List ℤ) → leap_lawful w ≡ true → (s : Second) (zone : ℤ) → count_in w s zone ≡ local_milli (tai s) (offset w (entry_used w (later (tai s)))) zone
unfolding count_in read_off reading
count_is w l s zone = λ x. record { 0 = count_by w l (tai s) (entry_used w (tai s)) (used w (tai s) l) zone x }
