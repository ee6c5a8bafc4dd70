-- Things that are compared by one number first and by the next where that is the same: `first_by a b behind` says that a comes before b, or that they are the same and
-- what stands behind them decides. Assumes nothing.
use Rattle.std.specs.Prelude.{◌≡◌, refl, Bool, true, false, ◌&&◌, ◌||◌, ℤ, ◌≤ℤ◌, ◌<ℤ◌}
use Rattle.std.proofs.Math.Path.{sym}
use Rattle.std.proofs.Common.{◌∙◌, ⊎_elim}
use Rattle.std.specs.Int.Signed.{lt_z}
use Rattle.whole.specs.Parts.{◌≺◌}
use Rattle.whole.specs.Laws.{≤_total, ≤_antisymm, <→≤, ≤_of-≡}
use Rattle.whole.specs.Booleans.{both_hold, first_holds, second_holds, first_fails, second_fails, none_of, not_both}
use Rattle.whole.specs.Solver.{yes_lt, no_lt}
use Rattle.whole.specs.Tests.{is_exactly, says_exactly, below_range}

unfoldable pub first_by : ℤ → ℤ → Bool → Bool
first_by a b behind = lt_z a b || (is_exactly a b && behind)

module _ (a b : ℤ) (behind : Bool) where
  pub less_first : a ≺ b → first_by a b behind ≡ true
  unfolding first_by
  less_first h = sym (first_holds (lt_z a b) (is_exactly a b && behind) (yes_lt h)) ∙ yes_lt h

  pub same_then : a ≡ b → behind ≡ true → first_by a b behind ≡ true
  unfolding first_by
  same_then e h = second_holds (lt_z a b) (is_exactly a b && behind) (both_hold (is_exactly a b) behind (says_exactly a b (sym e)) h)

  -- the same, and nothing behind decides
  pub same_not : a ≡ b → behind ≡ false → first_by a b behind ≡ false
  unfolding first_by
  same_not e h = none_of (lt_z a b) (is_exactly a b && behind) (no_lt (≤_of-≡ (sym e))) (second_fails (is_exactly a b) behind h)

  -- the other one comes first
  pub more_not : b ≺ a → first_by a b behind ≡ false
  unfolding first_by
  more_not h = none_of (lt_z a b) (is_exactly a b && behind) (no_lt (<→≤ h)) (first_fails (is_exactly a b) behind (below_range a a b h))

  -- what it says: less, or the same
  pub cases : {X : Type 0} → first_by a b behind ≡ true → (a ≺ b → X) → (a ≡ b → behind ≡ true → X) → X
  cases {X} e f g = ⊎_elim (λ (l : a ≤ℤ b). ⊎_elim (λ (m : b ≤ℤ a). same_or l m) f (≤_total b a)) (λ (l : b <ℤ a). not_both e (more_not l)) (≤_total a b)
    where
      same_or : a ≤ℤ b → b ≤ℤ a → X
      same_or l m = go behind refl
        where
          go : (c : Bool) → behind ≡ c → X
          go true k = g (≤_antisymm l m) k
          go false k = not_both e (same_not (≤_antisymm l m) k)

-- two of which each comes before the other there are not, if there are none behind
pub not_both_first : (a b : ℤ) (behind ahead : Bool) → (behind ≡ true → ahead ≡ false) → first_by a b behind ≡ true → first_by b a ahead ≡ false
not_both_first a b behind ahead h e = cases a b behind e (λ l. more_not b a ahead l) (λ q k. same_not b a ahead (sym q) (h k))
