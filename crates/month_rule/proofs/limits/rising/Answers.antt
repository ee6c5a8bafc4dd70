-- `month_rule::limits::rising` meets its contract: the library's answer about neighbours is that of the definition. Assumes nothing.
use mathlib.Core.Path.{◌≡◌, refl, sym}
use mathlib.Core.Bool.{Bool, true, false, ◌&&◌}
use mathlib.Core.List.{List, [], ◌∷◌}
use Prim.Native.Nat.{ℕ, zero, suc, ◌+◌, ◌<◌}
use native.Mathlib.Omega.{arith}
use borrow.Author.Rules.{rules}
use lib.IntN.{ℤ, pos}
use lib.ListN.{length, get_or}
use lib.Signed.{lt_z}
use Rattle.std.specs.List.{IsAllAdjacentAnswer}
use Rattle.std.proofs.lemmas.List.Sorted.{answers_always}
use Rattle.months.specs.Limits.{rising}
use Rattle.month_rule.proofs.limits.rising.Goals as goal

-- where each day lies before the next, they rise
all_rise : (days : List ℤ) → ((k : ℕ) → k + 1 < length days → lt_z (get_or days k (pos 0)) (get_or days (k + 1) (pos 0)) ≡ true) → rising days ≡ true
unfolding rising
all_rise [] each = refl
all_rise (d ∷ []) each = refl
all_rise (d ∷ e ∷ days) each =
    rw (each 0 (omega arith)) (all_rise (e ∷ days) (λ k h. let next : suc k + 1 ≡ suc (k + 1) = omega arith in rw next at (each (suc k) (omega arith))))

-- where one does not, they do not
one_falls : (days : List ℤ) (k : ℕ) → k + 1 < length days → lt_z (get_or days k (pos 0)) (get_or days (k + 1) (pos 0)) ≡ false → rising days ≡ false
unfolding rising
one_falls [] k h e = absurd (omega arith)
one_falls (d ∷ []) k h e = absurd (omega arith)
one_falls (d ∷ f ∷ days) zero h e = rw e
one_falls (d ∷ f ∷ days) (suc k) h e = let next : suc k + 1 ≡ suc (k + 1) = omega arith in go (lt_z d f) (one_falls (f ∷ days) k (omega arith) (rw next at e))
  where
    go : (b : Bool) → rising (f ∷ days) ≡ false → (b && rising (f ∷ days)) ≡ false
    go true r = r
    go false r = refl

answered : (days : List ℤ) (r : Bool) → IsAllAdjacentAnswer (λ (x y : ℤ) (b : Bool). b ≡ lt_z x y) days r → r ≡ rising days
answered days true a = sym (all_rise days (λ k h. sym (a k (pos 0) h)))
answered days false (k, h, e) = sym (one_falls days k h (sym (e (pos 0))))

pub returns : goal.returns
returns c = answered c.args.days.now c.is_sorted_by.result (c.is_sorted_by.ensures.cases lt_z (answers_always _ _ _ (λ f a r g k. search rules)))
