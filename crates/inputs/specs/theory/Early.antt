-- 7 is known from the first mark of a list: marks rise in time, so where the first is not early, none is. Assumes nothing.
use Rattle.std.specs.Prelude.{◌≡◌, refl, true, false, List, [], ◌∷◌, ℕ, zero, suc, ◌<◌, ℤ, length, get_or}
use Rattle.std.proofs.Common.{arith}
use Rattle.whole.specs.Booleans.{neither, none_of}
use Rattle.clock.specs.Clock.{early}
use Rattle.marks.specs.Marks.{Mark}
use Rattle.marks.specs.Answers.{no_mark}
use Rattle.inputs.specs.Inputs.{second, any_early}

-- none is early exactly when each is not
pub each_not_early : (leap : List ℤ) (marks : List Mark) → any_early leap marks ≡ false → (k : ℕ) → k < length marks → early leap (second (get_or marks k no_mark)) ≡ false
unfolding any_early
each_not_early leap [] e k h = absurd (omega arith)
each_not_early leap (m ∷ marks) e zero h = (neither (early leap (second m)) (any_early leap marks) e).0
each_not_early leap (m ∷ marks) e (suc k) h = each_not_early leap marks (neither (early leap (second m)) (any_early leap marks) e).1 k (omega arith)

pub none_is_early : (leap : List ℤ) (marks : List Mark) → ((k : ℕ) → k < length marks → early leap (second (get_or marks k no_mark)) ≡ false) → any_early leap marks ≡ false
unfolding any_early
none_is_early leap [] h = refl
none_is_early leap (m ∷ marks) h = none_of (early leap (second m)) (any_early leap marks) (h 0 (omega arith)) (none_is_early leap marks (λ k l. h (suc k) (omega arith)))

pub first_is_early : (leap : List ℤ) (marks : List Mark) → 0 < length marks → early leap (second (get_or marks 0 no_mark)) ≡ true → any_early leap marks ≡ true
unfolding any_early
first_is_early leap [] h e = absurd (omega arith)
first_is_early leap (m ∷ marks) h e = rw e

pub no_marks : (leap : List ℤ) (marks : List Mark) → length marks ≡ 0 → any_early leap marks ≡ false
unfolding any_early
no_marks leap [] e = refl
no_marks leap (m ∷ marks) e = absurd (omega arith)
