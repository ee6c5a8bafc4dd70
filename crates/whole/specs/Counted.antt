-- How many elements of a list pass a test, and what one turn of a loop over the list counts. Assumes nothing.
use Rattle.std.specs.Prelude.{◌≡◌, Bool, true, false, cond, ℕ, ◌+◌, ◌≤◌, ◌<◌, length, get_or, drop}
use mathlib.Core.List.{List, [], ◌∷◌}
use native.Mathlib.Omega.{arith}
use Rattle.std.proofs.Common.{add-one, drop_of_length-le, drop-cons}

-- 1 for what passes
abbrev pub one : Bool → ℕ
one b = cond b 1 0

pub one_small : (b : Bool) → one b ≤ 1
one_small true = omega arith
one_small false = omega arith

unfoldable pub count_of : {A : Type 0} → (A → Bool) → List A → ℕ
count_of test [] = 0
count_of test (x ∷ xs) = one (test x) + count_of test xs

module _ {A : Type 0} (test : A → Bool) where
  pub count_turn : (xs : List A) (i : ℕ) (d : A) → i < length xs → count_of test (drop i xs) ≡ one (test (get_or xs i d)) + count_of test (drop (i + 1) xs)
  unfolding count_of
  count_turn xs i d h = rw (drop-cons xs i d, add-one)

  pub count_end : (xs : List A) (i : ℕ) → length xs ≤ i → count_of test (drop i xs) ≡ 0
  unfolding count_of
  count_end xs i h = rw (drop_of_length-le xs h)

  pub count_small : (xs : List A) → count_of test xs ≤ length xs
  unfolding count_of
  count_small [] = omega arith
  count_small (x ∷ xs) = omega (arith, one_small (test x), count_small xs)
