-- A count over a list is what the library's iterators count, and a test as a number is what a list counts of one element. Assumes nothing.
use mathlib.Core.Path.{◌≡◌, refl}
use mathlib.Core.Bool.{Bool, true, false, cond}
use mathlib.Core.List.{List}
use Prim.Native.Nat.{ℕ, ◌+◌}
use native.Mathlib.Omega.{arith}
use mir.Val.{bool_byte}
use Rattle.std.specs.List.{count_by}
use Rattle.std.proofs.lemmas.List.Recursion.{is_count_by}
use Rattle.whole.specs.Counted.{one, count_of}

one_more : (b : Bool) (n : ℕ) → one b + n ≡ cond b (1 + n) n
one_more true n = refl
one_more false n = omega arith

pub counted : {A : Type 0} (test : A → Bool) (xs : List A) → count_of test xs ≡ count_by test xs
unfolding count_of
counted test xs = is_count_by (count_of test) test refl (λ x rest. one_more (test x) (count_of test rest)) xs

pub byte_is : (b : Bool) → bool_byte b ≡ one b
byte_is true = refl
byte_is false = refl
