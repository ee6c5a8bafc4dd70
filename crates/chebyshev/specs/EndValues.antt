-- The values at a segment's first and last second, by closed forms (`first_value_lem` and `last_value_lem` in Theorems say that they are those). At the first, place -S,
-- every P(n) is S or -S; at the last, one step q before S, P(n) is S - q·n², since rounding drops less than one unit a step. Assumes nothing: these are
-- definitions.
use Rattle.std.specs.Prelude.{List, ℕ, ◌+◌, ◌*◌, ℤ, pos, neg_ℤ, ◌+ℤ◌, ◌-ℤ◌, ◌*ℤ◌}
use Rattle.whole.specs.Floor.{floor_div}
use Rattle.chebyshev.specs.Segment.{coefficient, sum}

-- c0 + c2 + .. + c12
unfoldable pub even_sum : List ℤ → ℤ
even_sum c = coefficient c 0 +ℤ sum 1 6 (λ (i : ℕ). coefficient c (2 * i))

-- c1 + c3 + .. + c13
unfoldable pub odd_sum : List ℤ → ℤ
odd_sum c = coefficient c 1 +ℤ sum 1 6 (λ (i : ℕ). coefficient c (2 * i + 1))

-- c1 + 4·c2 + 9·c3 + .. + 169·c13
unfoldable pub square_sum : List ℤ → ℤ
square_sum c = sum 1 13 (λ (n : ℕ). coefficient c n *ℤ pos (n * n))

-- c0 - c1 + c2 - .. - c13
unfoldable pub first_value : List ℤ → ℤ
first_value c = even_sum c -ℤ odd_sum c

-- the sum of all, less that of the squares over H, which is rounded up
unfoldable pub last_value : ℕ → List ℤ → ℤ
last_value H c = even_sum c +ℤ odd_sum c +ℤ floor_div (neg_ℤ (square_sum c)) H
