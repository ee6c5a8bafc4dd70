-- Chebyshev's polynomials as whole numbers at a scale s: Q and W exact, P rounded (document 01, "Segments"). Assumes nothing.
use Rattle.std.specs.Prelude.{ℕ, zero, suc, ℤ, pos, ◌-ℤ◌, ◌*ℤ◌}
use Rattle.whole.specs.Floor.{floor_div}

-- The scale of every series.
abbrev pub S : ℕ
S = 66355200

-- The scaled polynomials of document 01: P0 = s, P1 = x, P(n+1) = 2x·Pn/s rounded down, minus P(n-1).
unfoldable pub P : ℕ → ℤ → ℕ → ℤ
P s x zero = pos s
P s x (suc zero) = x
P s x (suc (suc n)) = floor_div (pos 2 *ℤ x *ℤ P s x (suc n)) s -ℤ P s x n

-- The true polynomials: `Q s x n` is sⁿ·Tₙ(x/s).
unfoldable pub Q : ℤ → ℤ → ℕ → ℤ
Q s x zero = pos 1
Q s x (suc zero) = x
Q s x (suc (suc n)) = pos 2 *ℤ x *ℤ Q s x (suc n) -ℤ s *ℤ s *ℤ Q s x n

-- Those of the second kind, which bound the first: `W s x n` is sⁿ·Uₙ(x/s).
unfoldable pub W : ℤ → ℤ → ℕ → ℤ
W s x zero = pos 1
W s x (suc zero) = pos 2 *ℤ x
W s x (suc (suc n)) = pos 2 *ℤ x *ℤ W s x (suc n) -ℤ s *ℤ s *ℤ W s x n
