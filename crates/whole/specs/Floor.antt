-- Division by a positive number, rounded down. `floor_div z m` is the quotient and `floor_mod z m` the remainder, a natural number below m. Assumes nothing.
use Rattle.std.specs.Prelude.{ℕ, suc, ◌+◌, ◌*◌, ◌-◌, ◌/◌, ◌%◌, ◌<◌, ℤ, pos, negsuc, ◌*ℤ◌}
use Rattle.std.proofs.Common.{SFits}

unfoldable pub floor_div : ℤ → ℕ → ℤ
floor_div (pos a) m = pos (a / m)
floor_div (negsuc a) m = negsuc (a / m)

unfoldable pub floor_mod : ℤ → ℕ → ℕ
floor_mod (pos a) m = a % m
floor_mod (negsuc a) m = m - suc (a % m)
