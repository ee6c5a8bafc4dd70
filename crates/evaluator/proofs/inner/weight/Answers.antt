-- `evaluator::inner::weight` meets its contract. Assumes nothing.
use mathlib.Core.Path.{◌≡◌, ap, ◌∙◌}
use Prim.Native.Nat.{ℕ, ◌*◌, ◌≤◌}
use native.Mathlib.Omega.{arith}
use native.Mathlib.Nat.{mul-le-mul}
use lib.IntN.{pos, nat_abs}
use mir.Facts.{to_z-of_z}
use Rattle.evaluator.proofs.inner.weight.Goals as goal
use Rattle.evaluator.proofs.inner.weight.Goals.{After-absolute, Start}

square : (c : Start) → c.args.n * c.args.n ≤ 169
square c = mul-le-mul {n₁ = c.args.n} {m₁ = c.args.n} {n₂ = 13} {m₂ = 13} (omega arith) (omega arith)

pub overflow_mul-result : goal.overflow_mul-result
overflow_mul-result c = omega (arith, square c)

size : (c : After-absolute) → c.absolute.result ≡ nat_abs c.before.args.c
size c = c.absolute.ensures ∙ ap nat_abs (to_z-of_z c.before.ranges.c)

product : (c : After-absolute) → c.before.args.n * c.before.args.n * c.absolute.result ≤ 676000000000
product c = rw (size c) (mul-le-mul {n₂ = 169} {m₂ = 4000000000} (square c.before) c.before.requires.within.within)

pub overflow_mul-result-2 : goal.overflow_mul-result-2
overflow_mul-result-2 c = omega (arith, product c)

pub overflow_cast-result : goal.overflow_cast-result
overflow_cast-result c = record { sfits = omega (arith, product c) }

pub returns : goal.returns
returns c = to_z-of_z (overflow_cast-result c) ∙ ap (λ (k : ℕ). pos (c.before.args.n * c.before.args.n * k)) (size c)
