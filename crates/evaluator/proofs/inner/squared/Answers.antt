-- `evaluator::inner::squared` meets its contract. Assumes nothing.
use mathlib.Core.Path.{◌∙◌}
use Prim.Native.Nat.{◌*◌, ◌≤◌}
use native.Mathlib.Omega.{arith}
use native.Mathlib.Nat.{mul-le-mul}
use lib.IntN.{pos}
use mir.Facts.{to_z-of_z}
use Rattle.whole.specs.Ranges.{Within, fits, bound_mul, bound_hyp}
use Rattle.evaluator.proofs.inner.squared.Goals as goal
use Rattle.evaluator.proofs.inner.squared.Goals.{Start}

square : (c : Start) → c.args.n * c.args.n ≤ 169
square c = mul-le-mul {n₁ = c.args.n} {m₁ = c.args.n} {n₂ = 13} {m₂ = 13} (omega arith) (omega arith)

pub overflow_mul-result : goal.overflow_mul-result
overflow_mul-result c = record { fits = omega (arith, square c) }

pub overflow_cast-result : goal.overflow_cast-result
overflow_cast-result c = record { sfits = omega (arith, square c) }

pub overflow_mul-result-2 : goal.overflow_mul-result-2
overflow_mul-result-2 c = let s : Within 169 (pos (c.args.n * c.args.n)) = record { within = square c } in rw (to_z-of_z (overflow_cast-result c), to_z-of_z c.ranges.c) (fits (bound_mul (bound_hyp c.requires.within) (bound_hyp s)) tt)

pub returns : goal.returns
returns c = to_z-of_z (overflow_mul-result-2 c) ∙ rw (to_z-of_z (overflow_cast-result c), to_z-of_z c.ranges.c)
