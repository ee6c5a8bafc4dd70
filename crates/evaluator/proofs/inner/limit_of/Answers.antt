-- `evaluator::inner::limit_of` meets its contract. Assumes nothing.
use mathlib.Core.Path.{◌≡◌, refl}
use Prim.Native.Nat.{ℕ, zero, suc}
use native.Mathlib.Omega.{arith}
use Rattle.chebyshev.specs.Segment.{limit}
use Rattle.evaluator.proofs.inner.limit_of.Goals as goal

later : (n : ℕ) → (n ≡ 0 → ⊥) → 4000000000 ≡ limit n
later zero h = absurd (h refl)
later (suc n) h = refl

pub returns-else-n-eq0 : goal.returns-else-n-eq0
returns-else-n-eq0 c = later c.before.args.n (λ e. omega arith)
