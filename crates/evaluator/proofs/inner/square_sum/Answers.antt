-- `evaluator::inner::square_sum` meets its contract. Assumes nothing.
use mathlib.Core.Path.{◌≡◌, refl, ◌∙◌}
use mathlib.Core.List.{List, [], ◌∷◌}
use Prim.Native.Nat.{ℕ, ◌≤◌, ◌<◌}
use native.Mathlib.Omega.{arith}
use lib.IntN.{ℤ, nat_abs}
use mir.Syntax.{w64}
use mir.Val.{to_z, of_z}
use mir.Facts.{to_z-of_z}
use Rattle.whole.specs.Ranges.{back}
use Rattle.chebyshev.specs.Segment.{InRange, sum}
use Rattle.evaluator.proofs.Read.{coefficient_back}
use Rattle.evaluator.proofs.Running.{running_start, running_turn, running_end, running_fits}
use Rattle.analysis.specs.theory.Bounds.{square_small}
use Rattle.whole.specs.Solver.{⇑, ring}
use Rattle.chebyshev.specs.EndValues.{square_sum}
use Rattle.evaluator.proofs.inner.square_sum.Goals as goal
use Rattle.evaluator.proofs.inner.square_sum.Invariants.{term}
use Rattle.evaluator.proofs.inner.square_sum.Goals.{After-squared-sum}

each : {coefs : List ℤ} → InRange coefs → (n : ℕ) → 1 ≤ n → n < 14 → nat_abs (term coefs n) ≤ 1000000000000
each r n l h = omega (arith, square_small r n l h)

pub loop-n-init : goal.loop-n-init
loop-n-init c = running_start (omega arith)

pub squared-sum-requires : goal.squared-sum-requires
squared-sum-requires c =
    let l = c.before.before in
    let r = l.before.requires.in_range in record { within = rw (coefficient_back r l.loop-n.n l.loop-n.invariant.low) (r.others l.loop-n.n l.loop-n.invariant.low); n_bound = omega arith }

-- the term that the call gives
made : (c : After-squared-sum) → to_z w64 (of_z w64 c.squared-sum.result) ≡ term c.before.before.before.before.args.coefs.now c.before.before.before.loop-n.n
made c =
    let l = c.before.before.before in
    back c.squared-sum.result c.squared-sum.type_inv ∙ (rw (coefficient_back l.before.requires.in_range l.loop-n.n l.loop-n.invariant.low) at c.squared-sum.ensures)

pub overflow_add-sum : goal.overflow_add-sum
overflow_add-sum c =
    let l = c.before.before.before in
    let r = l.before.requires.in_range in
    rw (made c) (running_fits l.loop-n.invariant (omega arith) (omega arith) (record { within = omega arith }) (each r))

pub loop-n-preserved : goal.loop-n-preserved
loop-n-preserved c =
    let l = c.before.before.before in
    rw (to_z-of_z (overflow_add-sum c), made c) (running_turn l.loop-n.invariant (omega arith))

pub returns : goal.returns
unfolding square_sum
returns c =
    let coefs = c.before.before.args.coefs.now in
    running_end c.before.loop-n.invariant (omega arith) ∙ ⇑ (sum 1 13 (term coefs) ∷ []) (search ring depth 9) refl
