-- `evaluator::inner::out_of_range` meets its contract: the loop's invariant is that what is left to search decides. In the needs, `tested` is the place where a
-- coefficient and its limit are known. Assumes nothing.
use mathlib.Core.Path.{◌≡◌, refl, sym, ◌∙◌}
use mathlib.Core.Bool.{true, false}
use mathlib.Core.List.{List}
use Prim.Native.Nat.{ℕ, ◌-◌}
use native.Mathlib.Omega.{arith}
use borrow.Author.Tests.{lt-ltb, le-ltb}
use lib.Dec.{ltb}
use lib.IntN.{ℤ, nat_abs}
use Rattle.whole.specs.Ranges.{back}
use Rattle.chebyshev.specs.Segment.{coefficient, limit, larger, out_of_range}
use Rattle.analysis.specs.theory.Ranges.{larger_passes, larger_found, larger_end}
use Rattle.evaluator.proofs.inner.out_of_range.Goals as goal
use Rattle.evaluator.proofs.inner.out_of_range.Goals.{After-absolute}

abbrev coefs_of : After-absolute → List ℤ
coefs_of c = c.before.before.before.before.before.args.coefs.now

abbrev n_of : After-absolute → ℕ
n_of c = c.before.before.before.before.loop-n.n

at_size : (c : After-absolute) → c.absolute.result ≡ nat_abs (coefficient (coefs_of c) (n_of c))
at_size c = rw (back (coefficient (coefs_of c) (n_of c)) c.before.absolute-arg-1.given) at c.absolute.ensures

at_left : (c : After-absolute) → out_of_range (coefs_of c) ≡ larger (coefs_of c) (n_of c) (14 - n_of c)
at_left c = c.before.before.before.before.loop-n.invariant

pub loop-n-init : goal.loop-n-init
loop-n-init c = refl

pub returns-then-limit_of-absolute : goal.returns-then-limit_of-absolute
returns-then-limit_of-absolute c =
    let tested = c.before in
    let bad : ltb (limit (n_of tested)) (nat_abs (coefficient (coefs_of tested) (n_of tested))) ≡ true = lt-ltb _ _ (rw (tested.before.before.limit_of.ensures, at_size tested) at c.if-limit_of-absolute.true) in
    sym (at_left tested ∙ larger_found (coefs_of tested) (n_of tested) (omega arith) bad)

pub loop-n-preserved : goal.loop-n-preserved
loop-n-preserved c =
    let tested = c.before in
    let good : ltb (limit (n_of tested)) (nat_abs (coefficient (coefs_of tested) (n_of tested))) ≡ false = le-ltb _ _ (rw (tested.before.before.limit_of.ensures, at_size tested) at c.if-limit_of-absolute.false) in
    at_left tested ∙ larger_passes (coefs_of tested) (n_of tested) (omega arith) good

pub returns : goal.returns
returns c = sym (c.before.loop-n.invariant ∙ larger_end c.before.before.args.coefs.now c.before.loop-n.n (omega arith))
