-- `evaluator::inner::floor_of_sum` meets its contract: `Shifted` at 69,500,000,000 times the scale. Assumes nothing.
use native.Mathlib.Omega.{arith}
use Rattle.chebyshev.specs.Polynomials.{S}
use Rattle.evaluator.proofs.Shifted.{sum_fits, cast_fits, quotient_fits, result_fits, result_is}
use Rattle.evaluator.proofs.inner.floor_of_sum.Goals as goal

pub overflow_add-result : goal.overflow_add-result
overflow_add-result c = sum_fits c.requires c.ranges.t 69500000000 S (omega arith) (omega arith) (omega arith)

pub overflow_cast-result : goal.overflow_cast-result
overflow_cast-result c = cast_fits c.requires c.ranges.t 69500000000 S (omega arith) (omega arith) (omega arith)

pub overflow_cast-result-2 : goal.overflow_cast-result-2
overflow_cast-result-2 c = quotient_fits c.requires c.ranges.t 69500000000 S (omega arith) (omega arith) (omega arith)

pub overflow_sub-result : goal.overflow_sub-result
overflow_sub-result c = result_fits c.requires c.ranges.t 69500000000 S (omega arith) (omega arith) (omega arith)

pub returns : goal.returns
returns c = result_is c.requires c.ranges.t 69500000000 S (omega arith) (omega arith) (omega arith)
