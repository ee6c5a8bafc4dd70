-- `acceptance::inner::judging::floor_by_half` meets its contract: chebyshev's `Shifted` at the half-length of each body. Assumes nothing.
use borrow.Author.Rules.{rules}
use native.Mathlib.Omega.{arith}
use Rattle.evaluator.proofs.Shifted.{sum_fits, cast_fits, quotient_fits, result_fits, result_is}
use Rattle.acceptance.proofs.inner.judging.floor_by_half.Goals as goal

pub enum_told-1 : goal.enum_told-1
enum_told-1 c = search rules

pub overflow_add-result : goal.overflow_add-result
overflow_add-result c = sum_fits c.requires c.ranges.t 8388608 1382400 (omega arith) (omega arith) (omega arith)

pub overflow_cast-result : goal.overflow_cast-result
overflow_cast-result c = cast_fits c.requires c.ranges.t 8388608 1382400 (omega arith) (omega arith) (omega arith)

pub overflow_cast-result-in-Sun : goal.overflow_cast-result-in-Sun
overflow_cast-result-in-Sun c = quotient_fits c.requires c.ranges.t 8388608 1382400 (omega arith) (omega arith) (omega arith)

pub overflow_sub-result : goal.overflow_sub-result
overflow_sub-result c = result_fits c.requires c.ranges.t 8388608 1382400 (omega arith) (omega arith) (omega arith)

pub returns-in-Sun : goal.returns-in-Sun
returns-in-Sun c = rw c.in-Sun.is (result_is c.requires c.ranges.t 8388608 1382400 (omega arith) (omega arith) (omega arith))

pub overflow_add-result-in-Moon : goal.overflow_add-result-in-Moon
overflow_add-result-in-Moon c = sum_fits c.requires c.ranges.t 67108864 172800 (omega arith) (omega arith) (omega arith)

pub overflow_cast-result-in-Moon : goal.overflow_cast-result-in-Moon
overflow_cast-result-in-Moon c = cast_fits c.requires c.ranges.t 67108864 172800 (omega arith) (omega arith) (omega arith)

pub overflow_cast-result-in-Moon-2 : goal.overflow_cast-result-in-Moon-2
overflow_cast-result-in-Moon-2 c = quotient_fits c.requires c.ranges.t 67108864 172800 (omega arith) (omega arith) (omega arith)

pub overflow_sub-result-in-Moon : goal.overflow_sub-result-in-Moon
overflow_sub-result-in-Moon c = result_fits c.requires c.ranges.t 67108864 172800 (omega arith) (omega arith) (omega arith)

pub returns-in-Moon : goal.returns-in-Moon
returns-in-Moon c = rw c.in-Moon.is (result_is c.requires c.ranges.t 67108864 172800 (omega arith) (omega arith) (omega arith))
