-- `evaluator::inner::value` meets its contract. The invariant: the two polynomials held are P(n-2) and P(n-1), and the sum runs to n - 1.
-- Assumes nothing.
use mathlib.Core.Path.{◌≡◌, ap, ◌∙◌}
use Prim.Native.Nat.{◌<◌}
use native.Mathlib.Omega.{arith}
use mir.Syntax.{w64}
use mir.Val.{to_z, of_z}
use mir.Facts.{to_z-of_z}
use Rattle.whole.specs.Ranges.{Within, fits, fit_hyp, within, bounds}
use Rattle.whole.specs.Floor.{floor_div}
use Rattle.chebyshev.specs.Polynomials.{S}
use Rattle.chebyshev.specs.Segment.{coefficient, InRange, value}
use Rattle.evaluator.proofs.Read.{coefficient_back, constant_back}
use Rattle.evaluator.proofs.Turn.{Held, held_start, held_turn, held_end, before_small, here_small, total_small, after_small, product_fits, sum_fits, result_fits}
use Rattle.evaluator.proofs.inner.value.Goals as goal
use Rattle.evaluator.proofs.inner.value.Goals.{After-floor_of_sum, After-sum-in-loop-n-1, Start}

-- the place, as the loop reads it
place : (s : Start) → Within S (to_z w64 (of_z w64 s.args.x))
place s = rw (to_z-of_z s.ranges.x) s.requires.within

pub overflow_mul-sum : goal.overflow_mul-sum
overflow_mul-sum c =
    let s = c.before in
    let w = place s in
    let b = s.requires.in_range.others 1 (omega arith) in
    fits (search bounds) tt

pub loop-n-init : goal.loop-n-init
loop-n-init c =
    let s = c.before in
    let r = s.requires.in_range in
    rw (to_z-of_z (overflow_mul-sum c), coefficient_back r 1 (omega arith)) (held_start r (place s))

pub next-after-requires : goal.next-after-requires
next-after-requires c =
    let l = c.before in
    let s = l.before.before in record { within = place s; within_2 = here_small s.requires.in_range (place s) l.loop-n.invariant; within_3 = before_small s.requires.in_range (place s) l.loop-n.invariant }

-- the polynomial that the turn makes
module _ (c : After-sum-in-loop-n-1) where
  abbrev start : Start
  start = c.before.before.before.before.before

  abbrev range : InRange start.args.coefs.now
  range = start.requires.in_range

  abbrev held : Held start.args.coefs.now (to_z w64 (of_z w64 start.args.x)) (to_z w64 c.before.before.before.loop-n.before-bits) (to_z w64 c.before.before.before.loop-n.here-bits) (to_z w64 c.before.before.before.loop-n.sum-bits) c.before.before.before.loop-n.n
  held = c.before.before.before.loop-n.invariant

  less : c.before.before.before.loop-n.n < 14
  less = omega arith

  after_back : to_z w64 (of_z w64 c.before.next-after.result) ≡ c.before.next-after.result
  after_back = to_z-of_z {w = w64} (fit_hyp (after_small range (place start) held less c.before.next-after.ensures) tt)

  back : to_z w64 (of_z w64 (coefficient start.args.coefs.now c.before.before.before.loop-n.n)) ≡ coefficient start.args.coefs.now c.before.before.before.loop-n.n
  back = coefficient_back range c.before.before.before.loop-n.n (omega (arith, held.low))

pub overflow_mul-sum-in-loop-n : goal.overflow_mul-sum-in-loop-n
overflow_mul-sum-in-loop-n c = rw (back c, after_back c) (product_fits (range c) (place (start c)) (held c) (less c) c.before.next-after.ensures)

pub overflow_add-sum : goal.overflow_add-sum
overflow_add-sum c = rw (to_z-of_z (overflow_mul-sum-in-loop-n c), back c, after_back c) (sum_fits (range c) (place (start c)) (held c) (less c) c.before.next-after.ensures)

pub loop-n-preserved : goal.loop-n-preserved
loop-n-preserved c = rw (to_z-of_z (overflow_add-sum c), to_z-of_z (overflow_mul-sum-in-loop-n c), back c, after_back c) (held_turn (range c) (place (start c)) (held c) (less c) c.before.next-after.ensures)

pub floor_of_sum-requires : goal.floor_of_sum-requires
floor_of_sum-requires c =
    let l = c.before.before in
    let s = l.before.before in
    let h = total_small s.requires.in_range (place s) l.loop-n.invariant in
    within (search bounds) tt

-- what the last division gives
quotient : (c : After-floor_of_sum) → to_z w64 (of_z w64 c.floor_of_sum.result) ≡ floor_div (to_z w64 c.before.before.before.loop-n.sum-bits) S
quotient c = to_z-of_z {w = w64} (record { sfits = c.floor_of_sum.type_inv }) ∙ c.floor_of_sum.ensures

pub overflow_add-result : goal.overflow_add-result
overflow_add-result c =
    let l = c.before.before.before in
    let s = l.before.before in
    rw (constant_back s.requires.in_range, quotient c) (result_fits s.requires.in_range (place s) l.loop-n.invariant)

pub returns : goal.returns
returns c =
    let l = c.before.before.before in
    let s = l.before.before in
    to_z-of_z (overflow_add-result c)
    ∙ rw (constant_back s.requires.in_range, quotient c) (held_end s.requires.in_range (place s) l.loop-n.invariant (omega arith))
    ∙ ap (value s.args.coefs.now) (to_z-of_z s.ranges.x)
