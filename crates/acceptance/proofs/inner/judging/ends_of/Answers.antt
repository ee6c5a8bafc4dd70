-- `acceptance::inner::judging::ends_of` meets its contract: the closed forms, which are the values there by `first_value_lem` and `last_value_lem`. Assumes nothing.
use mathlib.Core.Path.{◌≡◌, refl, sym, ◌∙◌}
use mathlib.Core.List.{List, [], ◌∷◌}
use lib.IntN.{ℤ, pos, neg_ℤ, ◌+ℤ◌, ◌-ℤ◌}
use mir.Syntax.{w64}
use mir.Val.{SFits, of_z, to_z}
use Rattle.whole.specs.Floor.{floor_div}
use Rattle.whole.specs.Ranges.{fits, within, fit_hyp, bounds, back}
use Rattle.whole.specs.Solver.{⇑, ring}
use Rattle.chebyshev.specs.Polynomials.{S}
use Rattle.chebyshev.specs.Segment.{value, InRange}
use Rattle.chebyshev.specs.EndValues.{even_sum, odd_sum, square_sum, first_value, last_value}
use Rattle.analysis.proofs.Theorems as theorems
use Rattle.series.specs.declared.Body.{Body}
use Rattle.series.specs.Bodies.{numbers, body_laws}
use Rattle.series.proofs.theory.Span.{last_within}
use Rattle.acceptance.proofs.inner.judging.ends_of.Goals as goal
use Rattle.acceptance.proofs.inner.judging.ends_of.Goals.{After-add-sum, After-even_sum-even, After-floor_by_half, After-odd_sum-odd, After-square_sum, After-subtract-down, After-subtract-first}

first_is : (c : List ℤ) → even_sum c -ℤ odd_sum c ≡ value c (neg_ℤ (pos S))
unfolding first_value
first_is c = sym (theorems.first_value_lem c)

last_is : (body : Body) (c : List ℤ) → even_sum c +ℤ odd_sum c +ℤ floor_div (neg_ℤ (square_sum c)) (numbers body).half_length ≡ value c (pos S -ℤ pos (numbers body).step)
unfolding last_value
last_is body c = sym (theorems.last_value_lem c (numbers body).step (numbers body).half_length (body_laws body).exact_step (body_laws body).small_step)

last_fits : (body : Body) {c : List ℤ} → InRange c → SFits w64 (even_sum c +ℤ odd_sum c +ℤ floor_div (neg_ℤ (square_sum c)) (numbers body).half_length)
last_fits body {c} r = rw (last_is body c) (fit_hyp (theorems.value_bound r (last_within body)) tt)

minus : (z : ℤ) → pos 0 -ℤ z ≡ neg_ℤ z
minus z = ⇑ (z ∷ []) (search ring depth 9) refl

at_even : (c : After-even_sum-even) → to_z w64 (of_z w64 c.even_sum-even.result) ≡ even_sum c.args.part.now
at_even c = back c.even_sum-even.result c.even_sum-even.type_inv ∙ c.even_sum-even.ensures

at_odd : (c : After-odd_sum-odd) → to_z w64 (of_z w64 c.odd_sum-odd.result) ≡ odd_sum c.args.part.now
at_odd c = back c.odd_sum-odd.result c.odd_sum-odd.type_inv ∙ c.odd_sum-odd.ensures

at_square : (c : After-square_sum) → to_z w64 (of_z w64 c.square_sum.result) ≡ square_sum c.args.part.now
at_square c = back c.square_sum.result c.square_sum.type_inv ∙ c.square_sum.ensures

-- where the three sums are known
module _ (c : After-subtract-down) where
  abbrev body_of : Body
  body_of = c.args.body

  abbrev part_of_lem : List ℤ
  part_of_lem = c.args.part.now

  range_of : InRange part_of_lem
  range_of = c.requires.in_range

  even_of : to_z w64 (of_z w64 c.even_sum-even.result) ≡ even_sum part_of_lem
  even_of = at_even c.before.before.before

  odd_of : to_z w64 (of_z w64 c.odd_sum-odd.result) ≡ odd_sum part_of_lem
  odd_of = at_odd c.before.before

  down_of : to_z w64 (of_z w64 c.subtract-down.result) ≡ neg_ℤ (square_sum part_of_lem)
  down_of = back c.subtract-down.result c.subtract-down.type_inv ∙ (rw (at_square c.before) at c.subtract-down.ensures) ∙ minus (square_sum part_of_lem)

at_first : (c : After-subtract-first) → to_z w64 (of_z w64 c.subtract-first.result) ≡ even_sum (part_of_lem c.before) -ℤ odd_sum (part_of_lem c.before)
at_first c = back c.subtract-first.result c.subtract-first.type_inv ∙ (rw (even_of c.before, odd_of c.before) at c.subtract-first.ensures)

at_sum : (c : After-add-sum) → (to_z w64 (of_z w64 c.add-sum.result) ≡ even_sum (part_of_lem c.before.before) +ℤ odd_sum (part_of_lem c.before.before))
at_sum c = back c.add-sum.result c.add-sum.type_inv ∙ (rw (even_of c.before.before, odd_of c.before.before) at c.add-sum.ensures)

at_quotient : (c : After-floor_by_half) → (to_z w64 (of_z w64 c.floor_by_half.result) ≡ floor_div (neg_ℤ (square_sum (part_of_lem c.before.before.before))) (numbers (body_of c.before.before.before)).half_length)
at_quotient c = back c.floor_by_half.result c.floor_by_half.type_inv ∙ (rw (down_of c.before.before.before) at c.floor_by_half.ensures)

pub subtract-down-requires : goal.subtract-down-requires
subtract-down-requires c = let small = theorems.square_sum_bound c.requires.in_range in rw (at_square c) (fits (search bounds) tt)

pub subtract-first-requires : goal.subtract-first-requires
subtract-first-requires c =
    let even = theorems.even_sum_bound (range_of c) in
    let odd = theorems.odd_sum_bound (range_of c) in
    rw (even_of c, odd_of c) (fits (search bounds) tt)

pub add-sum-requires : goal.add-sum-requires
add-sum-requires c =
    let even = theorems.even_sum_bound (range_of c.before) in
    let odd = theorems.odd_sum_bound (range_of c.before) in
    rw (even_of c.before, odd_of c.before) (fits (search bounds) tt)

pub floor_by_half-requires : goal.floor_by_half-requires
floor_by_half-requires c =
    let small = theorems.square_sum_bound (range_of c.before.before) in
    rw (down_of c.before.before) (within (search bounds) tt)

pub add-last-requires : goal.add-last-requires
add-last-requires c =
    rw (at_sum c.before, at_quotient c) (last_fits (body_of c.before.before.before) (range_of c.before.before.before))

pub returns : goal.returns
returns c = record { first_value = at_first c.before.before.before ∙ first_is (part_of_lem c.before.before.before.before); last_value = back c.add-last.result c.add-last.type_inv ∙ (rw (at_sum c.before.before, at_quotient c.before) at c.add-last.ensures) ∙ last_is (body_of c.before.before.before.before) (part_of_lem c.before.before.before.before) }
