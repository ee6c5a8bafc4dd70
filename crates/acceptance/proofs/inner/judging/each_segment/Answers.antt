-- `acceptance::inner::judging::each_segment` meets its contract: `Passed` before each segment. Assumes nothing.
use mathlib.Core.Path.{◌≡◌, sym, ◌∙◌}
use mathlib.Core.Bool.{false}
use mathlib.Core.List.{List}
use Prim.Native.Nat.{ℕ, ◌<◌}
use lib.IntN.{ℤ, pos, neg_ℤ, ◌-ℤ◌}
use lib.ListN.{length}
use mir.Syntax.{w64}
use mir.Val.{of_z, to_z}
use mir.Facts.{to_z-of_z}
use Rattle.whole.specs.Ranges.{fit_hyp}
use Rattle.chebyshev.specs.Polynomials.{S}
use Rattle.chebyshev.specs.Segment.{value, InRange}
use Rattle.analysis.proofs.Theorems.{value_bound}
use Rattle.series.specs.Series.{segment, segments}
use Rattle.series.specs.declared.Body.{Body}
use Rattle.series.specs.Bodies.{numbers}
use Rattle.series.specs.Acceptance.{bad_range, slow}
use Rattle.series.proofs.theory.Known.{segment_length_lem}
use Rattle.series.proofs.theory.Span.{first_within, last_within}
use Rattle.acceptance.proofs.Pass.{pass_start, pass_refused, pass_end, pass_turn, part_in_range}
use Rattle.acceptance.proofs.inner.judging.each_segment.Goals as goal
use Rattle.acceptance.proofs.inner.judging.each_segment.Goals.{After-ends_of-ends, After-out_of_range, After-too_slow, Else-out_of_range}

module _ (c : After-out_of_range) where
  abbrev body_of : Body
  body_of = c.args.body

  abbrev coefs_of : List ℤ
  coefs_of = c.args.coefs.now

  abbrev k_of : ℕ
  k_of = c.loop-k.k

  at_part : c.segment_of-part.result.now ≡ segment coefs_of k_of
  at_part = c.segment_of-part.ensures.words

  at_below : k_of < segments coefs_of
  at_below = c.loop-k-test.true

  at_judged : c.out_of_range.result ≡ bad_range coefs_of k_of
  at_judged = rw at_part at c.out_of_range.ensures

module _ (c : Else-out_of_range) where
  at_good : bad_range (coefs_of c.before) (k_of c.before) ≡ false
  at_good = sym (at_judged c.before) ∙ c.if-out_of_range.false

  at_range : InRange (segment (coefs_of c.before) (k_of c.before))
  at_range = part_in_range (body_of c.before) (coefs_of c.before) c.loop-k.invariant (at_below c.before) at_good

  at_segment : (length c.segment_of-part.result.now ≡ 14) × InRange c.segment_of-part.result.now
  at_segment = rw (at_part c.before) (segment_length_lem (coefs_of c.before) (k_of c.before) (at_below c.before), at_range)

at_slope : (c : After-too_slow) → (c.too_slow.result ≡ slow (body_of c.before.before) (coefs_of c.before.before) (k_of c.before.before))
at_slope c = rw (at_part c.before.before) at c.too_slow.ensures

module _ (c : After-ends_of-ends) where
  abbrev good_of : Else-out_of_range
  good_of = c.before.before.before

  abbrev part_of_lem : List ℤ
  part_of_lem = segment (coefs_of good_of.before) (k_of good_of.before)

  at_first : to_z w64 (of_z w64 c.ends_of-ends.result.first) ≡ value part_of_lem (neg_ℤ (pos S))
  at_first =
      let is : c.ends_of-ends.result.first ≡ value part_of_lem (neg_ℤ (pos S)) = rw (at_part good_of.before) at c.ends_of-ends.ensures.first_value in
      to_z-of_z {w = w64} (rw is (fit_hyp (value_bound (at_range good_of) first_within) tt)) ∙ is

  at_last : to_z w64 (of_z w64 c.ends_of-ends.result.last) ≡ value part_of_lem (pos S -ℤ pos (numbers (body_of good_of.before)).step)
  at_last =
      let is : c.ends_of-ends.result.last ≡ value part_of_lem (pos S -ℤ pos (numbers (body_of good_of.before)).step) = rw (at_part good_of.before) at c.ends_of-ends.ensures.last_value in
      to_z-of_z {w = w64} (rw is (fit_hyp (value_bound (at_range good_of) (last_within (body_of good_of.before))) tt)) ∙ is

pub loop-k-init : goal.loop-k-init
loop-k-init c = pass_start c.args.body c.args.coefs.now

pub segment_of-part-requires : goal.segment_of-part-requires
segment_of-part-requires c = c.loop-k-test.true

pub out_of_range-requires : goal.out_of_range-requires
out_of_range-requires c = rw c.segment_of-part.ensures.words (segment_length_lem c.args.coefs.now c.loop-k.k c.loop-k-test.true)

pub returns-then-out_of_range : goal.returns-then-out_of_range
returns-then-out_of_range c =
    sym (pass_refused (body_of c.before) (coefs_of c.before) c.loop-k.invariant (at_below c.before) (sym (at_judged c.before) ∙ c.if-out_of_range.true))

pub too_slow-requires : goal.too_slow-requires
too_slow-requires c = record { part_len = (at_segment c).0; in_range = (at_segment c).1 }

pub ends_of-ends-requires : goal.ends_of-ends-requires
ends_of-ends-requires c = record { part_len = (at_segment c.before.before).0; in_range = (at_segment c.before.before).1 }

pub joins_badly-requires : goal.joins_badly-requires
joins_badly-requires c =
    let good = good_of c.before.before in record { within = good.before.before.before.before.loop-k.invariant.last_small; within_2 = rw (at_first c.before.before) (value_bound (at_range good) first_within) }

pub loop-k-preserved : goal.loop-k-preserved
loop-k-preserved c =
    let judged = (good_of c.before.before.before.before).before in
    rw (c.first_of-slow.ensures, at_slope c.before.before.before.before.before.before, c.first_of-joint.ensures, c.joins_badly.ensures, at_first c.before.before.before.before, at_last c.before.before.before.before) (pass_turn (body_of judged) (coefs_of judged) judged.before.before.before.loop-k.invariant (at_below judged) (at_good (good_of c.before.before.before.before)))

pub returns : goal.returns
returns c =
    c.kept_refusal.ensures ∙ sym (pass_end c.args.body c.args.coefs.now c.loop-k.invariant c.loop-k-test.false)
